-- What is written of the tokens of an accepted text.
use Rattle.std.proofs.Common.{◌≡◌, ℕ, List, [], ◌∷◌, fold, sym, refl, ◌∙◌, subst, Some, None, Option}
use Rattle.systems.specs.Trees.{System}
use Rattle.tokens.specs.Kinds.{digit}
use Rattle.tokens.specs.Tokens.{Token, Tokens, ends, goes_on, Every}
use Rattle.tokens.proofs.Listing.{only_tokens}
use Rattle.reader.specs.declared.fault.Rule.{Rule}
use Rattle.reader.specs.declared.progress.Progress.{Progress}
use Rattle.reader.specs.Examining.{Accepts}
use Rattle.reader.specs.Inner.Progress.{after as read_after, nothing_read}
use Rattle.reader.specs.Rules.{kinds}
use Rattle.reader.specs.Sorts.{digits_of}
use Rattle.reader.proofs.Machine.{State, at}
use Rattle.reader.proofs.Faults.{test, first, rules, stepped, end, scan}
use Rattle.reader.proofs.Follow.{Code, unbroken, follows, same_tests}
use Rattle.reader.proofs.Reading.{begin, accepted_ends, scan_by, tests_step}
use Rattle.reader.proofs.Signs.{Letters, all_letters, spelled_digits}
use Rattle.records.specs.declared.writer.Writer.{Writer}
use Rattle.records.specs.Inner.Writing.{nothing_written, after, Written}
use Rattle.records.proofs.Written.{Writes, writes_none, few, moves, all_written}

-- the digits of each token are digits
abbrev AllDigits : List Token → Type 0
AllDigits [] = Unit {0}
AllDigits (t ∷ ts) = Every digit (digits_of t.kind) × AllDigits ts

all_digits : {p : ℕ} {bs : List ℕ} {ts : List Token} → Tokens p bs ts → AllDigits ts
all_digits (ends p gap h) = tt
all_digits (goes_on p gap word rest k ts h spelled more) = (spelled_digits spelled, all_digits more)

-- tokens that break no rule, from a state of the machine to another
writes_all : (ts : List Token) (st : State) (s : Progress) (w : Writer) (fin : State) → Letters ts → AllDigits ts → Code st s → scan st ts ≡ end fin → Writes st w → Writes fin (fold after w (kinds ts))
writes_all [] st s w fin l d c e h = let same : st ≡ fin = cc in subst (λ (x : State). Writes x w) same h
writes_all (t ∷ ts) st s w fin l d c e h = go (first (test st t.kind) rules) refl (writes_all ts (stepped st t.kind) (read_after s t.kind) (after w t.kind) fin l.1 d.1)
  where
    to : State
    to = stepped st t.kind

    go : (o : Option Rule) → first (test st t.kind) rules ≡ o → (Code to (read_after s t.kind) → scan to ts ≡ end fin → Writes to (after w t.kind) → Writes fin (fold after (after w t.kind) (kinds ts))) → Writes fin (fold after (after w t.kind) (kinds ts))
    go (Some k) x more = let stops = scan_by st t ts (Some k) x in absurd (cc (stops, e))
    go None x more =
        let goes = tests_step st t.kind x in
        let whole = unbroken s t.kind (same_tests st s t.kind c ∙ x) in
        let next = follows st to s t.kind goes c whole l.0 in
        more next (sym (scan_by st t ts None x) ∙ e) (moves st to t.kind goes w s c whole d.0 (few to (read_after s t.kind) next) h)

-- all tokens of an accepted text
pub writes_system : (text : List ℕ) (S : System) (h : Accepts text S) → Written S (fold after nothing_written (kinds h.tokens))
writes_system text S h =
    let same = only_tokens h.listed in
    let fin = accepted_ends text S h in
    subst (λ (R : System). Written R (fold after nothing_written (kinds h.tokens))) fin.system
    (all_written fin.lines _
    (writes_all h.tokens (at []) nothing_read nothing_written (at fin.lines) (subst Letters same (all_letters text 0)) (all_digits h.listed)
    begin (subst (λ ts. scan (at []) ts ≡ end (at fin.lines)) same fin.scans) writes_none))
