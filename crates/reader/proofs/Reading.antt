-- What a turn of the reader's loop keeps, and what its ends answer.
use Rattle.std.proofs.Common.{◌≡◌, ℕ, zero, suc, ◌+◌, ◌≤◌, Bool, true, false, cond, not, List, [], ◌∷◌, length, get_or, replicate, Ok, Err, Result, sym, refl, ap, ◌∙◌, subst, arith, Some, None, Option}
use Rattle.std.specs.Option.{option_map}
use Rattle.tokens.specs.Kinds.{Kind}
use Rattle.tokens.specs.Tokens.{Token, Tokens}
use Rattle.tokens.proofs.Listing.{tokens_from, tokens_listed, only_tokens}
use Rattle.reader.specs.declared.fault.Rule.{Rule}
use Rattle.reader.specs.declared.fault.Rule.TheVariants.{NotAllowed, NoEquation}
use Rattle.reader.specs.declared.fault.TextFault.{TextFault}
use Rattle.reader.specs.declared.progress.Phase.TheVariants.{Between}
use Rattle.reader.specs.declared.progress.Progress.{Progress}
use Rattle.systems.specs.Trees.{System}
use Rattle.reader.specs.Examining.{Accepts, fault, Faulty, product_signs, Examined}
use Rattle.reader.specs.Nodes.{nodes}
use Rattle.reader.specs.Inner.Progress.{after, breaks, nothing_read, lacks, missing}
use Rattle.reader.specs.Rules.{kinds, Clean}
use Rattle.reader.proofs.Derivations.{Line, system_of, has}
use Rattle.reader.proofs.Related.{system_from}
use Rattle.reader.proofs.Machine.{State, at, after_left, need, have, step, run, complete}
use Rattle.reader.proofs.Sound.{start}
use Rattle.reader.proofs.Sizes.{same_nodes}
use Rattle.reader.proofs.Faults.{test, first, rules, stepped, steps, least, Least, ascending, among_all, Scan, stop, end, scan, Scanned, scanned, not_none, unknown}
use Rattle.reader.proofs.Follow.{Code, phase_of, unbroken, follows, same_tests, same_name}
use Rattle.reader.proofs.Signs.{Letters, all_letters, star_signs}
use Rattle.reader.specs.Sorts.{count, is_star}
use Rattle.reader.proofs.Answering.{examined_scan}

blank : (n c : ℕ) → get_or (replicate n false) c false ≡ false
blank zero c = refl
blank (suc n) zero = refl
blank (suc n) (suc c) = blank n c

pub begin : Code (at []) nothing_read
begin = record {
  phase = refl;
  left = refl;
  byte = λ c e. absurd (cc);
  enclosing = refl;
  deep = omega arith;
  opened = refl;
  squared = refl;
  nodes = refl;
  few = omega arith;
  size = refl;
  defined = blank 256;
}

-- ---- the scan, by its first token

pub scan_by : (st : State) (t : Token) (ts : List Token) (o : Option Rule) → first (test st t.kind) rules ≡ o → scan st (t ∷ ts) ≡ elim o [ None ↦ scan (stepped st t.kind) ts | Some k ↦ stop k t.place ]
scan_by st t ts o e = ap {B = Scan} (λ (o : Option Rule). elim o [ None ↦ scan (stepped st t.kind) ts | Some k ↦ stop k t.place ]) e

-- where no test fails, the machine steps
pub tests_step : (st : State) (t : Kind) → first (test st t) rules ≡ None → step st t ≡ Some (stepped st t)
tests_step st t e =
    let ok : Least (test st t) rules None = subst (Least (test st t) rules) e (least (test st t) rules ascending) in
    steps (step st t) st (ok NotAllowed (among_all NotAllowed))

-- ---- the reader stands at a state of the machine, with tokens to read

pub record Stands (text : List ℕ) (ts : List Token) (st : State) (s : Progress) : Type 0 where
  pub short : length text ≤ 4096
  pub follows : Code st s
  pub letters : Letters ts
  pub scans : scan (at []) (tokens_from 0 text) ≡ scan st ts

-- a token that breaks no rule: no test of the machine fails
whole_tests : (st : State) (s : Progress) (t : Kind) → Code st s → breaks s t ≡ None → first (test st t) rules ≡ None
whole_tests st s t c e = sym (same_tests st s t c) ∙ e

-- the reader has the tokens `ts` to read
abbrev pub Reads : List ℕ → List Token → Progress → Type 0
Reads text ts s = (st : State) × Stands text ts st s

pub standing : {text : List ℕ} {ts : List Token} → length text ≤ 4096 → Tokens 0 text ts → (s : Progress) → s ≡ nothing_read → Reads text ts s
standing {text} h w s e = (
  at [],
  record {
    short = h;
    follows = subst (Code (at [])) (sym e) begin;
    letters = subst Letters (only_tokens w) (all_letters text 0);
    scans = ap (scan (at [])) (only_tokens w);
  },
)

-- with the product signs counted so far, those of the tokens to read make up those of the text
abbrev pub Counts : List ℕ → List Token → ℕ → Type 0
Counts text ts n = n + count is_star (kinds ts) ≡ product_signs text

pub none_counted : {text : List ℕ} {ts : List Token} → Tokens 0 text ts → Counts text ts 0
none_counted {text} w = subst (λ (l : List Token). Counts text l 0) (only_tokens w) (omega (arith, star_signs 0 text))

pub one_counted : (text : List ℕ) (n : ℕ) (us : List Token) (t : Token) (ts : List Token) → us ≡ t ∷ ts → Counts text us n → Counts text ts (n + cond (is_star t.kind) 1 0)
one_counted text n us t ts e h =
    let split : n + (cond {A = ℕ} (is_star t.kind) 1 0 + count is_star (kinds ts)) ≡ product_signs text = subst (λ (l : List Token). Counts text l n) e h in
    omega (arith, split)

pub all_counted : (text : List ℕ) (us : List Token) (n : ℕ) → us ≡ [] → Counts text us n → n ≡ product_signs text
all_counted text us n e h =
    let none : n + 0 ≡ product_signs text = subst (λ (l : List Token). Counts text l n) e h in
    omega (arith, none)

module _ {text : List ℕ} {us : List Token} {s : Progress} (h : Reads text us s) where
  module _ (t : Token) (ts : List Token) (first_is : us ≡ t ∷ ts) where
    stands : Stands text (t ∷ ts) h.0 s
    stands = subst (λ (l : List Token). Stands text l h.0 s) first_is h.1

    -- a token that breaks a rule
    pub stopped : (k : Rule) → breaks s t.kind ≡ Some k → Faulty text (fault k t.place)
    stopped k e =
        let broken = sym (same_tests h.0 s t.kind stands.follows) ∙ e in
        examined_scan text stands.short (stop k t.place) (stands.scans ∙ scan_by h.0 t ts (Some k) broken)

    -- one that breaks none: the machine steps
    pub turned : breaks s t.kind ≡ None → (to : Progress) → to ≡ after s t.kind → Reads text ts to
    turned e to same =
        let w = whole_tests h.0 s t.kind stands.follows e in
        let next = follows h.0 (stepped h.0 t.kind) s t.kind (tests_step h.0 t.kind w) stands.follows (unbroken s t.kind e) stands.letters.0 in (
          stepped h.0 t.kind,
          record {
            short = stands.short;
            follows = subst (Code (stepped h.0 t.kind)) (sym same) next;
            letters = stands.letters.1;
            scans = stands.scans ∙ scan_by h.0 t ts None w;
          },
        )

  ended : us ≡ [] → scan (at []) (tokens_from 0 text) ≡ end h.0
  ended e = h.1.scans ∙ ap (scan h.0) e

  -- the end of the text inside an equation, or before the first
  pub cut_short : us ≡ [] → (s.phase ≡ Between → ⊥) → Faulty text (fault NotAllowed (length text))
  cut_short over n = go h.0 (λ same. n (h.1.follows.phase ∙ same)) (ended over)
    where
      go : (to : State) → (phase_of to ≡ Between → ⊥) → scan (at []) (tokens_from 0 text) ≡ end to → Faulty text (fault NotAllowed (length text))
      go (at []) n e = examined_scan text h.1.short _ e
      go (at (q ∷ qs)) n e = absurd (n refl)
      go (after_left es a) n e = examined_scan text h.1.short _ e
      go (need b p m) n e = examined_scan text h.1.short _ e
      go (have b p t) n e = examined_scan text h.1.short _ e

-- ---- reading an accepted text again

-- on the tokens of a system that break no rule the machine comes to the end
pub accepted_scan : (ts : List Token) (fin : State) → Clean ts → run start (kinds ts) ≡ Some fin → scan (at []) ts ≡ end fin
accepted_scan ts fin clean e = go (scan (at []) ts) (scanned ts [] (at []) refl (λ b u a z. absurd (not_none b u a z)))
  where
    go : (s : Scan) → Scanned ts s → s ≡ end fin
    go (stop k p) h = absurd (clean h.before h.at h.after h.split k h.breaks)
    go (end st) h = let same : st ≡ fin = cc (h.1, e) in ap end same

-- the lines of an accepted text, and that the machine comes to the end of them
pub record Ends (text : List ℕ) (S : System) : Type 0 where
  pub lines : List Line
  pub system : system_of lines ≡ S
  pub scans : scan (at []) (tokens_from 0 text) ≡ end (at lines)

pub accepted_ends : (text : List ℕ) (S : System) → Accepts text S → Ends text S
accepted_ends text S h =
    let d = system_from h.system in
    let same = only_tokens h.listed in
    record {
      lines = d.0 ∷ d.1;
      system = d.3;
      scans = accepted_scan (tokens_from 0 text) (at (d.0 ∷ d.1)) (subst Clean (sym same) h.clean) (ap (λ ts. run start (kinds ts)) same ∙ ap (run start) (sym d.2) ∙ complete (d.0 ∷ d.1));
    }

-- what is known of a text at the end of it
coded_end : (fin : State) (ts : List Token) (st : State) (s : Progress) → Letters ts → Code st s → scan st ts ≡ end fin → (r : Progress) × Code fin r
coded_end fin [] st s l c e = let same : st ≡ fin = cc in (s, subst (λ (x : State). Code x s) same c)
coded_end fin (t ∷ ts) st s l c e = go (first (test st t.kind) rules) refl (coded_end fin ts (stepped st t.kind) (after s t.kind) l.1)
  where
    go : (o : Option Rule) → first (test st t.kind) rules ≡ o → (Code (stepped st t.kind) (after s t.kind) → scan (stepped st t.kind) ts ≡ end fin → (r : Progress) × Code fin r) → (r : Progress) × Code fin r
    go (Some k) w more = let stops = scan_by st t ts (Some k) w in absurd (cc (stops, e))
    go None w more =
        let whole = same_tests st s t.kind c ∙ w in
        more (follows st (stepped st t.kind) s t.kind (tests_step st t.kind w) c (unbroken s t.kind whole) l.0) (sym (scan_by st t ts None w) ∙ e)

pub few_nodes : (text : List ℕ) (es : List Line) → scan (at []) (tokens_from 0 text) ≡ end (at es) → nodes (system_of es) ≤ 64
few_nodes text es e =
    let c = coded_end (at es) (tokens_from 0 text) (at []) nothing_read (all_letters text 0) begin e in
    omega (arith, same_nodes es, c.1.nodes, c.1.few)

-- ---- the end behind whole equations

placed_cond : (b : Bool) (t : Token) (o : Option Token) → option_map (λ (t : Token). t.place) (cond b (Some t) o) ≡ cond b (Some t.place) (option_map (λ (t : Token). t.place) o)
placed_cond true t o = refl
placed_cond false t o = refl

same_missing : (defined : List Bool) (es : List Line) → ((a : ℕ) → get_or defined a false ≡ has es a) → (ts : List Token) → missing defined ts ≡ unknown es ts
same_missing defined es h [] = refl
same_missing defined es h (t ∷ ts) =
    placed_cond (lacks defined t.kind) t _
    ∙ (λ i. cond (same_name (λ a. not (get_or defined a false)) (λ a. not (has es a)) (λ a. ap not (h a)) t.kind i) (Some t.place) (same_missing defined es h ts i))

abbrev pub by_missing : ℕ → ℕ → Option ℕ → Result (ℕ × ℕ) TextFault
by_missing n m o = elim o [ None ↦ Ok (n, m) | Some p ↦ Err (fault NoEquation p) ]

-- at whole equations, the counts or the first capital without an equation
pub finished : {text : List ℕ} {us : List Token} {s : Progress} → Reads text us s → us ≡ [] → s.phase ≡ Between → (o : Option ℕ) → ((ts : List Token) → Tokens 0 text ts → o ≡ missing s.defined ts)
    → Examined text (by_missing s.nodes (product_signs text) o)
finished {text} {s = s} h over n o found = go h.0 h.1.follows (ended h over) (sym h.1.follows.phase ∙ n)
  where
    all : List Token
    all = tokens_from 0 text

    go : (to : State) → Code to s → scan (at []) (tokens_from 0 text) ≡ end to → phase_of to ≡ Between → Examined text (by_missing s.nodes (product_signs text) o)
    go (at []) c ends same = absurd (cc)
    go (at (q ∷ qs)) c ends same =
        let nodes_are : nodes (system_of (q ∷ qs)) ≡ s.nodes = omega (arith, same_nodes (q ∷ qs), c.nodes) in
        let same_place : o ≡ unknown (q ∷ qs) all = found all (tokens_listed 0 text) ∙ same_missing s.defined (q ∷ qs) c.defined all in
        subst (Examined text) (λ i. by_missing (nodes_are i) (product_signs text) (sym same_place i)) (examined_scan text h.1.short (end (at (q ∷ qs))) ends)
    go (after_left es d) c ends same = absurd (cc)
    go (need b p m) c ends same = absurd (cc)
    go (have b p t) c ends same = absurd (cc)
