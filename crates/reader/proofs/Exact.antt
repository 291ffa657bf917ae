-- The machine takes exactly the systems, and stops exactly where no continuation is a system.
use Rattle.std.proofs.lemmas.Option.{none-some}
use Rattle.std.proofs.Common.{◌≡◌, ◌↔◌, List, [], ◌∷◌, ◌++◌, sym, refl, ap, ◌∙◌, subst, Some, None, Option}
use Rattle.tokens.specs.Kinds.{Kind, number, capital, equals, semicolon, closes}
use Rattle.reader.specs.Grammar.{IsSystem, Viable}
use Rattle.systems.specs.Trees.{System}
use Rattle.reader.proofs.Derivations.{Term, Line, tokens_of, system_of}
use Rattle.reader.proofs.Related.{system_is, system_from}
use Rattle.reader.proofs.Machine.{Pre, with_factor, with_term, Place, side, within, State, at, after_left, need, have, run, run-++, run_none, complete, close_same}
use Rattle.reader.proofs.Sound.{start, sound}

-- a shortest way to end
abbrev shut : Place → List Kind
shut (side es c) = semicolon ∷ []
shut (within g b p m) = closes g ∷ shut b

abbrev ending : State → List Kind
ending (at es) = capital 65 ∷ equals ∷ number (48 ∷ []) ∷ semicolon ∷ []
ending (after_left es c) = equals ∷ number (48 ∷ []) ∷ semicolon ∷ []
ending (need b p m) = number (48 ∷ []) ∷ shut b
ending (have b p t) = shut b

abbrev pub Ended : Option State → Type 0
Ended o = (q : Line) × (qs : List Line) × (o ≡ Some (at (q ∷ qs)))

snoc_ended : (es : List Line) (e : Line) → Ended (Some (at (es ++ (e ∷ []))))
snoc_ended [] e = (e, [], refl)
snoc_ended (q ∷ es) e = (q, es ++ (e ∷ []), refl)

shut_ends : (b : Place) (p : Pre) (t : Term) → Ended (run (Some (have b p t)) (shut b))
shut_ends (side es c) p t = snoc_ended es _
shut_ends (within g b q m) p t = subst (λ o. Ended (run o (shut b))) (sym (close_same g b q m (with_term p t))) (shut_ends b q (with_factor m _))

ends : (st : State) → Ended (run (Some st) (ending st))
ends (at es) = snoc_ended es _
ends (after_left es c) = snoc_ended es _
ends (need b p m) = shut_ends b p _
ends (have b p t) = shut_ends b p t

-- the machine ends with whole lines exactly on the systems of the grammar
pub accepts : (ts : List Kind) → ((S : System) × IsSystem ts S) ↔ Ended (run start ts)
accepts ts = (
  λ s. let d = system_from s.1 in (d.0, d.1, ap (run start) (sym d.2) ∙ complete (d.0 ∷ d.1)),
  λ e. (system_of (e.0 ∷ e.1), subst (λ (l : List Kind). IsSystem l (system_of (e.0 ∷ e.1))) (sound ts _ e.2) (system_is e.0 e.1)),
)

abbrev pub Going : Option State → Type 0
Going o = (st : State) × (o ≡ Some st)

going : (o : Option State) (ts : List Kind) → Ended (run o ts) → Going o
going None ts e = absurd (none-some _ (sym (run_none ts) ∙ e.2))
going (Some st) ts e = (st, refl)

-- it still goes exactly where the tokens can be continued to a system
pub viable : (ts : List Kind) → Viable ts ↔ Going (run start ts)
viable ts = (
  λ v. going (run start ts) v.0 (subst Ended (run-++ start ts v.0) ((accepts (ts ++ v.0)).0 (v.1, v.2))),
  λ g. let s = (accepts (ts ++ ending g.0)).1 (subst Ended (sym (run-++ start ts (ending g.0) ∙ ap (λ o. run o (ending g.0)) g.1)) (ends g.0)) in (ending g.0, s.0, s.1),
)

equations : Option State → List Line
equations None = []
equations (Some (at es)) = es
equations (Some (after_left es c)) = []
equations (Some (need b p m)) = []
equations (Some (have b p t)) = []

-- a list of tokens is that of one list of lines at most
pub one_lines : (qs rs : List Line) → tokens_of qs ≡ tokens_of rs → qs ≡ rs
unfolding equations
one_lines qs rs e = ap equations (sym (complete qs) ∙ ap (run start) e ∙ complete rs)

-- the grammar is unambiguous
pub one_reading : (ts : List Kind) (S R : System) → IsSystem ts S → IsSystem ts R → S ≡ R
one_reading ts S R h k =
    let d = system_from h in
    let e = system_from k in
    sym d.3 ∙ ap system_of (one_lines (d.0 ∷ d.1) (e.0 ∷ e.1) (d.2 ∙ sym e.2)) ∙ e.3
