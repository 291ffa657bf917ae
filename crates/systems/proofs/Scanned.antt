-- The side conditions, and conditions on inputs, checked by computation.
use Rattle.std.proofs.Common.{◌≡◌, ℕ, Bool, true, false, not, ◌&&◌, ◌||◌, eqb, [], ◌∷◌, ◌++◌, sym, refl, ap, ◌∙◌, subst, inl, inr, append_assoc, append-nil}
use mathlib.Core.List.{head-eq_of_cons-eq, tail-eq_of_cons-eq}
use Rattle.std.proofs.lemmas.Bool.{and_parts, both_ways, eq-eqb, eqb-true, not-true, or_cases, or_left, or_right}
use Rattle.systems.specs.Trees.{Tree, number, unknown, input, sum, difference, product, bracket, Equation, System, UnknownIn, BareIn, InputIn, UnknownOf, InputOf}
use Rattle.systems.specs.Solving.{Solvable, Stands}
use Rattle.systems.proofs.Standing.{found, placed}

-- ---- whether a letter is an unknown of a system

abbrev pub known : ℕ → System → Bool
known a [] = false
known a (e ∷ S) = eqb a e.left || known a S

pub known_is : (a : ℕ) (S : System) → known a S ≡ true → UnknownOf a S
known_is a [] h = absurd (both_ways false refl h)
known_is a (e ∷ S) h = elim (or_cases (eqb a e.left) (known a S) h) [ inl p ↦ inl (eqb-true a e.left p) | inr p ↦ inr (known_is a S p) ]

is_known : (a : ℕ) (S : System) → UnknownOf a S → known a S ≡ true
is_known a [] h = absurd h
is_known a (e ∷ S) (inl p) = or_left (eqb a e.left) (known a S) (eq-eqb a e.left p)
is_known a (e ∷ S) (inr h) = or_right (eqb a e.left) (known a S) (is_known a S h)

-- ---- whether the letters of a tree pass tests: one for unknowns outside all brackets, one for all unknowns, one for inputs

abbrev passes : (ℕ → Bool) → (ℕ → Bool) → (ℕ → Bool) → Tree → Bool
passes bare deep fed (number k) = true
passes bare deep fed (unknown a) = bare a && deep a
passes bare deep fed (input x) = fed x
passes bare deep fed (sum s t) = passes bare deep fed s && passes bare deep fed t
passes bare deep fed (difference s t) = passes bare deep fed s && passes bare deep fed t
passes bare deep fed (product s t) = passes bare deep fed s && passes bare deep fed t
passes bare deep fed (bracket s) = passes (λ a. true) deep fed s

abbrev Passed : (ℕ → Bool) → (ℕ → Bool) → (ℕ → Bool) → Tree → Type 0
Passed bare deep fed t =
    ((a : ℕ) → BareIn a t → bare a ≡ true) × ((a : ℕ) → UnknownIn a t → deep a ≡ true) × ((x : ℕ) → InputIn x t → fed x ≡ true)

in_both : {bare deep fed : ℕ → Bool} (s t : Tree) → Passed bare deep fed s → Passed bare deep fed t → Passed bare deep fed (sum s t)
in_both s t p r = (
  (λ a h. elim h [ inl w ↦ p.0 a w | inr w ↦ r.0 a w ]),
  (λ a h. elim h [ inl w ↦ p.1 a w | inr w ↦ r.1 a w ]),
  (λ x h. elim h [ inl w ↦ p.2 x w | inr w ↦ r.2 x w ]),
)

passed : (bare deep fed : ℕ → Bool) (t : Tree) → passes bare deep fed t ≡ true → Passed bare deep fed t
passed bare deep fed (number k) h = ((λ a w. absurd w), (λ a w. absurd w), (λ x w. absurd w))
passed bare deep fed (unknown b) h =
    let p = and_parts (bare b) (deep b) h in
    ((λ a w. ap bare w ∙ p.0), (λ a w. ap deep w ∙ p.1), (λ x w. absurd w))
passed bare deep fed (input y) h = ((λ a w. absurd w), (λ a w. absurd w), (λ x w. ap fed w ∙ h))
passed bare deep fed (sum s t) h = let p = and_parts _ _ h in in_both s t (passed bare deep fed s p.0) (passed bare deep fed t p.1)
passed bare deep fed (difference s t) h = let p = and_parts _ _ h in in_both s t (passed bare deep fed s p.0) (passed bare deep fed t p.1)
passed bare deep fed (product s t) h = let p = and_parts _ _ h in in_both s t (passed bare deep fed s p.0) (passed bare deep fed t p.1)
passed bare deep fed (bracket s) h = let p = passed (λ a. true) deep fed s h in ((λ a w. absurd w), p.1, p.2)

-- ---- equation after equation

-- a system with an equation in it is not empty
abbrev Filled : System → Type 0
Filled [] = ⊥
Filled (e ∷ S) = Unit {0}

filled : (S T : System) (e : Equation) → Filled (S ++ (e ∷ T))
filled [] T e = tt
filled (d ∷ S) T e = tt

module _ (fed : ℕ → Bool) (whole : System) where
  -- what is checked of an equation that stands behind others
  abbrev meets : System → Equation → Bool
  meets before e = not (known e.left before) && passes (λ a. known a before) (λ a. known a whole) fed e.right

  abbrev pub scan : System → System → Bool
  scan before [] = true
  scan before (e ∷ rest) = meets before e && scan (before ++ (e ∷ [])) rest

  met : (seen rest : System) → scan seen rest ≡ true → (before after : System) (e : Equation) → Stands before e after rest → meets (seen ++ before) e ≡ true
  met seen [] h before after e p = absurd (subst Filled (sym p) (filled before after e))
  met seen (d ∷ rest) h [] after e p =
      let w : d ≡ e = head-eq_of_cons-eq p in
      subst (λ (X : System). meets X e ≡ true) (sym (append-nil seen)) (subst (λ (c : Equation). meets seen c ≡ true) w (and_parts _ _ h).0)
  met seen (d ∷ rest) h (c ∷ before) after e p =
      let w : d ≡ c = head-eq_of_cons-eq p in
      subst (λ (X : System). meets X e ≡ true) (append_assoc seen (d ∷ []) before ∙ ap (λ (x : Equation). seen ++ (x ∷ before)) w)
      (met (seen ++ (d ∷ [])) rest (and_parts _ _ h).1 before after e (tail-eq_of_cons-eq p))

module _ (fed : ℕ → Bool) (S : System) (h : scan fed S [] S ≡ true) where
  parts : (before after : System) (e : Equation) → Stands before e after S → (known e.left before ≡ false) × Passed (λ a. known a before) (λ a. known a S) fed e.right
  parts before after e p =
      let w = and_parts _ _ (met fed S [] S h before after e p) in
      (not-true _ w.0, passed (λ a. known a before) (λ a. known a S) fed e.right w.1)

  pub solvable : Solvable S
  solvable = record {
    one_each = λ before after e p w. both_ways (known e.left before) (parts before after e p).0 (is_known e.left before w);
    earlier = λ before after e p a w. known_is a before ((parts before after e p).1.0 a w);
    complete = λ e w a v. let x = placed S e w in known_is a S ((parts x.before x.after e x.stands).1.1 a v);
  }

  -- every input passes the test
  pub tested : (x : ℕ) → InputOf x S → fed x ≡ true
  tested x w =
      let v = found (λ e. InputIn x e.right) S w in
      (parts v.before v.after v.equation v.stands).1.2 x v.has
