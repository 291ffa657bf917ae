-- Two families that satisfy a solvable system below N, for inputs that agree below N, agree below N.
use Rattle.std.proofs.Common.{◌≡◌, ℕ, zero, suc, ◌<◌, ◌≤◌, [], ◌∷◌, ◌++◌, sym, refl, ◌∙◌, subst, inl, inr, append_assoc, le_refl, arith}
use Rattle.std.proofs.Math.Decide.{dec_le}
use Rattle.rings.specs.Model.{RingModel}
use Rattle.systems.specs.Families.{Family}
use Rattle.systems.specs.Trees.{Equation, System, UnknownOf}
use Rattle.systems.specs.Values.{SatisfiesBelow}
use Rattle.systems.specs.Solving.{Solvable, Stands, SameInputs, SameUnknowns}
use Rattle.systems.proofs.Standing.{is_equation, is_input, still_unknown, or_last}
use Rattle.systems.proofs.Causal.{near}

module _ (m : RingModel) (q : ℕ) (S : System) (ok : Solvable S) (N : ℕ) (I J F G : Family)
    (f : SatisfiesBelow m q N S I F) (g : SatisfiesBelow m q N S J G) where
  -- at index n they agree on the unknowns of these equations
  abbrev Here : ℕ → System → Type 0
  Here n T = (a : ℕ) → UnknownOf a T → F a n ≡ G a n

  -- below n and at n, so up to n
  up_to : (n a : ℕ) → ((i : ℕ) → i < n → F a i ≡ G a i) → F a n ≡ G a n → (i : ℕ) → i ≤ n → F a i ≡ G a i
  up_to n a below here i le =
      elim (dec_le n i) [
        | yes ge ↦ let p : n ≡ i = omega arith in subst (λ (k : ℕ). F a k ≡ G a k) p here
        | no lt ↦ below i (omega (arith, lt))
      ]

  -- an equation at n, when those before it agree at n
  at_one : (n : ℕ) → n < N → SameUnknowns S n F G → SameInputs S (suc n) I J → (before after : System) (e : Equation) → Stands before e after S
      → Here n before → F e.left n ≡ G e.left n
  at_one n lt below fed before after e p here =
      f e (is_equation before after e p) n lt
      ∙ near m q I J F G e.right n (
        (λ a h. let w = ok.earlier before after e p a h in up_to n a (below a (still_unknown before after e p a w)) (here a w)),
        (λ a h. below a (ok.complete e (is_equation before after e p) a h)),
        (λ x h i l. fed x (is_input before after e p x h) i (omega arith)),
      )
      ∙ sym (g e (is_equation before after e p) n lt)

  -- equation after equation at n
  at_all : (n : ℕ) → n < N → SameUnknowns S n F G → SameInputs S (suc n) I J → (rest before : System) → S ≡ before ++ rest → Here n before → Here n rest
  at_all n lt below fed [] before p here a h = absurd h
  at_all n lt below fed (e ∷ rest) before p here a (inl w) =
      subst (λ (b : ℕ). F b n ≡ G b n) (sym w) (at_one n lt below fed before rest e p here)
  at_all n lt below fed (e ∷ rest) before p here a (inr h) =
      at_all n lt below fed rest (before ++ (e ∷ [])) (p ∙ sym (append_assoc before (e ∷ []) rest))
      (λ b k. elim (or_last (λ d. b ≡ d.left) before e k) [
        | inl w ↦ here b w
        | inr w ↦ subst (λ (c : ℕ). F c n ≡ G c n) (sym w) (at_one n lt below fed before rest e p here)
      ])
      a h

  -- index after index
  agree : (n : ℕ) → n ≤ N → SameInputs S n I J → SameUnknowns S n F G
  agree zero le fed a h i l = absurd (omega arith)
  agree (suc n) le fed a h i l =
      let below : SameUnknowns S n F G = agree n (omega arith) (λ x k j w. fed x k j (omega arith)) in
      up_to n a (below a h) (at_all n (omega arith) below fed S [] refl (λ b k. absurd k) a h) i (omega arith)

  pub unique : SameInputs S N I J → SameUnknowns S N F G
  unique = agree N (le_refl N)
