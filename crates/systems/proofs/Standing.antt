-- Where equations and letters stand in a system.
use Rattle.std.proofs.Common.{◌≡◌, ℕ, ◌<◌, ◌⊎◌, [], ◌∷◌, ◌++◌, length, sym, refl, ap, ◌∙◌, subst, inl, inr, append_assoc, arith}
use Rattle.std.proofs.Math.Decide.{ℕ_discrete}
use Rattle.systems.specs.Trees.{Tree, number, unknown, input, sum, difference, product, bracket, Equation, System, UnknownIn, BareIn, InputIn, SomeEquation, EquationOf, UnknownOf, InputOf}
use Rattle.systems.specs.Solving.{Stands}

either_way : {A B C D : Type 0} → (A → C) → (B → D) → A ⊎ B → C ⊎ D
either_way f g h = elim h [ inl a ↦ inl (f a) | inr b ↦ inr (g b) ]

pub bare_is_in : (t : Tree) (a : ℕ) → BareIn a t → UnknownIn a t
bare_is_in (number k) a h = h
bare_is_in (unknown b) a h = h
bare_is_in (input x) a h = h
bare_is_in (sum s t) a h = either_way (bare_is_in s a) (bare_is_in t a) h
bare_is_in (difference s t) a h = either_way (bare_is_in s a) (bare_is_in t a) h
bare_is_in (product s t) a h = either_way (bare_is_in s a) (bare_is_in t a) h
bare_is_in (bracket s) a h = absurd h

either : {A B : Type 0} → Dec A → Dec B → Dec (A ⊎ B)
either (yes a) d = yes (inl a)
either (no f) (yes b) = yes (inr b)
either (no f) (no g) = no (λ h. elim h [ inl a ↦ f a | inr b ↦ g b ])

input_in? : (x : ℕ) (t : Tree) → Dec (InputIn x t)
input_in? x (number k) = no (λ h. h)
input_in? x (unknown b) = no (λ h. h)
input_in? x (input y) = ℕ_discrete x y
input_in? x (sum s t) = either (input_in? x s) (input_in? x t)
input_in? x (difference s t) = either (input_in? x s) (input_in? x t)
input_in? x (product s t) = either (input_in? x s) (input_in? x t)
input_in? x (bracket s) = input_in? x s

pub input_of? : (x : ℕ) (S : System) → Dec (InputOf x S)
input_of? x [] = no (λ h. h)
input_of? x (e ∷ S) = either (input_in? x e.right) (input_of? x S)

-- ---- equations with a property

module _ (P : Equation → Type 0) where
  in_front : (S T : System) → SomeEquation P S → SomeEquation P (S ++ T)
  in_front [] T h = absurd h
  in_front (d ∷ S) T (inl p) = inl p
  in_front (d ∷ S) T (inr h) = inr (in_front S T h)

  in_between : (S T : System) (e : Equation) → P e → SomeEquation P (S ++ (e ∷ T))
  in_between [] T e h = inl h
  in_between (d ∷ S) T e h = inr (in_between S T e h)

  pub or_last : (S : System) (e : Equation) → SomeEquation P (S ++ (e ∷ [])) → SomeEquation P S ⊎ P e
  or_last [] e (inl p) = inr p
  or_last [] e (inr h) = absurd h
  or_last (d ∷ S) e (inl p) = inl (inl p)
  or_last (d ∷ S) e (inr h) = elim (or_last S e h) [ inl w ↦ inl (inr w) | inr p ↦ inr p ]

  -- such an equation stands at a place of the system
  pub record Found (S : System) : Type 0 where
    pub equation : Equation
    pub has : P equation
    pub before : System
    pub after : System
    pub stands : Stands before equation after S

  pub found : (S : System) → SomeEquation P S → Found S
  found [] h = absurd h
  found (d ∷ S) (inl p) = record { equation = d; has = p; before = []; after = S; stands = refl }
  found (d ∷ S) (inr h) =
      let w = found S h in
      record { equation = w.equation; has = w.has; before = d ∷ w.before; after = w.after; stands = ap (λ X. d ∷ X) w.stands }

-- ---- the place of an equation

length_front : (S T : System) (e : Equation) → length S < length (S ++ (e ∷ T))
length_front [] T e = omega arith
length_front (d ∷ S) T e = let h = length_front S T e in omega arith

module _ {S : System} (before after : System) (e : Equation) (p : Stands before e after S) where
  is_one : (P : Equation → Type 0) → P e → SomeEquation P S
  is_one P h = subst (λ X. SomeEquation P X) (sym p) (in_between P before after e h)

  pub is_equation : EquationOf e S
  is_equation = is_one (λ d. e ≡ d) refl

  pub is_input : (x : ℕ) → InputIn x e.right → InputOf x S
  is_input x h = is_one (λ d. InputIn x d.right) h

  pub still_unknown : (a : ℕ) → UnknownOf a before → UnknownOf a S
  still_unknown a h = subst (λ X. UnknownOf a X) (sym p) (in_front (λ d. a ≡ d.left) before (e ∷ after) h)

  pub place_below : length before < length S
  place_below = subst (λ X. length before < length X) (sym p) (length_front before after e)

  -- what stands before e stands in the system, ahead of e
  pub moved_on : (c d : System) (f : Equation) → Stands c f d before → Stands c f (d ++ (e ∷ after)) S
  moved_on c d f r = p ∙ ap (λ X. X ++ (e ∷ after)) r ∙ append_assoc c (f ∷ d) (e ∷ after)

-- an equation of a system stands at a place of it
pub record Placed (e : Equation) (S : System) : Type 0 where
  pub before : System
  pub after : System
  pub stands : Stands before e after S

pub placed : (S : System) (e : Equation) → EquationOf e S → Placed e S
placed S e h =
    let w = found (λ d. e ≡ d) S h in
    record { before = w.before; after = w.after; stands = subst (λ d. Stands w.before d w.after S) (sym w.has) w.stands }
