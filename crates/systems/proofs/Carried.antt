-- A map that carries the operations carries solutions to solutions, also of a rearranged system.
use Rattle.std.proofs.Common.{◌≡◌, ℕ, ◌<◌, sym, refl, ap, ◌∙◌, ap₂, inl, inr, arith}
use Rattle.std.proofs.Math.Path.{fun_ext}
use Rattle.rings.specs.Model.{RingModel, code}
use Rattle.rings.specs.Total.{Total}
use Rattle.series.specs.Series as Series
use Rattle.series.specs.Series.{times, plus, minus}
use Rattle.systems.specs.Families.{Family}
use Rattle.systems.specs.Trees.{Tree, number, unknown, input, sum, difference, product, bracket, Equation, System, UnknownOf, InputOf}
use Rattle.systems.specs.Values.{value, HoldsAt, SatisfiesBelow}
use Rattle.systems.specs.Solving.{Solvable, SameInputs}
use Rattle.systems.specs.Rearranging.{RearrangedSystem, none, right_side, places, afterwards}
use Rattle.systems.specs.Carrying.{through}
use Rattle.systems.proofs.Maps.{Hom, to_number, to_plus, to_minus, to_times, to_bracket}
use Rattle.systems.proofs.Standing.{input_of?, placed, is_input}
use Rattle.systems.proofs.Causal.{near}
use Rattle.systems.proofs.Unique.{unique}
use Rattle.systems.proofs.Sound.{sound_system}

module _ {a b : RingModel} {φ : ℕ → ℕ} {p q : ℕ} (h : Hom a b φ p q) where
  to_value : (I F : Family) (t : Tree) → (λ n. φ (value a p I F t n)) ≡ value b q (through φ I) (through φ F) t
  unfolding value
  to_value I F (number k) = fun_ext (to_number h k)
  to_value I F (unknown u) = refl
  to_value I F (input x) = refl
  to_value I F (sum s t) = fun_ext (to_plus h _ _) ∙ ap₂ (plus b) (to_value I F s) (to_value I F t)
  to_value I F (difference s t) = fun_ext (to_minus h _ _) ∙ ap₂ (minus b) (to_value I F s) (to_value I F t)
  to_value I F (product s t) = fun_ext (to_times h _ _) ∙ ap₂ (times b q) (to_value I F s) (to_value I F t)
  to_value I F (bracket s) = fun_ext (to_bracket h _) ∙ ap Series.bracket (to_value I F s)

  pub to_value_at : (I F : Family) (t : Tree) (n : ℕ) → φ (value a p I F t n) ≡ value b q (through φ I) (through φ F) t n
  to_value_at I F t n = ap (λ (A : Series.Series). A n) (to_value I F t)

  -- an equation that holds at an index is carried
  pub to_equation : (I F : Family) (e : Equation) (n : ℕ) → HoldsAt a p I F e n → HoldsAt b q (through φ I) (through φ F) e n
  to_equation I F e n w = ap φ w ∙ to_value_at I F e.right n

-- only the inputs of the system count
other_inputs : (m : RingModel) (q : ℕ) (S : System) (N : ℕ) (I J F : Family) → SameInputs S N I J → SatisfiesBelow m q N S I F → SatisfiesBelow m q N S J F
other_inputs m q S N I J F same h e u n l =
    let w = placed S e u in
    h e u n l
    ∙ near m q I J F F e.right n (
      (λ a b i k. refl),
      (λ a b i k. refl),
      (λ x b i k. same x (is_input w.before w.after e w.stands x b) i (omega arith)),
    )

-- one of two numbers, by a decision
choose : {X : Type 0} → Dec X → ℕ → ℕ → ℕ
choose (yes w) x y = x
choose (no w) x y = y

choose_first : {X : Type 0} (d : Dec X) (x y : ℕ) → X → choose d x y ≡ x
unfolding choose
choose_first (yes w) x y h = refl
choose_first (no w) x y h = absurd (w h)

choose_same : {X : Type 0} (d : Dec X) (x y z : ℕ) → (X → x ≡ z) → y ≡ z → choose d x y ≡ z
unfolding choose
choose_same (yes w) x y z f e = f w
choose_same (no w) x y z f e = e

choose_code : {X : Type 0} (m : RingModel) (d : Dec X) (x y : ℕ) → code m x ≡ x → code m y ≡ y → code m (choose d x y) ≡ choose d x y
unfolding choose
choose_code m (yes w) x y e f = e
choose_code m (no w) x y e f = f

-- the first family at the inputs of a system, the second at all other letters
mixed : System → Family → Family → Family
mixed S I J x i = choose (input_of? x S) (I x i) (J x i)

module _ {a b : RingModel} (t : Total b) {φ : ℕ → ℕ} {p q : ℕ} (h : Hom a b φ p q) (φ-code : (x : ℕ) → code b (φ x) ≡ φ x) where
  -- the first's coefficients, mapped, satisfy the second system below n for inputs that are the first's, mapped, wherever the first
  -- has the letter; and no other coefficients do
  pub carried : (S T : System) → Solvable T → RearrangedSystem S T
      → (n : ℕ) (I F J G : Family) → SatisfiesBelow a p n S I F → SatisfiesBelow b q n T J G
      → ((x : ℕ) → InputOf x T → (i : ℕ) → i < n → code b (J x i) ≡ J x i)
      → ((x : ℕ) → InputOf x S → InputOf x T → (i : ℕ) → i < n → φ (I x i) ≡ J x i)
      → (u : ℕ) → UnknownOf u T → (i : ℕ) → i < n → φ (F u i) ≡ G u i
  unfolding mixed
  carried S T ok r n I F J G f g coded shared =
      let K : Family = mixed S (through φ I) (through (code b) J) in
      let first : SatisfiesBelow b q n S K (through φ F) =
      other_inputs b q S n (through φ I) K (through φ F)
      (λ x w i l. sym (choose_first (input_of? x S) (φ (I x i)) (code b (J x i)) w))
      (λ e u i l. to_equation h I F e i (f e u i l)) in
      let second : SatisfiesBelow b q n T K (through φ F) =
      λ e u i l. sound_system t q K (through φ F)
      (λ x j. choose_code b (input_of? x S) (φ (I x j)) (code b (J x j)) (φ-code (I x j)) (t.code_code (J x j))) (λ v j. φ-code (F v j)) r i (λ d v. first d v i l) e u in
      unique b q T ok n K J (through φ F) G second g
      (λ x w i l. choose_same (input_of? x S) (φ (I x i)) (code b (J x i)) (J x i) (λ v. shared x v w i l) (coded x w i l))

-- the unknowns of a system are those of a rearranged one
pub same_unknowns : {S T : System} → RearrangedSystem S T → (u : ℕ) → UnknownOf u S → UnknownOf u T
same_unknowns none u h = h
same_unknowns (right_side b r w) u (inl p) = inl p
same_unknowns (right_side b r w) u (inr h) = inr (same_unknowns w u h)
same_unknowns (places d e S) u (inl p) = inr (inl p)
same_unknowns (places d e S) u (inr (inl p)) = inl p
same_unknowns (places d e S) u (inr (inr h)) = inr (inr h)
same_unknowns (afterwards v w) u h = same_unknowns w u (same_unknowns v u h)
