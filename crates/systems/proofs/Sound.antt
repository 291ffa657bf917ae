-- Rearranged trees stand for the same series, and rearranged systems have the same solutions.
use Rattle.std.proofs.Common.{◌≡◌, ℕ, sym, refl, ap, ◌∙◌, subst, ap₂, inl, inr}
use Rattle.std.proofs.Math.Path.{fun_ext}
use Rattle.rings.specs.Model.{RingModel, code}
use Rattle.rings.specs.Total.{Total}
use Rattle.series.specs.Series as Series
use Rattle.series.specs.Series.{times, plus, minus}
use Rattle.series.proofs.Sums.{times_code}
use Rattle.systems.specs.Families.{Family}
use Rattle.systems.specs.Trees.{Tree, number, unknown, input, sum, difference, product, bracket, Equation, System, EquationOf}
use Rattle.systems.specs.Values.{value, HoldsAt}
use Rattle.systems.specs.Rearranging.{
  Rule,
  sum_commutes,
  sum_associates,
  product_commutes,
  product_associates,
  distributes,
  zero_and,
  one_times,
  zero_times,
  less_itself,
  less_is,
  bracket_of_sum,
  bracket_of_zero,
  number_of_sum,
  number_of_product,
  Rearranged,
  by_rule,
  unchanged,
  backward,
  onward,
  in_sum,
  in_difference,
  in_product,
  in_bracket,
  RearrangedSystem,
  none,
  right_side,
  places,
  afterwards,
}
use Rattle.systems.proofs.SeriesLaws as Laws

-- what is rearranged can be rearranged back
pub back : {S T : System} → RearrangedSystem S T → RearrangedSystem T S
back none = none
back (right_side a r w) = right_side a (backward r) (back w)
back (places d e S) = places e d S
back (afterwards v w) = afterwards (back w) (back v)

module _ {m : RingModel} (t : Total m) (q : ℕ) (I F : Family) (f : (x n : ℕ) → code m (I x n) ≡ I x n) (g : (a n : ℕ) → code m (F a n) ≡ F a n) where
  -- where the letters stand for series of elements, so does every tree
  pub value_code : (s : Tree) (n : ℕ) → code m (value m q I F s n) ≡ value m q I F s n
  unfolding value plus minus
  value_code (number k) n = Laws.number_code t k n
  value_code (unknown a) n = g a n
  value_code (input x) n = f x n
  value_code (sum r s) n = t.code_sum _ _
  value_code (difference r s) n = t.code_sum _ _
  value_code (product r s) n = times_code m t q _ _ n
  value_code (bracket s) n = Laws.bracket_code t _ (value_code s) n

  by_law : {r s : Tree} → Rule r s → value m q I F r ≡ value m q I F s
  unfolding value
  by_law (sum_commutes r s) = fun_ext (Laws.plus_comm t _ _)
  by_law (sum_associates r s u) = fun_ext (Laws.plus_assoc t _ _ _)
  by_law (product_commutes r s) = fun_ext (Laws.times_comm t q _ _)
  by_law (product_associates r s u) = fun_ext (Laws.times_assoc t q _ _ _)
  by_law (distributes r s u) = fun_ext (Laws.times_plus t q _ _ _)
  by_law (zero_and s) = fun_ext (λ n. Laws.zero_plus t _ n ∙ value_code s n)
  by_law (one_times s) = fun_ext (λ n. Laws.one_times t q _ n ∙ value_code s n)
  by_law (zero_times s) = fun_ext (Laws.zero_times t q _)
  by_law (less_itself s) = fun_ext (Laws.minus_self t _)
  by_law (less_is r s) = fun_ext (Laws.minus_plus t _ _)
  by_law (bracket_of_sum r s) = fun_ext (Laws.bracket_plus t _ _)
  by_law bracket_of_zero = fun_ext (Laws.bracket_zero t)
  by_law (number_of_sum j k) = fun_ext (Laws.number_plus t j k)
  by_law (number_of_product j k) = fun_ext (Laws.number_times t q j k)

  pub sound : {r s : Tree} → Rearranged r s → value m q I F r ≡ value m q I F s
  unfolding value
  sound (by_rule r) = by_law r
  sound (unchanged s) = refl
  sound (backward r) = sym (sound r)
  sound (onward r w) = sound r ∙ sound w
  sound (in_sum r w) = ap₂ (plus m) (sound r) (sound w)
  sound (in_difference r w) = ap₂ (minus m) (sound r) (sound w)
  sound (in_product r w) = ap₂ (times m q) (sound r) (sound w)
  sound (in_bracket r) = ap Series.bracket (sound r)

  -- at every index, where the equations of a system hold, so do those of a rearranged one
  pub sound_system : {S T : System} → RearrangedSystem S T → (n : ℕ) → ((e : Equation) → EquationOf e S → HoldsAt m q I F e n) → (e : Equation) → EquationOf e T → HoldsAt m q I F e n
  sound_system none n h e u = absurd u
  sound_system (right_side {s} {s'} a w v) n h e (inl p) =
      let old : F a n ≡ value m q I F s' n = h (record { left = a; right = s }) (inl refl) ∙ ap (λ (A : Series.Series). A n) (sound w) in
      subst (λ (d : Equation). HoldsAt m q I F d n) (sym p) old
  sound_system (right_side a w v) n h e (inr u) = sound_system v n (λ d k. h d (inr k)) e u
  sound_system (places c d S) n h e (inl p) = h e (inr (inl p))
  sound_system (places c d S) n h e (inr (inl p)) = h e (inl p)
  sound_system (places c d S) n h e (inr (inr u)) = h e (inr (inr u))
  sound_system (afterwards v w) n h e u = sound_system w n (sound_system v n h) e u
