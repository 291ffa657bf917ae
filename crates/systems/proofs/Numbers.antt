-- Numbers as elements: so many ones added up.
use Rattle.std.proofs.Common.{◌≡◌, ℕ, zero, suc, ◌+◌, ◌*◌, sym, refl, ap, ◌∙◌, suc-mul, suc-add, zero-add, zero-mul}
use Rattle.rings.specs.Model.{RingModel, code, one_of, sum, product}
use Rattle.rings.specs.Total.{Total}
use Rattle.series.specs.Weights.{power}
use Rattle.series.specs.Series.{ones}
use Rattle.systems.proofs.RingRules.{ring_rules}

module _ {m : RingModel} (t : Total m) where
  pub ones_code : (k : ℕ) → code m (ones m k) ≡ ones m k
  unfolding ones
  ones_code zero = t.code_zero
  ones_code (suc k) = t.code_sum _ _

  pub ones_sum : (j k : ℕ) → ones m (j + k) ≡ sum m (ones m j) (ones m k)
  unfolding ones
  ones_sum zero k = ap (ones m) (zero-add k) ∙ sym (t.zero_sum _ ∙ ones_code k)
  ones_sum (suc j) k = ap (ones m) (suc-add j k) ∙ ap (sum m (one_of m)) (ones_sum j k) ∙ sym (t.sum_assoc _ _ _)

  more : (a b : ℕ) → sum m (product m a b) b ≡ product m (sum m (one_of m) a) b
  more a b = simp (ring_rules, t)

  pub ones_product : (j k : ℕ) → ones m (j * k) ≡ product m (ones m j) (ones m k)
  unfolding ones
  ones_product zero k = ap (ones m) (zero-mul k) ∙ simp (ring_rules, t)
  ones_product (suc j) k = ap (ones m) (suc-mul j k) ∙ ones_sum (j * k) k ∙ ap (λ (x : ℕ). sum m x (ones m k)) (ones_product j k) ∙ more _ _

  pub power_one : (k : ℕ) → power m (one_of m) k ≡ one_of m
  unfolding power
  power_one zero = refl
  power_one (suc k) = ap (product m (one_of m)) (power_one k) ∙ t.one_product _ ∙ t.code_one
