-- Equations between elements: the laws at all numbers, as rules that bring both sides to sorted sums of sorted products.
use Rattle.std.proofs.Common.{◌≡◌, ℕ, zero, suc, ◌+◌, sym, ap, ◌∙◌, suc-add, zero-add}
use Rattle.rings.specs.Model.{RingModel, code, one_of, sum, opposite, product}
use Rattle.rings.specs.Total.{Total}
use Rattle.rings.specs.Lemmas.Rules.{sum_zero, zero_product, expand}
use Rattle.series.specs.Weights.{power}

module _ {m : RingModel} (t : Total m) where
  -- the laws under names that a ruleset can list
  pub code_zero : code m 0 ≡ 0
  code_zero = t.code_zero

  pub code_one : code m (one_of m) ≡ one_of m
  code_one = t.code_one

  pub code_code : (x : ℕ) → code m (code m x) ≡ code m x
  code_code = t.code_code

  pub code_sum : (x y : ℕ) → code m (sum m x y) ≡ sum m x y
  code_sum = t.code_sum

  pub code_product : (x y : ℕ) → code m (product m x y) ≡ product m x y
  code_product = t.code_product

  pub sum_code : (x y : ℕ) → sum m (code m x) y ≡ sum m x y
  sum_code = t.sum_code

  pub product_code : (x y : ℕ) → product m (code m x) y ≡ product m x y
  product_code = t.product_code

  pub zero_sum : (x : ℕ) → sum m 0 x ≡ code m x
  zero_sum = t.zero_sum

  pub one_product : (x : ℕ) → product m (one_of m) x ≡ code m x
  one_product = t.one_product

  -- and the same laws for the other operand
  pub sum_code_right : (x y : ℕ) → sum m x (code m y) ≡ sum m x y
  sum_code_right x y = t.sum_comm x (code m y) ∙ t.sum_code y x ∙ t.sum_comm y x

  pub product_code_right : (x y : ℕ) → product m x (code m y) ≡ product m x y
  product_code_right x y = t.product_comm x (code m y) ∙ t.product_code y x ∙ t.product_comm y x

  pub product_one : (x : ℕ) → product m x (one_of m) ≡ code m x
  product_one x = t.product_comm x (one_of m) ∙ t.one_product x

  pub product_zero : (x : ℕ) → product m x 0 ≡ 0
  product_zero x = t.product_comm x 0 ∙ zero_product t x

  -- x + (−x) = 0
  pub sum_opposite : (x : ℕ) → sum m x (opposite m x) ≡ 0
  sum_opposite x = t.sum_comm x (opposite m x) ∙ t.opposite_sum x

  -- x + y = 0 gives y = −x
  pub only_opposite : (x y : ℕ) → sum m x y ≡ 0 → code m y ≡ opposite m x
  only_opposite x y h =
      sym (t.zero_sum y) ∙ ap (λ (z : ℕ). sum m z y) (sym (t.opposite_sum x)) ∙ t.sum_assoc (opposite m x) x y
      ∙ ap (sum m (opposite m x)) h ∙ sum_zero t (opposite m x) ∙ t.code_opposite x

  pub power_code : (q k : ℕ) → code m (power m q k) ≡ power m q k
  unfolding power
  power_code q zero = t.code_one
  power_code q (suc k) = t.code_product _ _

  pub power_sum : (q i j : ℕ) → power m q (i + j) ≡ product m (power m q i) (power m q j)
  unfolding power
  power_sum q zero j = rw zero-add (sym (t.one_product (power m q j) ∙ power_code q j))
  power_sum q (suc i) j = rw suc-add (ap (product m q) (power_sum q i j) ∙ sym (t.product_assoc q (power m q i) (power m q j)))

pub ruleset ring_rules = (code_zero, code_one, code_code, code_sum, code_product, sum_code, product_code, sum_code_right, product_code_right, zero_sum, sum_zero, one_product, product_one, zero_product, product_zero, expand)
