-- Consequences of the laws at all numbers.
use Rattle.std.specs.Prelude.{◌≡◌, ℕ}
use Rattle.std.proofs.Common.{sym, ap, ap₂, ◌∙◌}
use Rattle.rings.specs.Model.{RingModel, code, sum, opposite, product}
use Rattle.rings.specs.Total.{Total}

module _ {m : RingModel} (t : Total m) where
  pub sum_zero : (x : ℕ) → sum m x 0 ≡ code m x
  sum_zero x = t.sum_comm x 0 ∙ t.zero_sum x

  pub sum_product : (x y z : ℕ) → product m (sum m x y) z ≡ sum m (product m x z) (product m y z)
  sum_product x y z = t.product_comm (sum m x y) z ∙ t.product_sum z x y ∙ ap₂ (sum m) (t.product_comm z x) (t.product_comm z y)

  pub sum_left_comm : (x y z : ℕ) → sum m x (sum m y z) ≡ sum m y (sum m x z)
  sum_left_comm x y z = sym (t.sum_assoc x y z) ∙ ap (λ (a : ℕ). sum m a z) (t.sum_comm x y) ∙ t.sum_assoc y x z

  pub product_left_comm : (x y z : ℕ) → product m x (product m y z) ≡ product m y (product m x z)
  product_left_comm x y z = sym (t.product_assoc x y z) ∙ ap (λ (a : ℕ). product m a z) (t.product_comm x y) ∙ t.product_assoc y x z

  -- 0 × x + 0 × x = 0 × x, so 0 × x = 0
  pub zero_product : (x : ℕ) → product m 0 x ≡ 0
  zero_product x =
      let p = product m 0 x in
      let twice : sum m p p ≡ p = sym (sum_product 0 0 x) ∙ ap (λ (a : ℕ). product m a x) (t.zero_sum 0 ∙ t.code_zero) in
      sym (t.code_product 0 x) ∙ sym (t.zero_sum p) ∙ ap (λ (a : ℕ). sum m a p) (sym (t.opposite_sum p))
      ∙ t.sum_assoc (opposite m p) p p ∙ ap (sum m (opposite m p)) twice ∙ t.opposite_sum p

  -- the laws under names that a ruleset can list
  pub sum_assoc : (x y z : ℕ) → sum m (sum m x y) z ≡ sum m x (sum m y z)
  sum_assoc = t.sum_assoc

  pub sum_comm : (x y : ℕ) → sum m x y ≡ sum m y x
  sum_comm = t.sum_comm

  pub product_assoc : (x y z : ℕ) → product m (product m x y) z ≡ product m x (product m y z)
  product_assoc = t.product_assoc

  pub product_comm : (x y : ℕ) → product m x y ≡ product m y x
  product_comm = t.product_comm

  pub product_sum : (x y z : ℕ) → product m x (sum m y z) ≡ sum m (product m x y) (product m x z)
  product_sum = t.product_sum

-- both sides of an equation to sorted sums of sorted products; wants `t : Total m` in scope
pub ruleset expand = (product_sum, sum_product, product_assoc, sum_assoc, product_comm, product_left_comm, sum_comm, sum_left_comm)
