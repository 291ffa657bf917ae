-- What follows for the answers of every lawful ring, in order or not, at all numbers: the laws with `code m x`, the code that x
-- counts as, in the place of x. Whatever is built on rings cites these, and has no operand to check.
use Rattle.std.specs.Prelude.{◌≡◌, ℕ}
use Rattle.rings.specs.Model.{RingModel, code, one_of, sum, opposite, product}

pub record Total (m : RingModel) : Type 0 where
  pub code_zero : code m 0 ≡ 0
  pub code_code : (x : ℕ) → code m (code m x) ≡ code m x
  pub code_one : code m (one_of m) ≡ one_of m
  pub code_sum : (x y : ℕ) → code m (sum m x y) ≡ sum m x y
  pub code_opposite : (x : ℕ) → code m (opposite m x) ≡ opposite m x
  pub code_product : (x y : ℕ) → code m (product m x y) ≡ product m x y
  pub sum_code : (x y : ℕ) → sum m (code m x) y ≡ sum m x y
  pub opposite_code : (x : ℕ) → opposite m (code m x) ≡ opposite m x
  pub product_code : (x y : ℕ) → product m (code m x) y ≡ product m x y
  pub sum_assoc : (x y z : ℕ) → sum m (sum m x y) z ≡ sum m x (sum m y z)
  pub sum_comm : (x y : ℕ) → sum m x y ≡ sum m y x
  pub zero_sum : (x : ℕ) → sum m 0 x ≡ code m x
  pub opposite_sum : (x : ℕ) → sum m (opposite m x) x ≡ 0
  pub product_assoc : (x y z : ℕ) → product m (product m x y) z ≡ product m x (product m y z)
  pub product_comm : (x y : ℕ) → product m x y ≡ product m y x
  pub one_product : (x : ℕ) → product m (one_of m) x ≡ code m x
  pub product_sum : (x y z : ℕ) → product m x (sum m y z) ≡ sum m (product m x y) (product m x z)
