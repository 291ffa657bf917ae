-- What a ring means: its elements by codes, what it answers, and the laws that a ring in order keeps.
use Rattle.std.specs.Prelude.{◌≡◌, ℕ, ◌^◌, ◌<◌, ◌≤◌, cond, Ok, Err, Result, nat_lt}
use Rattle.rings.specs.declared.fault.RingFault.{RingFault}

-- what a ring answers when it is asked whether it is in order
abbrev pub Order : Type 0
Order = Result (Unit {0}) RingFault

abbrev pub in_order : Order
in_order = Ok tt

-- a ring: whether it is in order, its size, its one, and the operations on its codes, which are the numbers below the size.
-- Code 0 is the zero.
pub record RingModel : Type 0 where
  pub order : Order
  pub size : ℕ
  pub one : ℕ
  pub add : ℕ → ℕ → ℕ
  pub neg : ℕ → ℕ
  pub mul : ℕ → ℕ → ℕ

-- the laws of a commutative ring, on codes
pub record Laws (m : RingModel) : Type 0 where
  pub size_from : 1 ≤ m.size
  pub size_to : m.size ≤ 2 ^ 62
  pub one_code : m.one < m.size
  pub add_code : (x y : ℕ) → x < m.size → y < m.size → m.add x y < m.size
  pub neg_code : (x : ℕ) → x < m.size → m.neg x < m.size
  pub mul_code : (x y : ℕ) → x < m.size → y < m.size → m.mul x y < m.size
  pub add_assoc : (x y z : ℕ) → x < m.size → y < m.size → z < m.size → m.add (m.add x y) z ≡ m.add x (m.add y z)
  pub add_comm : (x y : ℕ) → x < m.size → y < m.size → m.add x y ≡ m.add y x
  pub zero_add : (x : ℕ) → x < m.size → m.add 0 x ≡ x
  pub neg_add : (x : ℕ) → x < m.size → m.add (m.neg x) x ≡ 0
  pub mul_assoc : (x y z : ℕ) → x < m.size → y < m.size → z < m.size → m.mul (m.mul x y) z ≡ m.mul x (m.mul y z)
  pub mul_comm : (x y : ℕ) → x < m.size → y < m.size → m.mul x y ≡ m.mul y x
  pub one_mul : (x : ℕ) → x < m.size → m.mul m.one x ≡ x
  pub mul_add : (x y z : ℕ) → x < m.size → y < m.size → z < m.size → m.mul x (m.add y z) ≡ m.add (m.mul x y) (m.mul x z)

-- what every implementation of a ring owes: if it is in order, it keeps the laws
abbrev pub Lawful : RingModel → Type 0
Lawful m = m.order ≡ in_order → Laws m

-- ---- what a ring answers for any operands

-- a number where the ring is in order, else 0
abbrev pub if_in_order : Order → ℕ → ℕ
if_in_order (Ok _) n = n
if_in_order (Err _) n = 0

-- a number that is not below the size counts as 0
abbrev pub clip : ℕ → ℕ → ℕ
clip size x = cond (nat_lt x size) x 0

unfoldable pub size_of : RingModel → ℕ
size_of m = if_in_order m.order m.size

unfoldable pub one_of : RingModel → ℕ
one_of m = if_in_order m.order m.one

-- the code that a number counts as
unfoldable pub code : RingModel → ℕ → ℕ
code m x = clip (size_of m) x

unfoldable pub sum : RingModel → ℕ → ℕ → ℕ
sum m x y = if_in_order m.order (m.add (code m x) (code m y))

unfoldable pub opposite : RingModel → ℕ → ℕ
opposite m x = if_in_order m.order (m.neg (code m x))

unfoldable pub product : RingModel → ℕ → ℕ → ℕ
product m x y = if_in_order m.order (m.mul (code m x) (code m y))
