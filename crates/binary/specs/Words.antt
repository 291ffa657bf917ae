-- Binary polynomials in the words of a textbook. A polynomial is told by a code: bit i of the code is the coefficient of the
-- i-th power, so the codes below 2 ^ d are the polynomials of degree below d. The sum is the exclusive or.
use Rattle.std.specs.Prelude.{◌≡◌, ℕ, zero, suc, ◌+◌, ◌-◌, ◌*◌, ◌/◌, ◌%◌, ◌^◌, ◌<◌, ◌≤◌, cond, bit_xor, nat_lt}

-- the coefficient of the i-th power
abbrev pub coefficient : ℕ → ℕ → ℕ
coefficient a i = a / 2 ^ i % 2

-- g 0 + g 1 + … + g n
unfoldable pub sum_to : ℕ → (ℕ → ℕ) → ℕ
sum_to zero g = g 0
sum_to (suc n) g = g 0 + sum_to n (λ i. g (suc i))

-- c is the product of a and b: its coefficient n is the sum of a_i × b_(n−i) over i from 0 to n, modulo 2
abbrev pub IsProduct : ℕ → ℕ → ℕ → Type 0
IsProduct a b c = (n : ℕ) → coefficient c n ≡ sum_to n (λ i. coefficient a i * coefficient b (n - i)) % 2

-- f has degree d: d is its highest power
abbrev pub HasDegree : ℕ → ℕ → Type 0
HasDegree f d = (2 ^ d ≤ f) × (f < 2 ^ d * 2)

-- r is the remainder of a modulo f of degree d: it has a degree below d, and a and r differ by a multiple of f
pub record IsRemainder (f d a r : ℕ) : Type 0 where
  pub below : r < 2 ^ d
  pub multiple : (k : ℕ) × IsProduct k f (bit_xor a r)

-- r is the product of a and b modulo f of degree d: the remainder of their product
abbrev pub IsProductModulo : ℕ → ℕ → ℕ → ℕ → ℕ → Type 0
IsProductModulo f d a b r = (c : ℕ) × IsProduct a b c × IsRemainder f d c r

-- an operand that is no code below 2 ^ d counts as 0
abbrev pub operand : ℕ → ℕ → ℕ
operand d a = cond (nat_lt a (2 ^ d)) a 0
