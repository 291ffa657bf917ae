-- The same product and remainder as numbers that can be worked out from the codes. That they are the ones in words is stated in
-- Agreement and proved.
use Rattle.std.specs.Prelude.{ℕ, zero, suc, ◌+◌, ◌*◌, ◌/◌, ◌%◌, ◌^◌, cond, bit_xor, nat_lt}

-- for each bit of a, from the lowest, b shifted to its place if the bit is set; n bounds the bits of a that are left
unfoldable pub times_bits : ℕ → ℕ → ℕ → ℕ
times_bits zero a b = 0
times_bits (suc n) zero b = 0
times_bits (suc n) (suc a) b = bit_xor (suc a % 2 * b) (times_bits n (suc a / 2) b * 2)

-- the product before any reduction
unfoldable pub times : ℕ → ℕ → ℕ
unfolding times_bits
times a b = times_bits a a b

-- a code of at most d + 1 bits less f, if it has d + 1
unfoldable pub reduce : ℕ → ℕ → ℕ → ℕ
reduce f d x = cond (nat_lt x (2 ^ d)) x (bit_xor x f)

-- bit after bit of a, from the highest; n bounds the bits of a
unfoldable pub remainder_bits : ℕ → ℕ → ℕ → ℕ → ℕ
unfolding reduce
remainder_bits f d zero a = 0
remainder_bits f d (suc n) zero = 0
remainder_bits f d (suc n) (suc a) = reduce f d (remainder_bits f d n (suc a / 2) * 2 + suc a % 2)

-- the remainder of a modulo f of degree d
unfoldable pub remainder : ℕ → ℕ → ℕ → ℕ
unfolding remainder_bits
remainder f d a = remainder_bits f d a a

-- the product of a and b modulo f of degree d
unfoldable pub product : ℕ → ℕ → ℕ → ℕ → ℕ
unfolding remainder times
product f d a b = remainder f d (times a b)
