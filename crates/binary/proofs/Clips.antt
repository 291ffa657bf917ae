-- Numbers that count as 0 where they are not below a bound.
use Rattle.std.proofs.Common.{◌≡◌, ℕ, ◌<◌, Bool, true, false, cond, ltb, ltb-true}

pub cut_below : (n x : ℕ) (b : Bool) → ltb x n ≡ b → 0 < n → cond b x 0 < n
cut_below n x true e h = ltb-true x n e
cut_below n x false e h = h
