use Rattle.std.proofs.Common.{ℕ, suc, ◌+◌, ◌^◌, ◌<◌, ◌≤◌, pow-suc, arith, pow_mono}
use Rattle.std.proofs.Math.Decide.{dec_le}
use Rattle.binary.proofs.Divisor.new.Goals as goal

-- of two powers of two, the lower has the lower exponent
lower : (i j : ℕ) → 2 ^ i < 2 ^ j → i < j
lower i j h = elim (dec_le (i + 1) j) [ yes l ↦ omega (arith, l) | no n ↦ absurd (let back : 2 ^ j ≤ 2 ^ i = pow_mono (omega (arith, n)) in omega arith) ]

pub returns-then-f-lt2 : goal.returns-then-f-lt2
returns-then-f-lt2 c d lo hi g = omega (arith, c.then-f-lt2.either, pow_mono lo, pow_mono hi, g.0, g.1)

pub invariant_of-result : goal.invariant_of-result
invariant_of-result c =
    let d = c.ilog2.result in
    let lo = c.ilog2.ensures.power_le in
    let hi = c.ilog2.ensures.next_power_gt in
    let next = pow-suc 2 d in
    record { least = omega (arith, lower 1 (suc d) (omega arith)); most = omega (arith, lower d 32 (omega arith)); leads = (lo, omega arith) }
