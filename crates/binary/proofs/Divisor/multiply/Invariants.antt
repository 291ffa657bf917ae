use Rattle.std.proofs.Common.{◌^◌, ◌<◌}
use Rattle.std.specs.Int.Bits.{bit_xor}
use Rattle.binary.specs.Codes.{times}
use Rattle.binary.specs.Words.{operand}
use Rattle.binary.proofs.Multiples.{Same}
use Rattle.binary.proofs.Divisor.multiply.Given as goal

-- what is summed up so far, and what is left of a times the power of its place, make the product
abbrev pub invariant-loop-left : goal.invariant-loop-left
invariant-loop-left l =
    let d = l.self.degree in
    (l.sum < 2 ^ d) × (l.power < 2 ^ d) × Same l.self.f (times (operand d l.a) (operand d l.b)) (bit_xor l.sum (times l.left l.power))

abbrev pub decreases-loop-left : goal.decreases-loop-left
decreases-loop-left l = l.left
