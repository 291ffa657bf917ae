use Rattle.std.proofs.Common.{◌≡◌, length}
use Rattle.tokens.specs.Inner.Fronts.{past_separators}
use Rattle.tokens.proofs.lexer.skip_separators.Given as goal

abbrev pub invariant-loop-left : goal.invariant-loop-left
invariant-loop-left l = past_separators l.left ≡ past_separators l.text

abbrev pub decreases-loop-left : goal.decreases-loop-left
decreases-loop-left l = length l.left
