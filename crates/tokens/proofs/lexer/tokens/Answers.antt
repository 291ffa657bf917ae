use Rattle.std.proofs.Common.{refl, arith}
use Rattle.tokens.proofs.Lists.{one_of, all_listed, few_left}
use Rattle.tokens.proofs.lexer.tokens.Goals as goal

pub invariant_of-result : goal.invariant_of-result
invariant_of-result c = record { within = omega arith; ahead = one_of _ _ }

pub returns-clause-listed : goal.returns-clause-listed
returns-clause-listed c = all_listed _ refl

pub returns-clause-few : goal.returns-clause-few
returns-clause-few c = few_left _
