use Rattle.std.proofs.Common.{◌≡◌, fold}
use Rattle.tokens.specs.Listed.{left_to_give}
use Rattle.reader.specs.Rules.{kinds}
use Rattle.records.specs.Inner.Writing.{nothing_written, after}
use Rattle.records.proofs.reading.write.Given as goal

-- what the tokens that are left will add makes all that the tokens of the text write
abbrev pub invariant-loop-token : goal.invariant-loop-token
invariant-loop-token l = fold after l.writer (kinds (left_to_give l.token-iterator)) ≡ fold after nothing_written (kinds (left_to_give l.initial.token-iterator))
