use Rattle.tokens.specs.Listed.{left_to_give}
use Rattle.reader.proofs.Reading.{Reads, Counts}
use Rattle.reader.proofs.examining.examine.Given as goal

abbrev pub invariant-loop-place : goal.invariant-loop-place
invariant-loop-place l = Reads l.text (left_to_give l.place-iterator) l.progress × Counts l.text (left_to_give l.place-iterator) l.products
