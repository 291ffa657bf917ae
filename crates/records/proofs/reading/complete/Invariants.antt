use Rattle.std.proofs.Common.{◌≡◌, ◌++◌, map, take, drop}
use Rattle.records.specs.Inner.Writing.{completed}
use Rattle.records.proofs.reading.complete.Given as goal

abbrev pub invariant-loop-record : goal.invariant-loop-record
invariant-loop-record l = l.records ≡ map (completed l.roots) (take l.record-index l.initial.records) ++ drop l.record-index l.initial.records
