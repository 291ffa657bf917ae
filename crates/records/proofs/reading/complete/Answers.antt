use Rattle.std.proofs.Common.{rules}
use Rattle.std.proofs.lemmas.List.Edits.{map_over_more}
use Rattle.records.specs.Inner.Writing.{completed}
use Rattle.records.proofs.reading.complete.Goals as goal

pub loop-record-preserved : goal.loop-record-preserved
loop-record-preserved c = search (rules, map_over_more (completed c.args.roots.now))
