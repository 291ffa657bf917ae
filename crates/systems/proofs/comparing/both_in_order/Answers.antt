use Rattle.systems.proofs.Theorems.{transfers}
use Rattle.systems.proofs.comparing.both_in_order.Goals as goal

pub returns-clause-tables : goal.returns-clause-tables
returns-clause-tables g c = transfers _ _ (g.met.R.Ring.lawful c.args.first.now) (g.met.S.Ring.lawful c.args.second.now)
