use Rattle.systems.proofs.FirstParts.{carries_first_parts}
use Rattle.systems.proofs.comparing.first_part.Goals as goal

pub returns-clause-tables : goal.returns-clause-tables
returns-clause-tables g c = carries_first_parts _ (g.met.R.Ring.lawful c.args.below.now)
