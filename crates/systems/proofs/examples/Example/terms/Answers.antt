use Rattle.systems.proofs.Worked.{worked_out}
use Rattle.systems.proofs.examples.Example.terms.Goals as goal

pub returns : goal.returns
returns c = record { answer = c.eight_terms.ensures; examples = worked_out }
