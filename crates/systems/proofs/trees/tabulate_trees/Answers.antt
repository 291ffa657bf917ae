use Rattle.std.proofs.Common.{vec_items}
use Rattle.series.proofs.Admission.{attempted}
use Rattle.systems.proofs.Solved.{tree_row}
use Rattle.systems.proofs.Theorems.{one_solution, same_solutions}
use Rattle.systems.proofs.trees.tabulate_trees.Goals as goal

pub returns : goal.returns
returns g c =
    let table = c.args.table.now in
    let m = g.R.Ring.meaning table.ring in
    let lawful = g.met.R.Ring.lawful table.ring in
    record {
      row = attempted m table.q table.length _ _ (λ row tree. tree_row m table.q table.length (vec_items row) tree) c.binary_trees.result c.binary_trees.ensures;
      solution = one_solution m lawful;
      rearranged = same_solutions m lawful;
    }
