use Rattle.series.proofs.Rule.{one_table}
use Rattle.series.proofs.tabulation.Tabulation.weights.Goals as goal

pub returns-in_err-admit-clause-table : goal.returns-in_err-admit-clause-table
returns-in_err-admit-clause-table g c = one_table _ _

pub returns-in_err-cells-clause-table : goal.returns-in_err-cells-clause-table
returns-in_err-cells-clause-table g c = one_table _ _

pub returns-clause-table : goal.returns-clause-table
returns-clause-table g c = one_table _ _
