use Rattle.std.proofs.Common.{◌≤◌, vec_items, vec_capacity}
use Rattle.series.specs.Weights.{Tabulates, rows_before}
use Rattle.series.proofs.tabulation.Tabulation.weights.Given as goal

-- the rows before n are there, and there is room for them all
abbrev pub invariant-loop-n : goal.invariant-loop-n
invariant-loop-n g l = Tabulates (g.R.Ring.meaning l.self.ring) l.self.q l.n (vec_items l.cells) × (rows_before l.self.length ≤ vec_capacity l.cells)
