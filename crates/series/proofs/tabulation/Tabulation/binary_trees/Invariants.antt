use Rattle.std.proofs.Common.{◌+◌, ◌≤◌, vec_items, vec_capacity}
use Rattle.series.specs.Trees.{IsTreeRow}
use Rattle.series.proofs.tabulation.Tabulation.binary_trees.Given as goal

-- the terms up to n are there, and there is room for them all
abbrev pub invariant-loop-n : goal.invariant-loop-n
invariant-loop-n g l = IsTreeRow (g.R.Ring.meaning l.self.ring) l.self.q (l.n + 1) (vec_items l.row) × (l.self.length ≤ vec_capacity l.row)
