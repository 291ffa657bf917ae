use Rattle.std.proofs.Common.{◌≡◌, vec_items, vec_len, vec_capacity}
use Rattle.series.specs.Weights.{power, place}
use Rattle.series.proofs.Filled.{Filled}
use Rattle.series.proofs.tabulation.Tabulation.push_row.Given as goal

-- the first k weights of row n are there, and the next power is q^k
abbrev pub invariant-loop-k : goal.invariant-loop-k
invariant-loop-k g l =
    let m = g.R.Ring.meaning l.self.ring in
    (vec_len l.cells ≡ place l.n l.k) × Filled m l.self.q (vec_items l.cells) × (l.power ≡ power m l.self.q l.k) × (vec_capacity l.cells ≡ vec_capacity l.initial.cells)
