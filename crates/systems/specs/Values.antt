-- The series that a tree stands for, and the families that satisfy a system.
use Rattle.std.specs.Prelude.{◌≡◌, ℕ, ◌<◌}
use Rattle.rings.specs.Model.{RingModel}
use Rattle.series.specs.Series as Series
use Rattle.systems.specs.Families.{Family}
use Rattle.systems.specs.Trees.{Tree, number, unknown, input, sum, difference, product, bracket, Equation, System, EquationOf}

-- the series of a tree, where the letters stand for given series
unfoldable pub value : RingModel → ℕ → Family → Family → Tree → Series.Series
value m q inputs unknowns (number k) = Series.number m k
value m q inputs unknowns (unknown a) = unknowns a
value m q inputs unknowns (input x) = inputs x
value m q inputs unknowns (sum s t) = Series.plus m (value m q inputs unknowns s) (value m q inputs unknowns t)
value m q inputs unknowns (difference s t) = Series.minus m (value m q inputs unknowns s) (value m q inputs unknowns t)
value m q inputs unknowns (product s t) = Series.times m q (value m q inputs unknowns s) (value m q inputs unknowns t)
value m q inputs unknowns (bracket s) = Series.bracket (value m q inputs unknowns s)

-- both sides of the equation have the same coefficient at index n
abbrev pub HoldsAt : RingModel → ℕ → Family → Family → Equation → ℕ → Type 0
HoldsAt m q inputs unknowns e n = unknowns e.left n ≡ value m q inputs unknowns e.right n

-- for these inputs, the unknowns satisfy the system: each equation holds at each index
abbrev pub Satisfies : RingModel → ℕ → System → Family → Family → Type 0
Satisfies m q S inputs unknowns = (e : Equation) → EquationOf e S → (n : ℕ) → HoldsAt m q inputs unknowns e n

-- each equation holds at each index below n
abbrev pub SatisfiesBelow : RingModel → ℕ → ℕ → System → Family → Family → Type 0
SatisfiesBelow m q n S inputs unknowns = (e : Equation) → EquationOf e S → (i : ℕ) → i < n → HoldsAt m q inputs unknowns e i
