-- What it is for records to represent a system.
use Rattle.std.specs.Prelude.{◌≡◌, ℕ, ◌<◌, List, Some, Option, slice_get}
use Rattle.systems.specs.Trees.{Tree, number, unknown, input, sum, difference, product, bracket, Equation, System, EquationOf, UnknownOf}
use Rattle.records.specs.declared.record.Node.{Node}
use Rattle.records.specs.declared.record.Node.TheVariants.{Number, Unknown, Input, Sum, Difference, Product, Bracket}
use Rattle.records.specs.declared.record.Record.{Record}
use Rattle.records.specs.Layout.{entry}

-- record i has this node
abbrev pub NodeAt : List Record → ℕ → Node → Type 0
NodeAt rs i node = (of : Option ℕ) × (slice_get rs i ≡ Some (entry node of))

-- record r is the right side of the unknown a
abbrev pub RootOf : List Record → ℕ → ℕ → Type 0
RootOf rs a r = (node : Node) × (slice_get rs r ≡ Some (entry node (Some a)))

-- record i stands for the tree: operands stand before their operator, and an unknown is told by the record of its right side
abbrev pub StandsFor : List Record → ℕ → Tree → Type 0
StandsFor rs i (number k) = NodeAt rs i (Number k)
StandsFor rs i (unknown a) = (r : ℕ) × NodeAt rs i (Unknown r) × RootOf rs a r
StandsFor rs i (input x) = NodeAt rs i (Input x)
StandsFor rs i (sum s t) = (j : ℕ) × (k : ℕ) × NodeAt rs i (Sum j k) × (j < i) × (k < i) × StandsFor rs j s × StandsFor rs k t
StandsFor rs i (difference s t) = (j : ℕ) × (k : ℕ) × NodeAt rs i (Difference j k) × (j < i) × (k < i) × StandsFor rs j s × StandsFor rs k t
StandsFor rs i (product s t) = (j : ℕ) × (k : ℕ) × NodeAt rs i (Product j k) × (j < i) × (k < i) × StandsFor rs j s × StandsFor rs k t
StandsFor rs i (bracket s) = (j : ℕ) × NodeAt rs i (Bracket j) × (j < i) × StandsFor rs j s

pub record Represents (rs : List Record) (S : System) : Type 0 where
  -- each equation's right side has a record that is told as such and stands for it
  pub equations : (e : Equation) → EquationOf e S → (r : ℕ) × RootOf rs e.left r × StandsFor rs r e.right
  -- and no other record is told as a right side
  pub no_others : (a r : ℕ) → RootOf rs a r → UnknownOf a S
  pub one_root : (a r s : ℕ) → RootOf rs a r → RootOf rs a s → r ≡ s
