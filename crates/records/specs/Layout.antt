-- The records of a system: its right sides one after another, of each the operands before their operator.
use Rattle.std.specs.Prelude.{ℕ, ◌+◌, ◌-◌, cond, List, [], ◌∷◌, ◌++◌, Some, None, Option, ◌==◌}
use Rattle.systems.specs.Trees as Trees
use Rattle.systems.specs.Trees.{Tree, Equation, System}
use Rattle.reader.specs.Nodes.{nodes_in}
use Rattle.records.specs.declared.record.Node.{Node}
use Rattle.records.specs.declared.record.Node.TheVariants.{Number, Unknown, Input, Sum, Difference, Product, Bracket}
use Rattle.records.specs.declared.record.Record.{Record}

-- a node, and the unknown whose whole right side it is, if any
abbrev pub entry : Node → Option ℕ → Record
entry node of = record { node = node; unknown = of }

-- the number of a tree's own record, where n records stand before those of the tree
abbrev pub root_at : ℕ → Tree → ℕ
root_at n t = n + nodes_in t - 1

-- the node of a tree, where n records stand before its own and `names` is how unknowns are written
abbrev pub node_of : (ℕ → Node) → ℕ → Tree → Node
node_of names n (Trees.number k) = Number k
node_of names n (Trees.unknown a) = names a
node_of names n (Trees.input x) = Input x
node_of names n (Trees.sum s t) = Sum (root_at n s) (root_at (n + nodes_in s) t)
node_of names n (Trees.difference s t) = Difference (root_at n s) (root_at (n + nodes_in s) t)
node_of names n (Trees.product s t) = Product (root_at n s) (root_at (n + nodes_in s) t)
node_of names n (Trees.bracket s) = Bracket (root_at n s)

-- records, and behind them one more
abbrev pub then : List Record → Node → Option ℕ → List Record
then rs node of = rs ++ (entry node of ∷ [])

-- the records of its operands, the left one's first; each has its own record behind those of its operands
abbrev pub operands : (ℕ → Node) → ℕ → Tree → List Record
operands names n (Trees.number k) = []
operands names n (Trees.unknown a) = []
operands names n (Trees.input x) = []
operands names n (Trees.sum s t) = then (operands names n s) (node_of names n s) None ++ then (operands names (n + nodes_in s) t) (node_of names (n + nodes_in s) t) None
operands names n (Trees.difference s t) = then (operands names n s) (node_of names n s) None ++ then (operands names (n + nodes_in s) t) (node_of names (n + nodes_in s) t) None
operands names n (Trees.product s t) = then (operands names n s) (node_of names n s) None ++ then (operands names (n + nodes_in s) t) (node_of names (n + nodes_in s) t) None
operands names n (Trees.bracket s) = then (operands names n s) (node_of names n s) None

-- the records of a tree: those of its operands, and its own
abbrev pub laid : (ℕ → Node) → ℕ → Option ℕ → Tree → List Record
laid names n of t = then (operands names n t) (node_of names n t) of

-- the records of equations; each root has its unknown
abbrev pub laid_all : (ℕ → Node) → ℕ → System → List Record
laid_all names n [] = []
laid_all names n (e ∷ S) = laid names n (Some e.left) e.right ++ laid_all names (n + nodes_in e.right) S

-- the number of the record of an unknown's right side
abbrev pub root : ℕ → System → ℕ → ℕ
root n [] a = 0
root n (e ∷ S) a = cond (e.left == a) (root_at n e.right) (root (n + nodes_in e.right) S a)

-- the records of a system; an unknown is written by the number of its right side's record
abbrev pub layout : System → List Record
layout S = laid_all (λ a. Unknown (root 0 S a)) 0 S
