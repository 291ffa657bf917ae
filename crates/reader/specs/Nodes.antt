-- How many nodes a system has.
use Rattle.std.specs.Prelude.{ℕ, ◌+◌, [], ◌∷◌}
use Rattle.systems.specs.Trees.{Tree, number, unknown, input, sum, difference, product, bracket, System}

-- each number, each letter, each + - * and each [ is one node
abbrev pub nodes_in : Tree → ℕ
nodes_in (number k) = 1
nodes_in (unknown a) = 1
nodes_in (input x) = 1
nodes_in (sum s t) = nodes_in s + nodes_in t + 1
nodes_in (difference s t) = nodes_in s + nodes_in t + 1
nodes_in (product s t) = nodes_in s + nodes_in t + 1
nodes_in (bracket s) = nodes_in s + 1

-- the nodes of all right sides
abbrev pub nodes : System → ℕ
nodes [] = 0
nodes (e ∷ S) = nodes_in e.right + nodes S
