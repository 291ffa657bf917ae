-- What is printed of a node and of a record.
use Rattle.std.specs.Prelude.{ℕ, List, ◌++◌, [], codes, Some, None, Option}
use Rattle.std.specs.Char.{encode_utf8}
use Rattle.std.specs.Fmt.{decimal}
use Rattle.records.specs.declared.record.Node.{Node}
use Rattle.records.specs.declared.record.Node.TheVariants.{Number, Name, Unknown, Input, Sum, Difference, Product, Bracket}
use Rattle.records.specs.declared.record.Record.{Record}

-- an operator, and the numbers of its operands' records
abbrev pub pair_text : List ℕ → ℕ → ℕ → List ℕ
pair_text operator j k = operator ++ codes " of " ++ decimal j ++ codes " and " ++ decimal k

-- what the node is; a letter is printed as such, and a record by its number
abbrev pub node_text : Node → List ℕ
node_text (Number k) = codes "number " ++ decimal k
node_text (Name a) = codes "name " ++ encode_utf8 a
node_text (Unknown r) = codes "unknown at " ++ decimal r
node_text (Input x) = codes "input " ++ encode_utf8 x
node_text (Sum j k) = pair_text (codes "sum") j k
node_text (Difference j k) = pair_text (codes "difference") j k
node_text (Product j k) = pair_text (codes "product") j k
node_text (Bracket j) = codes "bracket of " ++ decimal j

-- what follows a node that is a whole right side: its unknown; and nothing behind any other node
abbrev pub right_side_text : Option ℕ → List ℕ
right_side_text None = []
right_side_text (Some a) = codes ", the right side of " ++ encode_utf8 a

-- the node, and the unknown whose right side it is, if any
abbrev pub record_text : Record → List ℕ
record_text r = node_text r.node ++ right_side_text r.unknown
