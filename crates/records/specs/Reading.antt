-- What reading a text into records answers and leaves.
use Rattle.std.specs.Prelude.{◌≡◌, ℕ, Bool, true, false, List, ◌++◌, length, drop, count_by, Ok, Err, Result}
use Rattle.systems.specs.Trees.{System}
use Rattle.reader.specs.declared.fault.TextFault.{TextFault}
use Rattle.reader.specs.Examining.{Accepts, Faulty, product_signs}
use Rattle.reader.specs.Nodes.{nodes}
use Rattle.records.specs.declared.record.Node.{Node}
use Rattle.records.specs.declared.record.Node.TheVariants.{Product}
use Rattle.records.specs.declared.record.Record.{Record}
use Rattle.records.specs.Layout.{layout}
use Rattle.records.specs.Representing.{Represents}

-- the text is accepted: the records of its system stand in front, the others are as they were, and the answer is its number of nodes
-- and of product signs. Or it has a fault, and all records are as they were.
abbrev pub Reads : List ℕ → List Record → List Record → Result (ℕ × ℕ) TextFault → Type 0
Reads bs lent left (Ok counts) = (S : System) × Accepts bs S × (counts ≡ (nodes S, product_signs bs)) × (left ≡ layout S ++ drop (nodes S) lent)
Reads bs lent left (Err f) = Faulty bs f × (left ≡ lent)

abbrev pub is_product : Node → Bool
is_product (Product j k) = true
is_product _ = false

-- how many records are products
abbrev pub products : List Record → ℕ
products rs = count_by (λ r. is_product r.node) rs

-- the records of an accepted text: one for each node, as many products as the text has product signs; they represent
-- the system
pub record RecordLaws : Type 0 where
  pub count : (S : System) → length (layout S) ≡ nodes S
  pub signs : (bs : List ℕ) (S : System) → Accepts bs S → products (layout S) ≡ product_signs bs
  pub meaning : (bs : List ℕ) (S : System) → Accepts bs S → Represents (layout S) S
