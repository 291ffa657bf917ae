-- Completed names, and the layout of a system.
use Rattle.std.proofs.Common.{◌≡◌, ℕ, ◌+◌, List, [], ◌∷◌, ◌++◌, map, length, get_or, Some, None, Option, refl, ap, ◌∙◌}
use Rattle.std.proofs.Math.Path.{fun_ext}
use Rattle.std.proofs.lemmas.List.{map-append}
use Rattle.systems.specs.Trees as Trees
use Rattle.systems.specs.Trees.{Tree, System}
use Rattle.reader.specs.Nodes.{nodes_in, nodes}
use Rattle.records.specs.declared.record.Node.{Node}
use Rattle.records.specs.declared.record.Node.TheVariants as node
use Rattle.records.specs.declared.writer.Writer.{Writer}
use Rattle.records.specs.Layout.{entry, node_of, operands, laid, laid_all, layout}
use Rattle.records.specs.Inner.Writing.{completed, Written}
use Rattle.records.proofs.Laying.{laid_all_length}

module _ (roots : List ℕ) where
  abbrev names : ℕ → Node
  names a = node.Unknown (get_or roots a 0)

  entry_done : (n : ℕ) (of : Option ℕ) (t : Tree) → completed roots (entry (node_of node.Name n t) of) ≡ entry (node_of names n t) of
  entry_done n of (Trees.number k) = refl
  entry_done n of (Trees.unknown a) = refl
  entry_done n of (Trees.input x) = refl
  entry_done n of (Trees.sum s t) = refl
  entry_done n of (Trees.difference s t) = refl
  entry_done n of (Trees.product s t) = refl
  entry_done n of (Trees.bracket s) = refl

  own_done : (n : ℕ) (of : Option ℕ) (t : Tree) → map (completed roots) (operands node.Name n t) ≡ operands names n t → map (completed roots) (laid node.Name n of t) ≡ laid names n of t
  own_done n of t h = map-append (completed roots) (operands node.Name n t) _ ∙ (λ i. h i ++ (entry_done n of t i ∷ []))

  pair_done : (n : ℕ) (s t : Tree) → map (completed roots) (operands node.Name n s) ≡ operands names n s → map (completed roots) (operands node.Name (n + nodes_in s) t) ≡ operands names (n + nodes_in s) t
      → map (completed roots) (laid node.Name n None s ++ laid node.Name (n + nodes_in s) None t) ≡ laid names n None s ++ laid names (n + nodes_in s) None t
  pair_done n s t h k = map-append (completed roots) (laid node.Name n None s) _ ∙ (λ i. own_done n None s h i ++ own_done (n + nodes_in s) None t k i)

  operands_done : (n : ℕ) (t : Tree) → map (completed roots) (operands node.Name n t) ≡ operands names n t
  operands_done n (Trees.number k) = refl
  operands_done n (Trees.unknown a) = refl
  operands_done n (Trees.input x) = refl
  operands_done n (Trees.sum s t) = pair_done n s t (operands_done n s) (operands_done (n + nodes_in s) t)
  operands_done n (Trees.difference s t) = pair_done n s t (operands_done n s) (operands_done (n + nodes_in s) t)
  operands_done n (Trees.product s t) = pair_done n s t (operands_done n s) (operands_done (n + nodes_in s) t)
  operands_done n (Trees.bracket s) = own_done n None s (operands_done n s)

  all_done : (n : ℕ) (S : System) → map (completed roots) (laid_all node.Name n S) ≡ laid_all names n S
  all_done n [] = refl
  all_done n (e ∷ S) =
      map-append (completed roots) (laid node.Name n (Some e.left) e.right) _
      ∙ (λ i. own_done n (Some e.left) e.right (operands_done n e.right) i ++ all_done (n + nodes_in e.right) S i)

-- the records that are written, completed
pub completes : (S : System) (w : Writer) → Written S w → map (completed w.roots) w.sheet.records.items ≡ layout S
completes S w h = ap (map (completed w.roots)) h.records ∙ all_done w.roots 0 S ∙ ap (λ f. laid_all f 0 S) (fun_ext (λ a. ap node.Unknown (h.roots a)))

-- as many as the system has nodes
pub as_many : (S : System) (w : Writer) → Written S w → length w.sheet.records.items ≡ nodes S
as_many S w h = ap length h.records ∙ laid_all_length node.Name 0 S
