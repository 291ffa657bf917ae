-- Records laid one behind another.
use Rattle.std.proofs.Common.{◌≡◌, ℕ, ◌+◌, ◌-◌, ◌<◌, false, cond, eqb, List, [], ◌∷◌, ◌++◌, length, Some, None, Option, sym, refl, ap, ◌∙◌, append_assoc, append-nil, arith, length-append}
use Rattle.systems.specs.Trees as Trees
use Rattle.systems.specs.Trees.{Tree, Equation, System}
use Rattle.reader.specs.Nodes.{nodes_in, nodes}
use Rattle.records.specs.declared.record.Node.{Node}
use Rattle.records.specs.declared.record.Node.TheVariants.{Name, Bracket}
use Rattle.records.specs.declared.record.Record.{Record}
use Rattle.records.specs.Layout.{entry, root_at, node_of, operands, laid, laid_all, root}

pub some_nodes : (t : Tree) → 0 < nodes_in t
some_nodes (Trees.number k) = omega arith
some_nodes (Trees.unknown a) = omega arith
some_nodes (Trees.input x) = omega arith
some_nodes (Trees.sum s t) = omega arith
some_nodes (Trees.difference s t) = omega arith
some_nodes (Trees.product s t) = omega arith
some_nodes (Trees.bracket s) = omega arith

-- ---- how many records there are

module _ (names : ℕ → Node) where
  pair_length : (n : ℕ) (s t : Tree) → length (operands names n s) + 1 ≡ nodes_in s → length (operands names (n + nodes_in s) t) + 1 ≡ nodes_in t
      → length (laid names n None s ++ laid names (n + nodes_in s) None t) + 1 ≡ nodes_in s + nodes_in t + 1
  pair_length n s t h k = simp length-append (omega arith)

  pub operands_length : (n : ℕ) (t : Tree) → length (operands names n t) + 1 ≡ nodes_in t
  operands_length n (Trees.number k) = refl
  operands_length n (Trees.unknown a) = refl
  operands_length n (Trees.input x) = refl
  operands_length n (Trees.sum s t) = pair_length n s t (operands_length n s) (operands_length (n + nodes_in s) t)
  operands_length n (Trees.difference s t) = pair_length n s t (operands_length n s) (operands_length (n + nodes_in s) t)
  operands_length n (Trees.product s t) = pair_length n s t (operands_length n s) (operands_length (n + nodes_in s) t)
  operands_length n (Trees.bracket s) = omega (arith, length-append (operands names n s) (entry (node_of names n s) None ∷ []), operands_length n s)

  pub laid_length : (n : ℕ) (of : Option ℕ) (t : Tree) → length (laid names n of t) ≡ nodes_in t
  laid_length n of t = omega (arith, length-append (operands names n t) (entry (node_of names n t) of ∷ []), operands_length n t)

  pub laid_all_length : (n : ℕ) (S : System) → length (laid_all names n S) ≡ nodes S
  laid_all_length n [] = refl
  laid_all_length n (e ∷ S) =
      length-append (laid names n (Some e.left) e.right) (laid_all names (n + nodes_in e.right) S)
      ∙ omega (arith, laid_length n (Some e.left) e.right, laid_all_length (n + nodes_in e.right) S)

  -- further equations
  pub laid_split : (n : ℕ) (S R : System) → laid_all names n (S ++ R) ≡ laid_all names n S ++ laid_all names (n + nodes S) R
  laid_split n [] R = ap (λ m. laid_all names m R) (omega arith)
  laid_split n (e ∷ S) R =
      ap (λ l. laid names n (Some e.left) e.right ++ l) (laid_split (n + nodes_in e.right) S R)
      ∙ sym (append_assoc (laid names n (Some e.left) e.right) _ _)
      ∙ ap (λ m. laid_all names n (e ∷ S) ++ laid_all names m R) (omega arith)

  -- one equation more
  pub laid_more : (n : ℕ) (S : System) (e : Equation) → laid_all names n (S ++ (e ∷ [])) ≡ laid_all names n S ++ laid names (n + nodes S) (Some e.left) e.right
  laid_more n S e = laid_split n S (e ∷ []) ∙ ap (λ l. laid_all names n S ++ l) (append-nil _)

-- ---- a tree behind records, with names that are not completed

abbrev pub with_tree : List Record → Tree → List Record
with_tree a t = a ++ laid Name (length a) None t

pub with_length : (a : List Record) (t : Tree) → length (with_tree a t) ≡ length a + nodes_in t
with_length a t = length-append a (laid Name (length a) None t) ∙ ap (λ m. length a + m) (laid_length Name (length a) None t)

-- the record of an operator behind its two operands
pub two_trees : (op : ℕ → ℕ → Node) (a : List Record) (s t : Tree)
    → with_tree (with_tree a s) t ++ (entry (op (length (with_tree a s) - 1) (length (with_tree (with_tree a s) t) - 1)) None ∷ [])
    ≡ a ++ ((laid Name (length a) None s ++ laid Name (length a + nodes_in s) None t) ++ (entry (op (root_at (length a) s) (root_at (length a + nodes_in s) t)) None ∷ []))
two_trees op a s t =
    (λ i. ((a ++ laid Name (length a) None s) ++ laid Name (first i) None t) ++ (entry (op (first i - 1) (second i - 1)) None ∷ []))
    ∙ simp append_assoc
  where
    first : length (with_tree a s) ≡ length a + nodes_in s
    first = with_length a s

    second : length (with_tree (with_tree a s) t) ≡ length a + nodes_in s + nodes_in t
    second = with_length (with_tree a s) t ∙ ap (λ m. m + nodes_in t) first

-- the record of a bracket behind its operand
pub one_tree : (a : List Record) (s : Tree) → with_tree a s ++ (entry (Bracket (length (with_tree a s) - 1)) None ∷ []) ≡ with_tree a (Trees.bracket s)
one_tree a s = (λ i. with_tree a s ++ (entry (Bracket (with_length a s i - 1)) None ∷ [])) ∙ simp append_assoc

-- ---- the right side of an unknown

pub root_other : (n : ℕ) (S : System) (e : Equation) (a : ℕ) → eqb e.left a ≡ false → root n (S ++ (e ∷ [])) a ≡ root n S a
root_other n [] e a h = ap (λ v. cond v (root_at n e.right) 0) h
root_other n (d ∷ S) e a h = ap (λ m. cond (eqb d.left a) (root_at n d.right) m) (root_other (n + nodes_in d.right) S e a h)
