-- What stands on a sheet, push by push.
use Rattle.std.proofs.Common.{◌≡◌, ℕ, ◌+◌, ◌-◌, ◌<◌, ◌≤◌, cond, List, [], ◌∷◌, ◌++◌, length, get_or, set, Some, None, Option as Opt, sym, refl, ap, ◌∙◌, subst, append_assoc, arith, length-append, lt-ltb}
use Rattle.std.proofs.Math.Seq.{get_or-append_seam, set-append_seam}
use Rattle.systems.specs.Trees as Trees
use Rattle.systems.specs.Trees.{Tree}
use Rattle.tokens.specs.declared.token.Group.{Group}
use Rattle.tokens.specs.declared.token.Group.TheVariants.{Round, Square}
use Rattle.reader.specs.Nodes.{nodes_in}
use Rattle.reader.proofs.Derivations.{Factor, f_group, Term, Sum, factor_tree, term_tree, sum_tree}
use Rattle.reader.proofs.Machine.{Pre, p_none, p_plus, p_minus, Mul, m_none, m_star, with_factor, with_term}
use Rattle.records.specs.declared.record.Node.{Node}
use Rattle.records.specs.declared.record.Node.TheVariants as node
use Rattle.records.specs.declared.record.Record.{Record}
use Rattle.records.specs.declared.writer.Sheet.{Sheet}
use Rattle.records.specs.declared.writer.Sign.{Sign}
use Rattle.records.specs.declared.writer.Sign.TheVariants.{Plus, Minus}
use Rattle.records.specs.Layout.{entry, root_at, node_of, operands, laid}
use Rattle.records.specs.Inner.Writing.{last_of, pushed, multiplied, added, bracketed, owned, blank, finished, sheet_of}
use Rattle.records.proofs.Laying.{with_tree, with_length, two_trees, one_tree}

-- ---- what waits in a group, and the records of it

-- the term before a factor, if one waits
abbrev pub MulIs : List Record → Mul → Opt ℕ → Type 0
MulIs a m_none x = x ≡ None
MulIs a (m_star t) x = x ≡ Some (length (with_tree a (term_tree t)) - 1)

abbrev pub mul_out : List Record → Mul → List Record
mul_out a m_none = a
mul_out a (m_star t) = with_tree a (term_tree t)

-- the sum before a term, if one waits
abbrev pub PreIs : List Record → Pre → Opt (Sign × ℕ) → Type 0
PreIs a p_none x = x ≡ None
PreIs a (p_plus s) x = x ≡ Some (Plus, length (with_tree a (sum_tree s)) - 1)
PreIs a (p_minus s) x = x ≡ Some (Minus, length (with_tree a (sum_tree s)) - 1)

abbrev pub pre_out : List Record → Pre → List Record
pre_out a p_none = a
pre_out a (p_plus s) = with_tree a (sum_tree s)
pre_out a (p_minus s) = with_tree a (sum_tree s)

-- ---- the sheet

-- these records are written
abbrev pub SheetIs : List Record → Sheet → Type 0
SheetIs a s = s.records.items ≡ a

pub pushed_is : (a : List Record) (s : Sheet) (node : Node) → SheetIs a s → length a < 64 → SheetIs (a ++ (entry node None ∷ [])) (pushed s node)
pushed_is a s node h room =
    ap (λ v. (cond v (sheet_of (s.records.items ++ (entry node None ∷ []))) s).records.items) (lt-ltb (length s.records.items) 64 (omega (arith, ap length h)))
    ∙ ap (λ l. l ++ (entry node None ∷ [])) h

pub last_is : (a : List Record) (s : Sheet) → SheetIs a s → last_of s ≡ length a - 1
last_is a s h = ap (λ l. length l - 1) h

-- an operator behind its operands
pub operator_is : (op : ℕ → ℕ → Node) (a : List Record) (t u : Tree) (s : Sheet) (left : ℕ) → left ≡ length (with_tree a t) - 1 → SheetIs (with_tree (with_tree a t) u) s
    → length a + nodes_in t + nodes_in u < 64
    → SheetIs (a ++ ((laid node.Name (length a) None t ++ laid node.Name (length a + nodes_in t) None u) ++ (entry (op (root_at (length a) t) (root_at (length a + nodes_in t) u)) None ∷ []))) (pushed s (op left (last_of s)))
operator_is op a t u s left e h room =
    subst (λ (l : List Record). SheetIs l (pushed s (op left (last_of s)))) (two_trees op a t u)
    (subst (λ (x : Node). SheetIs (with_tree (with_tree a t) u ++ (entry x None ∷ [])) (pushed s (op left (last_of s))))
    (λ i. op (e i) (last_is (with_tree (with_tree a t) u) s h i))
    (pushed_is (with_tree (with_tree a t) u) s (op left (last_of s)) h (omega (arith, with_length (with_tree a t) u, with_length a t))))

-- ---- what a factor, a term, a sum and a right side complete

pub multiplied_is : (a : List Record) (m : Mul) (f : Factor) (s : Sheet) (x : Opt ℕ) → MulIs a m x → SheetIs (with_tree (mul_out a m) (factor_tree f)) s
    → length (with_tree a (term_tree (with_factor m f))) ≤ 64 → SheetIs (with_tree a (term_tree (with_factor m f))) (multiplied s x)
multiplied_is a m_none f s x e h room = subst (λ (y : Opt ℕ). SheetIs (with_tree a (factor_tree f)) (multiplied s y)) (sym e) h
multiplied_is a (m_star t) f s x e h room =
    subst (λ (y : Opt ℕ). SheetIs (with_tree a (Trees.product (term_tree t) (factor_tree f))) (multiplied s y)) (sym e)
    (operator_is node.Product a (term_tree t) (factor_tree f) s _ refl h (omega (arith, with_length a (Trees.product (term_tree t) (factor_tree f)))))

pub added_is : (a : List Record) (p : Pre) (t : Term) (s : Sheet) (x : Opt (Sign × ℕ)) → PreIs a p x → SheetIs (with_tree (pre_out a p) (term_tree t)) s
    → length (with_tree a (sum_tree (with_term p t))) ≤ 64 → SheetIs (with_tree a (sum_tree (with_term p t))) (added s x)
added_is a p_none t s x e h room = subst (λ (y : Opt (Sign × ℕ)). SheetIs (with_tree a (term_tree t)) (added s y)) (sym e) h
added_is a (p_plus u) t s x e h room =
    subst (λ (y : Opt (Sign × ℕ)). SheetIs (with_tree a (Trees.sum (sum_tree u) (term_tree t))) (added s y)) (sym e)
    (operator_is node.Sum a (sum_tree u) (term_tree t) s _ refl h (omega (arith, with_length a (Trees.sum (sum_tree u) (term_tree t)))))
added_is a (p_minus u) t s x e h room =
    subst (λ (y : Opt (Sign × ℕ)). SheetIs (with_tree a (Trees.difference (sum_tree u) (term_tree t))) (added s y)) (sym e)
    (operator_is node.Difference a (sum_tree u) (term_tree t) s _ refl h (omega (arith, with_length a (Trees.difference (sum_tree u) (term_tree t)))))

pub bracketed_is : (a : List Record) (g : Group) (x : Sum) (s : Sheet) → SheetIs (with_tree a (sum_tree x)) s
    → length (with_tree a (factor_tree (f_group g x))) ≤ 64 → SheetIs (with_tree a (factor_tree (f_group g x))) (bracketed s g)
bracketed_is a Round x s h room = h
bracketed_is a Square x s h room =
    subst (λ l. SheetIs l (pushed s (node.Bracket (last_of s)))) (one_tree a (sum_tree x))
    (subst (λ (n : ℕ). SheetIs (with_tree a (sum_tree x) ++ (entry (node.Bracket n) None ∷ [])) (pushed s (node.Bracket (last_of s)))) (last_is (with_tree a (sum_tree x)) s h)
    (pushed_is (with_tree a (sum_tree x)) s (node.Bracket (last_of s)) h (omega (arith, with_length a (Trees.bracket (sum_tree x)), with_length a (sum_tree x)))))

-- the last record of a right side has its unknown
pub finished_is : (a : List Record) (t : Tree) (c : ℕ) (s : Sheet) → SheetIs (with_tree a t) s → SheetIs (a ++ laid node.Name (length a) (Some c) t) (finished s c)
finished_is a t c s h =
    (λ i. set (apart i) (at_root i) (owned (root_is i) c))
    ∙ set-append_seam (a ++ operands node.Name (length a) t) _ [] (entry (node_of node.Name (length a) t) (Some c))
    ∙ append_assoc a (operands node.Name (length a) t) _
  where
    apart : s.records.items ≡ (a ++ operands node.Name (length a) t) ++ (entry (node_of node.Name (length a) t) None ∷ [])
    apart = h ∙ sym (append_assoc a (operands node.Name (length a) t) _)

    at_root : last_of s ≡ length (a ++ operands node.Name (length a) t)
    at_root = omega (arith, ap length apart, length-append (a ++ operands node.Name (length a) t) (entry (node_of node.Name (length a) t) None ∷ []))

    root_is : get_or s.records.items (last_of s) blank ≡ entry (node_of node.Name (length a) t) None
    root_is = (λ i. get_or (apart i) (at_root i) blank) ∙ get_or-append_seam (a ++ operands node.Name (length a) t) _ [] blank
