-- The layout of a solvable system represents it.
use Rattle.std.proofs.Common.{◌≡◌, ℕ, ◌+◌, ◌-◌, ◌<◌, cond, List, [], ◌∷◌, ◌++◌, length, Some, None, Option, sym, refl, ap, ◌∙◌, subst, inl, inr, append_assoc, arith, length-append, eq-eqb, ne_eqb}
use Rattle.std.specs.Prelude.{slice_get}
use Rattle.systems.specs.Solving.{Solvable}
use Rattle.systems.specs.Trees as Trees
use Rattle.systems.specs.Trees.{Tree, Equation, System, UnknownIn, UnknownOf}
use Rattle.systems.proofs.Standing.{placed, found, is_equation}
use Rattle.reader.specs.Nodes.{nodes_in, nodes}
use Rattle.records.specs.declared.record.Node.{Node}
use Rattle.records.specs.declared.record.Node.TheVariants as node
use Rattle.records.specs.declared.record.Record.{Record}
use Rattle.records.specs.Layout.{entry, root_at, node_of, laid, laid_all, root, layout}
use Rattle.records.specs.Representing.{NodeAt, RootOf, StandsFor, Represents}
use Rattle.records.proofs.Laying.{some_nodes, laid_length, laid_all_length, laid_split}
use Rattle.records.proofs.Lookups.{own_at, located}

-- ---- a tree among records

module _ (roots : ℕ → ℕ) (rs : List Record) where
  abbrev names : ℕ → Node
  names a = node.Unknown (roots a)

  -- the records of the tree stand in the list, behind n others
  record Within (n : ℕ) (of : Option ℕ) (t : Tree) : Type 0 where
    pre : List Record
    post : List Record
    offset : length pre ≡ n
    split : rs ≡ pre ++ (laid names n of t ++ post)

  own_is : (n : ℕ) (of : Option ℕ) (t : Tree) → Within n of t → slice_get rs (root_at n t) ≡ Some (entry (node_of names n t) of)
  own_is n of t w = ap (λ l. slice_get l (root_at n t)) w.split ∙ own_at names w.pre w.post n of t w.offset

  own : (n : ℕ) (of : Option ℕ) (t : Tree) → Within n of t → NodeAt rs (root_at n t) (node_of names n t)
  own n of t w = (of, own_is n of t w)

  first : (n : ℕ) (s t : Tree) (pre post : List Record) (r : Record) → length pre ≡ n → rs ≡ pre ++ (((laid names n None s ++ laid names (n + nodes_in s) None t) ++ (r ∷ [])) ++ post) → Within n None s
  first n s t pre post r e split = record { pre = pre; post = laid names (n + nodes_in s) None t ++ (r ∷ post); offset = e; split = split ∙ simp append_assoc }

  second : (n : ℕ) (s t : Tree) (pre post : List Record) (r : Record) → length pre ≡ n → rs ≡ pre ++ (((laid names n None s ++ laid names (n + nodes_in s) None t) ++ (r ∷ [])) ++ post) → Within (n + nodes_in s) None t
  second n s t pre post r e split = record {
    pre = pre ++ laid names n None s;
    post = r ∷ post;
    offset = omega (arith, length-append pre (laid names n None s), laid_length names n None s, e);
    split = split ∙ simp append_assoc;
  }

  -- an operator that stands behind its two operands
  pair : (op : ℕ → ℕ → Node) (n : ℕ) (s t : Tree) → NodeAt rs (n + (nodes_in s + nodes_in t + 1) - 1) (op (root_at n s) (root_at (n + nodes_in s) t))
      → StandsFor rs (root_at n s) s → StandsFor rs (root_at (n + nodes_in s) t) t
      → (j : ℕ) × (k : ℕ) × NodeAt rs (n + (nodes_in s + nodes_in t + 1) - 1) (op j k) × (j < n + (nodes_in s + nodes_in t + 1) - 1) × (k < n + (nodes_in s + nodes_in t + 1) - 1) × StandsFor rs j s × StandsFor rs k t
  pair op n s t here left right = (root_at n s, root_at (n + nodes_in s) t, here, omega (arith, some_nodes s, some_nodes t), omega (arith, some_nodes s, some_nodes t), left, right)

  stands : (t : Tree) (n : ℕ) (of : Option ℕ) → Within n of t → ((a : ℕ) → UnknownIn a t → RootOf rs a (roots a)) → StandsFor rs (root_at n t) t
  stands (Trees.number k) n of w h = own n of (Trees.number k) w
  stands (Trees.unknown a) n of w h = (roots a, own n of (Trees.unknown a) w, h a refl)
  stands (Trees.input x) n of w h = own n of (Trees.input x) w
  stands (Trees.sum s t) n of w h =
      pair node.Sum n s t (own n of (Trees.sum s t) w)
      (stands s n None (first n s t w.pre w.post _ w.offset w.split) (λ a k. h a (inl k)))
      (stands t (n + nodes_in s) None (second n s t w.pre w.post _ w.offset w.split) (λ a k. h a (inr k)))
  stands (Trees.difference s t) n of w h =
      pair node.Difference n s t (own n of (Trees.difference s t) w)
      (stands s n None (first n s t w.pre w.post _ w.offset w.split) (λ a k. h a (inl k)))
      (stands t (n + nodes_in s) None (second n s t w.pre w.post _ w.offset w.split) (λ a k. h a (inr k)))
  stands (Trees.product s t) n of w h =
      pair node.Product n s t (own n of (Trees.product s t) w)
      (stands s n None (first n s t w.pre w.post _ w.offset w.split) (λ a k. h a (inl k)))
      (stands t (n + nodes_in s) None (second n s t w.pre w.post _ w.offset w.split) (λ a k. h a (inr k)))
  stands (Trees.bracket s) n of w h = (
    root_at n s,
    own n of (Trees.bracket s) w,
    omega (arith, some_nodes s),
    stands s n None (record { pre = w.pre; post = entry (node_of names n (Trees.bracket s)) of ∷ w.post; offset = w.offset; split = w.split ∙ simp append_assoc }) h,
  )

-- ---- equations

-- the root of an equation whose unknown has none before
root_found : (n : ℕ) (before after : System) (e : Equation) → ¬ (UnknownOf e.left before) → root n (before ++ (e ∷ after)) e.left ≡ root_at (n + nodes before) e.right
root_found n [] after e new = ap (λ v. cond v (root_at n e.right) (root (n + nodes_in e.right) after e.left)) (eq-eqb e.left e.left refl) ∙ ap (λ m. root_at m e.right) (omega arith)
root_found n (d ∷ before) after e new =
    ap (λ v. cond v (root_at n d.right) (root (n + nodes_in d.right) (before ++ (e ∷ after)) e.left)) (ne_eqb d.left e.left (λ k. new (inl (sym k))))
    ∙ root_found (n + nodes_in d.right) before after e (λ k. new (inr k)) ∙ ap (λ m. root_at m e.right) (omega arith)

-- its unknown
named_in : (before after : System) (e : Equation) (a : ℕ) → a ≡ e.left → UnknownOf a (before ++ (e ∷ after))
named_in [] after e a h = inl h
named_in (d ∷ before) after e a h = inr (named_in before after e a h)

module _ (S : System) (h : Solvable S) where
  -- the records of an equation in the layout
  standing : (before after : System) (e : Equation) → S ≡ before ++ (e ∷ after) → Within (root 0 S) (layout S) (nodes before) (Some e.left) e.right
  standing before after e w = record {
    pre = laid_all (names (root 0 S) (layout S)) 0 before;
    post = laid_all (names (root 0 S) (layout S)) (nodes before + nodes_in e.right) after;
    offset = laid_all_length (names (root 0 S) (layout S)) 0 before;
    split = ap (laid_all (names (root 0 S) (layout S)) 0) w ∙ laid_split (names (root 0 S) (layout S)) 0 before (e ∷ after) ∙ ap (λ m. laid_all (names (root 0 S) (layout S)) 0 before ++ laid_all (names (root 0 S) (layout S)) m (e ∷ after)) (omega arith);
  }

  -- the number of an equation's root
  root_is : (before after : System) (e : Equation) → S ≡ before ++ (e ∷ after) → root 0 S e.left ≡ root_at (nodes before) e.right
  root_is before after e w =
      ap (λ R. root 0 R e.left) w ∙ root_found 0 before after e (h.one_each before after e w) ∙ ap (λ m. root_at m e.right) (omega arith)

  -- each unknown's right side is told as such
  marked : (before after : System) (e : Equation) → S ≡ before ++ (e ∷ after) → RootOf (layout S) e.left (root_at (nodes before) e.right)
  marked before after e w = (_, own_is (root 0 S) (layout S) (nodes before) (Some e.left) e.right (standing before after e w))

  rooted : (a : ℕ) → UnknownOf a S → RootOf (layout S) a (root 0 S a)
  rooted a u =
      let f = found (λ e. a ≡ e.left) S u in
      subst (λ (x : ℕ). RootOf (layout S) x (root 0 S x)) (sym f.has)
      (subst (RootOf (layout S) f.equation.left) (sym (root_is f.before f.after f.equation f.stands)) (marked f.before f.after f.equation f.stands))

  placed_root : (before after : System) (e : Equation) → S ≡ before ++ (e ∷ after) → (r : ℕ) × RootOf (layout S) e.left r × StandsFor (layout S) r e.right
  placed_root before after e w = (
    root_at (nodes before) e.right,
    marked before after e w,
    stands (root 0 S) (layout S) e.right (nodes before) (Some e.left) (standing before after e w)
        (λ a k. rooted a (h.complete e (is_equation before after e w) a k)),
  )

  -- a record that is told as a right side is the root of its unknown
  at_root : (a r : ℕ) → RootOf (layout S) a r → UnknownOf a S × (r ≡ root 0 S a)
  at_root a r w =
      let l = located (names (root 0 S) (layout S)) 0 S a r w.0 w.1 in (
        subst (UnknownOf a) (sym l.stands) (named_in l.before l.after l.equation a l.letter),
        omega (arith, l.at_root) ∙ sym (ap (root 0 S) l.letter ∙ root_is l.before l.after l.equation l.stands),
      )

pub represents : (S : System) → Solvable S → Represents (layout S) S
represents S h = record {
  equations = λ e w. let p = placed S e w in placed_root S h p.before p.after e p.stands;
  no_others = λ a r w. (at_root S h a r w).0;
  one_root = λ a r s w v. (at_root S h a r w).1 ∙ sym (at_root S h a s v).1;
}
