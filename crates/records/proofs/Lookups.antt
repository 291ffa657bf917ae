-- What stands where in the records of a system.
use Rattle.std.proofs.Common.{◌≡◌, ℕ, zero, suc, ◌+◌, ◌⊎◌, List, [], ◌∷◌, ◌++◌, length, get_or, Some, None, Option, sym, refl, ap, ◌∙◌, inl, inr, append_assoc, arith, length-append}
use Rattle.std.specs.Prelude.{slice_get}
use Rattle.std.proofs.Math.Seq.{get_or-append_seam}
use Rattle.std.proofs.lemmas.Option.{slice_get_read, none-some, same_Some}
use Rattle.systems.specs.Trees as Trees
use Rattle.systems.specs.Trees.{Tree, Equation, System}
use Rattle.reader.specs.Nodes.{nodes_in, nodes}
use Rattle.records.specs.declared.record.Node.{Node}
use Rattle.records.specs.declared.record.Record.{Record}
use Rattle.records.specs.Layout.{entry, root_at, node_of, operands, laid, laid_all}
use Rattle.records.proofs.Laying.{operands_length, laid_length}

-- ---- lists

pub behind : {X : Type 0} (a b : List X) (x : X) (i : ℕ) → i ≡ length a → slice_get (a ++ (x ∷ b)) i ≡ Some x
behind a b x i e = slice_get_read (a ++ (x ∷ b)) _ i x refl (omega (arith, length-append a (x ∷ b))) (sym (get_or-append_seam a x b x) ∙ ap (λ n. get_or (a ++ (x ∷ b)) n x) (sym e))

-- an element of two lists joined is one of the first or one of the second
split_get : (a b : List Record) (i : ℕ) (x : Record) → slice_get (a ++ b) i ≡ Some x → (slice_get a i ≡ Some x) ⊎ ((q : ℕ) × (i ≡ length a + q) × (slice_get b q ≡ Some x))
split_get [] b i x e = inr (i, omega arith, e)
split_get (y ∷ a) b zero x e = inl e
split_get (y ∷ a) b (suc i) x e = elim (split_get a b i x e) [ inl h ↦ inl h | inr h ↦ inr (h.0, omega (arith, h.1), h.2) ]

only_get : (r : Record) (i : ℕ) (x : Record) → slice_get (r ∷ []) i ≡ Some x → (i ≡ 0) × (r ≡ x)
only_get r zero x e = (refl, cc)
only_get r (suc i) x e = absurd (none-some _ e)

module _ (names : ℕ → Node) where
  -- ---- the record of a tree

  -- records behind others, its own last
  pub own_at : (pre post : List Record) (n : ℕ) (of : Option ℕ) (t : Tree) → length pre ≡ n → slice_get (pre ++ (laid names n of t ++ post)) (root_at n t) ≡ Some (entry (node_of names n t) of)
  own_at pre post n of t e =
      ap (λ l. slice_get l (root_at n t)) regroup
      ∙ behind (pre ++ operands names n t) post (entry (node_of names n t) of) (root_at n t) (omega (arith, length-append pre (operands names n t), operands_length names n t, e))
    where
      regroup : pre ++ (laid names n of t ++ post) ≡ (pre ++ operands names n t) ++ (entry (node_of names n t) of ∷ post)
      regroup = simp append_assoc

  -- ---- the records that are told as right sides

  abbrev Unmarked : List Record → Type 0
  Unmarked rs = (i : ℕ) (node : Node) (a : ℕ) → slice_get rs i ≡ Some (entry node (Some a)) → ⊥

  join_unmarked : (a b : List Record) → Unmarked a → Unmarked b → Unmarked (a ++ b)
  join_unmarked a b h k i node c e = elim (split_get a b i _ e) [ inl w ↦ h i node c w | inr w ↦ k w.0 node c w.2 ]

  one_unmarked : (node : Node) → Unmarked (entry node None ∷ [])
  one_unmarked node i x a e = none-some a (ap (λ (r : Record). r.unknown) (only_get (entry node None) i (entry x (Some a)) e).1)

  none_unmarked : Unmarked []
  none_unmarked i node a e = none-some _ e

  laid_unmarked : (n : ℕ) (t : Tree) → Unmarked (operands names n t) → Unmarked (laid names n None t)
  laid_unmarked n t h = join_unmarked (operands names n t) (entry (node_of names n t) None ∷ []) h (one_unmarked (node_of names n t))

  unmarked : (n : ℕ) (t : Tree) → Unmarked (operands names n t)
  unmarked n (Trees.number k) = none_unmarked
  unmarked n (Trees.unknown a) = none_unmarked
  unmarked n (Trees.input x) = none_unmarked
  unmarked n (Trees.sum s t) = join_unmarked _ _ (laid_unmarked n s (unmarked n s)) (laid_unmarked (n + nodes_in s) t (unmarked (n + nodes_in s) t))
  unmarked n (Trees.difference s t) = join_unmarked _ _ (laid_unmarked n s (unmarked n s)) (laid_unmarked (n + nodes_in s) t (unmarked (n + nodes_in s) t))
  unmarked n (Trees.product s t) = join_unmarked _ _ (laid_unmarked n s (unmarked n s)) (laid_unmarked (n + nodes_in s) t (unmarked (n + nodes_in s) t))
  unmarked n (Trees.bracket s) = laid_unmarked n s (unmarked n s)

  -- the equation whose right side a record is told as
  pub record Located (n : ℕ) (S : System) (a r : ℕ) : Type 0 where
    pub before : System
    pub equation : Equation
    pub after : System
    pub stands : S ≡ before ++ (equation ∷ after)
    pub letter : a ≡ equation.left
    pub at_root : n + r ≡ root_at (n + nodes before) equation.right

  pub located : (n : ℕ) (S : System) (a r : ℕ) (node : Node) → slice_get (laid_all names n S) r ≡ Some (entry node (Some a)) → Located n S a r
  located n [] a r node e = absurd (none-some _ e)
  located n (d ∷ S) a r node e = go (split_get (laid names n (Some d.left) d.right) (laid_all names (n + nodes_in d.right) S) r _ e) (located (n + nodes_in d.right) S a)
    where
      here : (slice_get (operands names n d.right) r ≡ Some (entry node (Some a))) ⊎ ((q : ℕ) × (r ≡ length (operands names n d.right) + q) × (slice_get (entry (node_of names n d.right) (Some d.left) ∷ []) q ≡ Some (entry node (Some a)))) → Located n (d ∷ S) a r
      here (inl w) = absurd (unmarked n d.right r node a w)
      here (inr w) =
          let own = only_get (entry (node_of names n d.right) (Some d.left)) w.0 (entry node (Some a)) w.2 in
          let same : a ≡ d.left = same_Some a d.left (ap (λ (x : Record). x.unknown) (sym own.1)) in
          record { before = []; equation = d; after = S; stands = refl; letter = same; at_root = omega (arith, w.1, own.0, operands_length names n d.right) }

      go : (slice_get (laid names n (Some d.left) d.right) r ≡ Some (entry node (Some a))) ⊎ ((q : ℕ) × (r ≡ length (laid names n (Some d.left) d.right) + q) × (slice_get (laid_all names (n + nodes_in d.right) S) q ≡ Some (entry node (Some a))))
          → ((r : ℕ) (node : Node) → slice_get (laid_all names (n + nodes_in d.right) S) r ≡ Some (entry node (Some a)) → Located (n + nodes_in d.right) S a r) → Located n (d ∷ S) a r
      go (inl w) more = here (split_get (operands names n d.right) (entry (node_of names n d.right) (Some d.left) ∷ []) r _ w)
      go (inr w) more =
          let l = more w.0 node w.2 in
          record {
            before = d ∷ l.before;
            equation = l.equation;
            after = l.after;
            stands = ap (λ x. d ∷ x) l.stands;
            letter = l.letter;
            at_root = omega (arith, w.1, l.at_root, laid_length names n (Some d.left) d.right);
          }
