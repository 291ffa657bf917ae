-- Rows that satisfy the equations of a system below N hold the first N terms of the only solution.
use Rattle.std.proofs.Common.{◌≡◌, ℕ, ◌<◌, ◌≤◌, false, List, length, sym, refl, subst, inl, inr, arith}
use Rattle.std.proofs.lemmas.Bool.{both_ways}
use Rattle.rings.specs.Model.{RingModel}
use Rattle.series.specs.Terms.{listed}
use Rattle.series.specs.Trees.{IsTreeRow}
use Rattle.systems.specs.Families.{Family}
use Rattle.systems.specs.Trees.{Equation, System, UnknownOf, InputOf}
use Rattle.systems.specs.Values.{value, HoldsAt, SatisfiesBelow}
use Rattle.systems.specs.Solving.{Solvable}
use Rattle.systems.specs.Solutions.{B, IsRow, binary_trees, unfed}
use Rattle.systems.proofs.Unique.{unique}
use Rattle.systems.proofs.Scanned.{solvable, tested}

-- the rows for the letters, as a family
abbrev pub rowed : (ℕ → List ℕ) → Family
rowed rows letter = listed (rows letter)

-- for inputs that were fed N coefficients
pub row_is : (m : RingModel) (q N : ℕ) (X : System) (fed rows : ℕ → List ℕ) (letter : ℕ) → Solvable X → UnknownOf letter X → length (rows letter) ≡ N
    → ((x : ℕ) → InputOf x X → N ≤ length (fed x)) → SatisfiesBelow m q N X (rowed fed) (rowed rows) → IsRow m q N X fed letter (rows letter)
row_is m q N X fed rows letter ok known count enough holds = record {
  count = count;
  solvable = ok;
  terms = λ I F begins f i l.
      unique m q X ok N I (rowed fed) F (rowed rows) (λ e h j k. f e h j) holds
      (λ x h j k. begins x j (let w = enough x h in omega arith)) letter known i (subst (λ (n : ℕ). i < n) count l);
}

-- ---- the binary trees

pub trees_solvable : Solvable binary_trees
trees_solvable = solvable (λ x. false) binary_trees refl

no_inputs : (x : ℕ) → ¬ (InputOf x binary_trees)
no_inputs x h = both_ways false refl (tested (λ y. false) binary_trees refl x h)

module _ (m : RingModel) (q N : ℕ) (row : List ℕ) (tree : IsTreeRow m q N row) where
  satisfied : SatisfiesBelow m q N binary_trees (rowed unfed) (rowed (λ _. row))
  unfolding value
  satisfied e (inl p) i l = subst (λ (d : Equation). HoldsAt m q (rowed unfed) (rowed (λ _. row)) d i) (sym p) (tree.holds i l)
  satisfied e (inr h) i l = absurd h

  pub tree_row : IsRow m q N binary_trees unfed B row
  tree_row = row_is m q N binary_trees unfed (λ _. row) B trees_solvable (inl refl) tree.count (λ x h. absurd (no_inputs x h)) satisfied
