-- Term n of a tree looks at terms up to n, and below n inside brackets.
use Rattle.std.proofs.Common.{◌≡◌, ℕ, zero, suc, ◌<◌, ◌≤◌, refl, ap₂, inl, inr, le_refl, arith}
use Rattle.rings.specs.Model as Model
use Rattle.rings.specs.Model.{RingModel, opposite}
use Rattle.series.specs.Series.{plus, minus}
use Rattle.series.specs.Series as Series
use Rattle.series.proofs.Sums.{times_cong}
use Rattle.systems.specs.Families.{Family}
use Rattle.systems.specs.Trees.{Tree, number, unknown, input, sum, difference, product, bracket, UnknownIn, BareIn, InputIn}
use Rattle.systems.specs.Values.{value}
use Rattle.systems.proofs.Standing.{bare_is_in}

module _ (m : RingModel) (q : ℕ) (I J F G : Family) where
  -- the coefficients that term n of a tree looks at are the same: of unknowns outside all brackets and of inputs up to n, of other
  -- unknowns below n
  abbrev pub Same : Tree → ℕ → Type 0
  Same t n =
      ((a : ℕ) → BareIn a t → (i : ℕ) → i ≤ n → F a i ≡ G a i)
      × ((a : ℕ) → UnknownIn a t → (i : ℕ) → i < n → F a i ≡ G a i)
      × ((x : ℕ) → InputIn x t → (i : ℕ) → i ≤ n → I x i ≡ J x i)

  -- then they are for both parts of the tree, up to every earlier index
  first : (s t : Tree) (n k : ℕ) → k ≤ n → Same (sum s t) n → Same s k
  first s t n k le h = (
    (λ a w i l. h.0 a (inl w) i (omega arith)),
    (λ a w i l. h.1 a (inl w) i (omega arith)),
    (λ x w i l. h.2 x (inl w) i (omega arith)),
  )

  second : (s t : Tree) (n k : ℕ) → k ≤ n → Same (sum s t) n → Same t k
  second s t n k le h = (
    (λ a w i l. h.0 a (inr w) i (omega arith)),
    (λ a w i l. h.1 a (inr w) i (omega arith)),
    (λ x w i l. h.2 x (inr w) i (omega arith)),
  )

  pub near : (t : Tree) (n : ℕ) → Same t n → value m q I F t n ≡ value m q J G t n
  unfolding value plus minus Series.bracket
  near (number k) n h = refl
  near (unknown a) n h = h.0 a refl n (le_refl n)
  near (input x) n h = h.2 x refl n (le_refl n)
  near (sum s t) n h = ap₂ (Model.sum m) (near s n (first s t n n (le_refl n) h)) (near t n (second s t n n (le_refl n) h))
  near (difference s t) n h = ap₂ (λ (x y : ℕ). Model.sum m x (opposite m y)) (near s n (first s t n n (le_refl n) h)) (near t n (second s t n n (le_refl n) h))
  near (product s t) n h = times_cong m q _ _ _ _ n (λ k le. near s k (first s t n k le h)) (λ k le. near t k (second s t n k le h))
  near (bracket s) zero h = refl
  near (bracket s) (suc n) h =
      near s n ((λ a w i l. h.1 a (bare_is_in s a w) i (omega arith)), (λ a w i l. h.1 a w i (omega arith)), (λ x w i l. h.2 x w i (omega arith)))
