-- Sums over the pairs of indices that come to n.
use Rattle.std.proofs.Common.{◌≡◌, ℕ, zero, suc, ◌+◌, ◌-◌, sym, refl, ap, ◌∙◌, ap₂, arith}
use Rattle.rings.specs.Model.{RingModel, sum, product}
use Rattle.rings.specs.Total.{Total}
use Rattle.series.specs.Series.{sum_to}
use Rattle.series.proofs.Sums.{sum_cong}
use Rattle.systems.proofs.RingRules.{ring_rules}

-- f 0 n + f 1 (n − 1) + … + f n 0
unfoldable pub split : RingModel → ℕ → (ℕ → ℕ → ℕ) → ℕ
split m zero f = f 0 0
split m (suc n) f = sum m (f 0 (suc n)) (split m n (λ i j. f (suc i) j))

pub split_cong : (m : RingModel) (n : ℕ) (f g : ℕ → ℕ → ℕ) → ((i j : ℕ) → i + j ≡ n → f i j ≡ g i j) → split m n f ≡ split m n g
unfolding split
split_cong m zero f g h = h 0 0 refl
split_cong m (suc n) f g h =
    ap₂ (sum m) (h 0 (suc n) (omega arith)) (split_cong m n (λ i j. f (suc i) j) (λ i j. g (suc i) j) (λ i j e. h (suc i) j (omega arith)))

module _ {m : RingModel} (t : Total m) where
  split_last : (n : ℕ) (f : ℕ → ℕ → ℕ) → split m (suc n) f ≡ sum m (split m n (λ i j. f i (suc j))) (f (suc n) 0)
  unfolding split
  split_last zero f = refl
  split_last (suc n) f = ap (sum m (f 0 (suc (suc n)))) (split_last n (λ i j. f (suc i) j)) ∙ sym (t.sum_assoc _ _ _)

  -- the sum over k from 0 to n
  pub split_sum : (n : ℕ) (f : ℕ → ℕ → ℕ) → split m n f ≡ sum_to m n (λ k. f k (n - k))
  unfolding split sum_to
  split_sum zero f = refl
  split_sum (suc n) f =
      split_last n f
      ∙ ap₂ (sum m) (split_sum n (λ i j. f i (suc j)) ∙ sum_cong m n _ _ (λ k le. ap (f k) (omega arith))) (ap (f (suc n)) (omega arith))

  pub split_swap : (n : ℕ) (f : ℕ → ℕ → ℕ) → split m n f ≡ split m n (λ i j. f j i)
  unfolding split
  split_swap zero f = refl
  split_swap (suc n) f = ap (sum m (f 0 (suc n))) (split_swap n (λ i j. f (suc i) j)) ∙ t.sum_comm _ _ ∙ sym (split_last n (λ i j. f j i))

  crossed : (a b c d : ℕ) → sum m (sum m a b) (sum m c d) ≡ sum m (sum m a c) (sum m b d)
  crossed a b c d = simp (ring_rules, t)

  pub split_plus : (n : ℕ) (f g : ℕ → ℕ → ℕ) → split m n (λ i j. sum m (f i j) (g i j)) ≡ sum m (split m n f) (split m n g)
  unfolding split
  split_plus zero f g = refl
  split_plus (suc n) f g =
      ap (sum m (sum m (f 0 (suc n)) (g 0 (suc n)))) (split_plus n (λ i j. f (suc i) j) (λ i j. g (suc i) j)) ∙ crossed _ _ _ _

  pub split_times : (n a : ℕ) (f : ℕ → ℕ → ℕ) → product m a (split m n f) ≡ split m n (λ i j. product m a (f i j))
  unfolding split
  split_times zero a f = refl
  split_times (suc n) a f = t.product_sum _ _ _ ∙ ap (sum m (product m a (f 0 (suc n)))) (split_times n a (λ i j. f (suc i) j))

  pub split_zero : (n : ℕ) → split m n (λ i j. 0) ≡ 0
  unfolding split
  split_zero zero = refl
  split_zero (suc n) = ap (sum m 0) (split_zero n) ∙ t.zero_sum 0 ∙ t.code_zero

  -- the two ways to cut n into three
  pub split_three : (n : ℕ) (f : ℕ → ℕ → ℕ → ℕ) → split m n (λ i l. split m l (f i)) ≡ split m n (λ l k. split m l (λ i j. f i j k))
  unfolding split
  split_three zero f = refl
  split_three (suc n) f =
      ap (sum m (split m (suc n) (f 0))) (split_three n (λ i j k. f (suc i) j k)) ∙ t.sum_assoc _ _ _
      ∙ ap (sum m (f 0 0 (suc n))) (sym (split_plus n (λ l k. f 0 (suc l) k) (λ l k. split m l (λ i j. f (suc i) j k))))
