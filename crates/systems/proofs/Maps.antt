-- Maps that carry the operations at all numbers carry weights and series.
use Rattle.std.proofs.Common.{◌≡◌, ℕ, zero, suc, ◌-◌, refl, ap, ◌∙◌, ap₂}
use Rattle.rings.specs.Model.{RingModel, one_of, sum, opposite, product}
use Rattle.series.specs.Weights.{power, gauss, weight}
use Rattle.series.specs.Series.{Series, sum_to, weighted, times, plus, minus, ones, number, bracket}

-- a map that carries the operations, whatever numbers they are given, and the powers of p to those of q; it asks for no law on
-- either side
pub record Hom (a b : RingModel) (φ : ℕ → ℕ) (p q : ℕ) : Type 0 where
  pub to_zero : φ 0 ≡ 0
  pub to_one : φ (one_of a) ≡ one_of b
  pub to_sum : (x y : ℕ) → φ (sum a x y) ≡ sum b (φ x) (φ y)
  pub to_opposite : (x : ℕ) → φ (opposite a x) ≡ opposite b (φ x)
  pub to_product : (x y : ℕ) → φ (product a x y) ≡ product b (φ x) (φ y)
  pub to_power : (k : ℕ) → φ (power a p k) ≡ power b q k

module _ {a b : RingModel} {φ : ℕ → ℕ} {p q : ℕ} (h : Hom a b φ p q) where
  -- a series taken through the map
  abbrev along : Series → Series
  along A n = φ (A n)

  to_gauss : (i j : ℕ) → φ (gauss a p i j) ≡ gauss b q i j
  unfolding gauss
  to_gauss zero j = h.to_one
  to_gauss (suc i) zero = h.to_one
  to_gauss (suc i) (suc j) =
      h.to_sum _ _ ∙ ap₂ (sum b) (to_gauss i (suc j)) (h.to_product _ _ ∙ ap₂ (product b) (h.to_power (suc i)) (to_gauss (suc i) j))

  pub to_weight : (n k : ℕ) → φ (weight a p n k) ≡ weight b q n k
  unfolding weight
  to_weight n k = to_gauss k (n - k)

  to_sums : (n : ℕ) (f g : ℕ → ℕ) → ((k : ℕ) → φ (f k) ≡ g k) → φ (sum_to a n f) ≡ sum_to b n g
  unfolding sum_to
  to_sums zero f g e = e 0
  to_sums (suc n) f g e = h.to_sum _ _ ∙ ap₂ (sum b) (to_sums n f g e) (e (suc n))

  pub to_times : (A B : Series) (n : ℕ) → φ (times a p A B n) ≡ times b q (along A) (along B) n
  unfolding times weighted
  to_times A B n =
      to_sums n _ _ (λ k. h.to_product _ _ ∙ ap (λ (x : ℕ). product b x (φ (B (n - k)))) (h.to_product _ _ ∙ ap (λ (x : ℕ). product b x (φ (A k))) (to_weight n k)))

  to_ones : (k : ℕ) → φ (ones a k) ≡ ones b k
  unfolding ones
  to_ones zero = h.to_zero
  to_ones (suc k) = h.to_sum _ _ ∙ ap₂ (sum b) h.to_one (to_ones k)

  pub to_number : (k n : ℕ) → φ (number a k n) ≡ number b k n
  unfolding number
  to_number k zero = to_ones k
  to_number k (suc n) = h.to_zero

  pub to_plus : (A B : Series) (n : ℕ) → φ (plus a A B n) ≡ plus b (along A) (along B) n
  unfolding plus
  to_plus A B n = h.to_sum _ _

  pub to_minus : (A B : Series) (n : ℕ) → φ (minus a A B n) ≡ minus b (along A) (along B) n
  unfolding minus
  to_minus A B n = h.to_sum _ _ ∙ ap (sum b (φ (A n))) (h.to_opposite _)

  pub to_bracket : (A : Series) (n : ℕ) → φ (bracket A n) ≡ bracket (along A) n
  unfolding bracket
  to_bracket A zero = h.to_zero
  to_bracket A (suc n) = refl
