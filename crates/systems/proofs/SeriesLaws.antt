-- The laws of series: sum, product, numbers and bracket.
use Rattle.std.proofs.Common.{◌≡◌, ℕ, zero, suc, ◌+◌, ◌*◌, sym, refl, ap, ◌∙◌, ap₂}
use Rattle.rings.specs.Model.{RingModel, code, one_of, sum, opposite, product}
use Rattle.rings.specs.Total.{Total}
use Rattle.rings.specs.Lemmas.Rules.{sum_zero}
use Rattle.series.specs.Weights.{gauss, weight}
use Rattle.series.specs.Series.{Series, weighted, times, plus, minus, ones, number, bracket}
use Rattle.series.proofs.Sums.{sum_cong}
use Rattle.systems.proofs.RingRules.{ring_rules, sum_opposite}
use Rattle.systems.proofs.Numbers.{ones_code, ones_sum, ones_product}
use Rattle.systems.proofs.WeightLaws.{symmetric, trinomial}
use Rattle.systems.proofs.Splits.{split, split_cong, split_sum, split_swap, split_plus, split_times, split_zero, split_three}

module _ {m : RingModel} (t : Total m) (q : ℕ) where
  infixl 70 ◌⊗◌
  abbrev ◌⊗◌ : ℕ → ℕ → ℕ
  a ⊗ b = product m a b

  -- W(i + j, i) × A_i × B_j
  abbrev term : Series → Series → ℕ → ℕ → ℕ
  term A B i j = gauss m q i j ⊗ (A i ⊗ B j)

  -- the product over the pairs of indices that come to n
  times_split : (A B : Series) (n : ℕ) → times m q A B n ≡ split m n (term A B)
  unfolding times weighted weight
  times_split A B n = sum_cong m n _ _ (λ k le. t.product_assoc _ _ _) ∙ sym (split_sum t n (term A B))

  pub times_comm : (A B : Series) (n : ℕ) → times m q A B n ≡ times m q B A n
  times_comm A B n =
      times_split A B n ∙ split_swap t n (term A B) ∙ split_cong m n _ _ (λ i j e. ap₂ (product m) (symmetric t q j i) (t.product_comm _ _))
      ∙ sym (times_split B A n)

  shared : (g a b c : ℕ) → g ⊗ (a ⊗ sum m b c) ≡ sum m (g ⊗ (a ⊗ b)) (g ⊗ (a ⊗ c))
  shared g a b c = simp (ring_rules, t)

  pub times_plus : (A B C : Series) (n : ℕ) → times m q A (plus m B C) n ≡ plus m (times m q A B) (times m q A C) n
  unfolding plus
  times_plus A B C n =
      times_split A (plus m B C) n ∙ split_cong m n _ _ (λ i j e. shared _ _ _ _) ∙ split_plus t n (term A B) (term A C)
      ∙ sym (ap₂ (sum m) (times_split A B n) (times_split A C n))

  -- one term of a product of three series
  abbrev three : Series → Series → Series → ℕ → ℕ → ℕ → ℕ
  three A B C i j k = gauss m q i j ⊗ gauss m q (i + j) k ⊗ (A i ⊗ (B j ⊗ C k))

  dealt : (n g a : ℕ) (f : ℕ → ℕ → ℕ) → g ⊗ (a ⊗ split m n f) ≡ split m n (λ i j. g ⊗ (a ⊗ f i j))
  dealt n g a f = ap (product m g) (split_times t n a f) ∙ split_times t n g (λ i j. a ⊗ f i j)

  right_turned : (g h a b c : ℕ) → g ⊗ (a ⊗ (h ⊗ (b ⊗ c))) ≡ h ⊗ g ⊗ (a ⊗ (b ⊗ c))
  right_turned g h a b c = simp (ring_rules, t)

  left_turned : (g h a b c : ℕ) → g ⊗ (c ⊗ (h ⊗ (a ⊗ b))) ≡ h ⊗ g ⊗ (a ⊗ (b ⊗ c))
  left_turned g h a b c = simp (ring_rules, t)

  on_the_right : (A B C : Series) (i l : ℕ) → term A (times m q B C) i l ≡ split m l (three A B C i)
  on_the_right A B C i l =
      ap (λ (x : ℕ). gauss m q i l ⊗ (A i ⊗ x)) (times_split B C l) ∙ dealt l (gauss m q i l) (A i) (term B C)
      ∙ split_cong m l _ _ (λ j k e.
      right_turned (gauss m q i l) (gauss m q j k) (A i) (B j) (C k)
      ∙ ap (λ (x : ℕ). x ⊗ (A i ⊗ (B j ⊗ C k))) (sym (trinomial t q i j k (i + j) l refl e)))

  on_the_left : (A B C : Series) (l k : ℕ) → term (times m q A B) C l k ≡ split m l (λ i j. three A B C i j k)
  on_the_left A B C l k =
      ap (product m (gauss m q l k)) (t.product_comm _ _ ∙ ap (product m (C k)) (times_split A B l)) ∙ dealt l (gauss m q l k) (C k) (term A B)
      ∙ split_cong m l _ _ (λ i j e.
      left_turned (gauss m q l k) (gauss m q i j) (A i) (B j) (C k)
      ∙ ap (λ (x : ℕ). gauss m q i j ⊗ gauss m q x k ⊗ (A i ⊗ (B j ⊗ C k))) (sym e))

  pub times_assoc : (A B C : Series) (n : ℕ) → times m q (times m q A B) C n ≡ times m q A (times m q B C) n
  times_assoc A B C n =
      times_split (times m q A B) C n ∙ split_cong m n _ _ (λ l k e. on_the_left A B C l k) ∙ sym (split_three t n (three A B C))
      ∙ sym (times_split A (times m q B C) n ∙ split_cong m n _ _ (λ i l e. on_the_right A B C i l))

  first_term : (a b : ℕ) → one_of m ⊗ (a ⊗ b) ≡ a ⊗ b
  first_term a b = simp (ring_rules, t)

  later_term : (g b : ℕ) → g ⊗ (0 ⊗ b) ≡ 0
  later_term g b = simp (ring_rules, t)

  -- k × B, term by term
  number_by : (k : ℕ) (B : Series) (n : ℕ) → times m q (number m k) B n ≡ ones m k ⊗ B n
  unfolding number split gauss
  number_by k B zero = times_split (number m k) B 0 ∙ first_term (ones m k) (B 0)
  number_by k B (suc n) =
      times_split (number m k) B (suc n)
      ∙ ap₂ (sum m) (first_term (ones m k) (B (suc n))) (split_cong m n _ _ (λ i j e. later_term (gauss m q (suc i) j) (B j)) ∙ split_zero t n)
      ∙ sum_zero t _ ∙ t.code_product _ _

  pub one_times : (A : Series) (n : ℕ) → times m q (number m 1) A n ≡ code m (A n)
  unfolding ones
  one_times A n = number_by 1 A n ∙ simp (ring_rules, t)

  pub zero_times : (A : Series) (n : ℕ) → times m q (number m 0) A n ≡ number m 0 n
  unfolding ones number
  zero_times A zero = number_by 0 A 0 ∙ simp (ring_rules, t)
  zero_times A (suc n) = number_by 0 A (suc n) ∙ simp (ring_rules, t)

  pub number_times : (j k n : ℕ) → number m (j * k) n ≡ times m q (number m j) (number m k) n
  unfolding number
  number_times j k zero = ones_product t j k ∙ sym (number_by j (number m k) 0)
  number_times j k (suc n) = sym (number_by j (number m k) (suc n) ∙ simp (ring_rules, t))

module _ {m : RingModel} (t : Total m) where
  pub plus_comm : (A B : Series) (n : ℕ) → plus m A B n ≡ plus m B A n
  unfolding plus
  plus_comm A B n = t.sum_comm _ _

  pub plus_assoc : (A B C : Series) (n : ℕ) → plus m (plus m A B) C n ≡ plus m A (plus m B C) n
  unfolding plus
  plus_assoc A B C n = t.sum_assoc _ _ _

  nothing : (n : ℕ) → number m 0 n ≡ 0
  unfolding number ones
  nothing zero = refl
  nothing (suc n) = refl

  pub zero_plus : (A : Series) (n : ℕ) → plus m (number m 0) A n ≡ code m (A n)
  unfolding plus
  zero_plus A n = ap (λ (x : ℕ). sum m x (A n)) (nothing n) ∙ t.zero_sum _

  pub minus_self : (A : Series) (n : ℕ) → minus m A A n ≡ number m 0 n
  unfolding minus
  minus_self A n = sum_opposite t _ ∙ sym (nothing n)

  pub minus_plus : (A B : Series) (n : ℕ) → minus m A B n ≡ plus m A (minus m (number m 0) B) n
  unfolding minus plus
  minus_plus A B n = ap (sum m (A n)) (sym (ap (λ (x : ℕ). sum m x (opposite m (B n))) (nothing n) ∙ t.zero_sum _ ∙ t.code_opposite _))

  pub number_code : (k n : ℕ) → code m (number m k n) ≡ number m k n
  unfolding number
  number_code k zero = ones_code t k
  number_code k (suc n) = t.code_zero

  pub number_plus : (j k n : ℕ) → number m (j + k) n ≡ plus m (number m j) (number m k) n
  unfolding plus number
  number_plus j k zero = ones_sum t j k
  number_plus j k (suc n) = sym (t.zero_sum 0 ∙ t.code_zero)

  pub bracket_code : (A : Series) → ((n : ℕ) → code m (A n) ≡ A n) → (n : ℕ) → code m (bracket A n) ≡ bracket A n
  unfolding bracket
  bracket_code A h zero = t.code_zero
  bracket_code A h (suc n) = h n

  pub bracket_plus : (A B : Series) (n : ℕ) → bracket (plus m A B) n ≡ plus m (bracket A) (bracket B) n
  unfolding bracket plus
  bracket_plus A B zero = sym (t.zero_sum 0 ∙ t.code_zero)
  bracket_plus A B (suc n) = refl

  pub bracket_zero : (n : ℕ) → bracket (number m 0) n ≡ number m 0 n
  unfolding bracket
  bracket_zero zero = sym (nothing 0)
  bracket_zero (suc n) = nothing n ∙ sym (nothing (suc n))
