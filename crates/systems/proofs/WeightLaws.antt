-- The laws of the weights. Most are shown in coordinates, for the weight of i in i + j.
use Rattle.std.proofs.Common.{◌≡◌, ℕ, zero, suc, ◌+◌, ◌-◌, ◌<◌, sym, refl, ap, ◌∙◌, ap₂, arith}
use Rattle.std.proofs.Math.Path.{fun_ext}
use Rattle.rings.specs.Model.{RingModel, code, one_of, sum, product}
use Rattle.rings.specs.Total.{Total}
use Rattle.series.specs.Weights.{power, gauss, weight}
use Rattle.series.specs.Series.{Series, times, weighted, ones}
use Rattle.series.proofs.Rule.{last_one, one_table}
use Rattle.series.proofs.Sums.{sum_cong, weighted_cong}
use Rattle.systems.specs.Products.{binomial, cauchy, hurwitz}
use Rattle.systems.specs.WeightLaws.{WeightLaws}
use Rattle.systems.proofs.RingRules.{ring_rules, power_sum}
use Rattle.systems.proofs.Numbers.{ones_code, ones_sum, power_one}

module _ {m : RingModel} (t : Total m) where
  infixl 60 ◌⊕◌
  infixl 70 ◌⊗◌
  abbrev ◌⊕◌ : ℕ → ℕ → ℕ
  a ⊕ b = sum m a b

  abbrev ◌⊗◌ : ℕ → ℕ → ℕ
  a ⊗ b = product m a b

  abbrev one : ℕ
  one = one_of m

  -- the weight rule from the other side: W(n, k) = q^(n−k) × W(n − 1, k − 1) + W(n − 1, k)
  eq₁ : (q p g : ℕ) → one ⊕ q ⊗ one ⊗ (p ⊗ one ⊕ g) ≡ q ⊗ p ⊗ one ⊕ (one ⊕ q ⊗ one ⊗ g)
  eq₁ q p g = simp (ring_rules, t)

  eq₂ : (q r x : ℕ) → q ⊗ one ⊗ x ⊕ one ⊕ q ⊗ r ⊗ one ≡ q ⊗ one ⊗ (x ⊕ r ⊗ one) ⊕ one
  eq₂ q r x = simp (ring_rules, t)

  eq₃ : (q p r x y z : ℕ) → q ⊗ p ⊗ x ⊕ y ⊕ q ⊗ r ⊗ (p ⊗ y ⊕ z) ≡ q ⊗ p ⊗ (x ⊕ r ⊗ y) ⊕ (y ⊕ q ⊗ r ⊗ z)
  eq₃ q p r x y z = simp (ring_rules, t)

  other_rule : (q i j : ℕ) → gauss m q (suc i) (suc j) ≡ power m q (suc j) ⊗ gauss m q i (suc j) ⊕ gauss m q (suc i) j
  unfolding gauss power
  other_rule q zero zero = t.sum_comm one _
  other_rule q zero (suc j) = ap (λ (x : ℕ). one ⊕ power m q 1 ⊗ x) (other_rule q zero j) ∙ eq₁ q (power m q (suc j)) (gauss m q 1 j)
  other_rule q (suc i) zero = ap (λ (x : ℕ). x ⊕ power m q (suc (suc i)) ⊗ one) (other_rule q i zero) ∙ eq₂ q (power m q (suc i)) (gauss m q i 1)
  other_rule q (suc i) (suc j) =
      ap₂ (λ (x y : ℕ). x ⊕ power m q (suc (suc i)) ⊗ y) (other_rule q i (suc j)) (other_rule q (suc i) j)
      ∙ eq₃ q (power m q (suc j)) (power m q (suc i)) (gauss m q i (suc (suc j))) (gauss m q (suc i) (suc j)) (gauss m q (suc (suc i)) j)

  pub symmetric : (q i j : ℕ) → gauss m q i j ≡ gauss m q j i
  unfolding gauss
  symmetric q zero zero = refl
  symmetric q zero (suc j) = refl
  symmetric q (suc i) zero = refl
  symmetric q (suc i) (suc j) =
      ap₂ (λ (x y : ℕ). x ⊕ power m q (suc i) ⊗ y) (symmetric q i (suc j)) (symmetric q (suc i) j) ∙ t.sum_comm _ _ ∙ sym (other_rule q j i)

  -- the trinomial law: both sides keep one recurrence in three indices
  eq₄ : (a b c d s p : ℕ) → (a ⊕ s ⊗ b) ⊗ (c ⊕ p ⊗ d) ≡ a ⊗ c ⊕ s ⊗ (b ⊗ c) ⊕ p ⊗ ((a ⊕ s ⊗ b) ⊗ d)
  eq₄ a b c d s p = simp (ring_rules, t)

  eq₅ : (x y u v r s : ℕ) → (x ⊕ s ⊗ y) ⊗ u ⊕ r ⊗ (x ⊗ v) ⊕ r ⊗ s ⊗ (y ⊗ v) ≡ (x ⊕ s ⊗ y) ⊗ (u ⊕ r ⊗ v)
  eq₅ x y u v r s = simp (ring_rules, t)

  pub trinomial : (q i j k l n : ℕ) → i + j ≡ l → j + k ≡ n → gauss m q i j ⊗ gauss m q l k ≡ gauss m q j k ⊗ gauss m q i n
  unfolding gauss
  trinomial q zero j k l n e f =
      let p : l ≡ j = omega arith in
      ap (λ (x : ℕ). one ⊗ gauss m q x k) p ∙ t.product_comm _ _
  trinomial q (suc i) zero k l n e f =
      let p : l ≡ suc i = omega arith in
      let r : k ≡ n = omega arith in
      ap₂ (λ (x y : ℕ). one ⊗ gauss m q x y) p r
  trinomial q (suc i) (suc j) zero l n e f =
      let p : suc j ≡ n = omega arith in
      ap (λ (x : ℕ). gauss m q (suc i) (suc j) ⊗ x) (last_one m q l) ∙ t.product_comm _ _ ∙ ap (λ (x : ℕ). one ⊗ gauss m q (suc i) x) p
  trinomial q (suc i) (suc j) (suc k) zero n e f = absurd (omega arith)
  trinomial q (suc i) (suc j) (suc k) (suc l) zero e f = absurd (omega arith)
  trinomial q (suc i) (suc j) (suc k) (suc l) (suc n) e f =
      let r : ℕ = power m q (suc i) in
      let s : ℕ = power m q (suc j) in
      let p : suc l ≡ suc i + suc j = omega arith in
      let w : power m q (suc l) ≡ r ⊗ s = ap (power m q) p ∙ power_sum t q (suc i) (suc j) in
      eq₄ (gauss m q i (suc j)) (gauss m q (suc i) j) (gauss m q l (suc k)) (gauss m q (suc l) k) r (power m q (suc l))
      ∙ ap₂ (sum m)
      (ap₂ (λ (x y : ℕ). x ⊕ r ⊗ y) (trinomial q i (suc j) (suc k) l (suc n) (omega arith) f) (trinomial q (suc i) j (suc k) l n (omega arith) (omega arith)))
      (ap₂ (product m) w (trinomial q (suc i) (suc j) k (suc l) n e (omega arith)))
      ∙ eq₅ (gauss m q j (suc k)) (gauss m q (suc j) k) (gauss m q i (suc n)) (gauss m q (suc i) n) r s

  -- q = 0
  eq₆ : (a b : ℕ) → one ⊕ 0 ⊗ a ⊗ b ≡ one
  eq₆ a b = simp (ring_rules, t)

  at_zero : (i j : ℕ) → gauss m 0 i j ≡ one
  unfolding gauss power
  at_zero zero j = refl
  at_zero (suc i) zero = refl
  at_zero (suc i) (suc j) = ap (λ (x : ℕ). x ⊕ power m 0 (suc i) ⊗ gauss m 0 (suc i) j) (at_zero i (suc j)) ∙ eq₆ (power m 0 i) _

  -- q = 1
  ones_one : ones m 1 ≡ one
  unfolding ones
  ones_one = simp (ring_rules, t)

  above : (n k : ℕ) → n < k → binomial n k ≡ 0
  unfolding binomial
  above n zero h = absurd (omega arith)
  above zero (suc k) h = refl
  above (suc n) (suc k) h = ap₂ (λ (x y : ℕ). x + y) (above n k (omega arith)) (above n (suc k) (omega arith))

  whole : (n : ℕ) → binomial n n ≡ 1
  unfolding binomial
  whole zero = refl
  whole (suc n) = ap₂ (λ (x y : ℕ). x + y) (whole n) (above n (suc n) (omega arith))

  at_one : (n i j : ℕ) → i + j ≡ n → gauss m one i j ≡ ones m (binomial n i)
  unfolding gauss binomial
  at_one n zero j e = sym ones_one
  at_one zero (suc i) j e = absurd (omega arith)
  at_one (suc n) (suc i) zero e =
      let p : n ≡ i = omega arith in
      sym (ap (λ (x : ℕ). ones m (binomial x i + binomial x (suc i))) p ∙ ap (ones m) (whole (suc i)) ∙ ones_one)
  at_one (suc n) (suc i) (suc j) e =
      ap₂ (sum m) (at_one n i (suc j) (omega arith)) (ap₂ (product m) (power_one t (suc i)) (at_one n (suc i) j (omega arith)) ∙ t.one_product _ ∙ ones_code t _)
      ∙ sym (ones_sum t (binomial n i) (binomial n (suc i)))

  times_zero : (A B : Series) (n : ℕ) → times m 0 A B n ≡ cauchy m A B n
  unfolding times weighted weight cauchy
  times_zero A B n =
      sum_cong m n _ _ (λ k le. ap (λ (x : ℕ). x ⊗ A k ⊗ B (n - k)) (at_zero k (n - k)) ∙ ap (λ (x : ℕ). x ⊗ B (n - k)) (t.one_product (A k)) ∙ t.product_code _ _)

  times_one : (A B : Series) (n : ℕ) → times m one A B n ≡ hurwitz m A B n
  unfolding times weight hurwitz
  times_one A B n = weighted_cong m (weight m one) (λ i k. ones m (binomial i k)) A A B B n (λ k le. at_one n k (n - k) (omega arith)) (λ i le. refl) (λ i le. refl)

  gauss_code : (q i j : ℕ) → code m (gauss m q i j) ≡ gauss m q i j
  unfolding gauss
  gauss_code q zero j = t.code_one
  gauss_code q (suc i) zero = t.code_one
  gauss_code q (suc i) (suc j) = t.code_sum _ _

  -- weights are elements
  pub weight_code : (q n k : ℕ) → code m (weight m q n k) ≡ weight m q n k
  unfolding weight
  weight_code q n k = gauss_code q k (n - k)

  pub weight_laws : WeightLaws m
  unfolding weight
  weight_laws = record {
    table = one_table m;
    symmetric = λ q n k le. symmetric q k (n - k) ∙ ap (gauss m q (n - k)) (omega arith);
    trinomial = λ q n k j h le.
        t.product_comm _ _ ∙ trinomial q j (k - j) (n - k) k (n - j) (omega arith) (omega arith) ∙ t.product_comm _ _
        ∙ ap (λ (x : ℕ). gauss m q j (n - j) ⊗ gauss m q (k - j) x) (omega arith);
    at_zero = λ n k le. at_zero k (n - k);
    at_one = λ n k le. at_one n k (n - k) (omega arith);
    is_cauchy = λ A B. fun_ext (times_zero A B);
    is_hurwitz = λ A B. fun_ext (times_one A B);
  }
