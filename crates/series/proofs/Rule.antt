-- The weights keep their rule, and the rule leaves one table.
use Rattle.std.proofs.Common.{◌≡◌, ℕ, zero, suc, ◌+◌, ◌-◌, ◌<◌, sym, refl, ap, ◌∙◌, ap₂, arith}
use Rattle.std.proofs.Math.Nat.{sub_self}
use Rattle.rings.specs.Model.{RingModel, one_of, sum, product}
use Rattle.series.specs.Weights.{power, IsWeights, gauss, weight, OneTable}

module _ (m : RingModel) (q : ℕ) where
  only_gauss : (W : ℕ → ℕ → ℕ) → IsWeights m q W → (i j n : ℕ) → i + j ≡ n → W n i ≡ gauss m q i j
  unfolding gauss
  only_gauss W h zero j n e = h.first n
  only_gauss W h (suc i) zero n e =
      let p : n ≡ suc i = omega arith in
      ap (λ (x : ℕ). W x (suc i)) p ∙ h.last (suc i)
  only_gauss W h (suc i) (suc j) n e =
      h.inner n (suc i) (omega arith) (omega arith) ∙
      ap₂ (λ (x y : ℕ). sum m x (product m (power m q (suc i)) y))
      (ap (W (n - 1)) {x = suc i - 1} {y = i} (omega arith) ∙ only_gauss W h i (suc j) (n - 1) (omega arith))
      (only_gauss W h (suc i) j (n - 1) (omega arith))

  pub last_one : (n : ℕ) → gauss m q n 0 ≡ one_of m
  unfolding gauss
  last_one zero = refl
  last_one (suc n) = refl

  inner_at : (n i j : ℕ) → n ≡ suc (suc (i + j)) → gauss m q (suc i) (n - suc i) ≡ sum m (gauss m q (suc i - 1) (n - 1 - (suc i - 1))) (product m (power m q (suc i)) (gauss m q (suc i) (n - 1 - suc i)))
  unfolding gauss
  inner_at n i j e =
      let p : n - suc i ≡ suc j = omega arith in
      let r : suc i - 1 ≡ i = omega arith in
      let s : n - 1 - (suc i - 1) ≡ suc j = omega arith in
      let t : n - 1 - suc i ≡ j = omega arith in
      ap (gauss m q (suc i)) p ∙ sym (ap₂ (λ (x y : ℕ). sum m x (product m (power m q (suc i)) y)) (ap₂ (gauss m q) r s) (ap (gauss m q (suc i)) t))

  inner_of : (n k : ℕ) → 0 < k → k < n → weight m q n k ≡ sum m (weight m q (n - 1) (k - 1)) (product m (power m q k) (weight m q (n - 1) k))
  unfolding weight
  inner_of n zero a b = absurd (omega arith)
  inner_of n (suc i) a b = inner_at n i (n - suc (suc i)) (omega arith)

  pub weight_rule : IsWeights m q (weight m q)
  unfolding weight gauss
  weight_rule = record {
    first = λ n. refl;
    last = λ n. ap (gauss m q n) (sub_self n) ∙ last_one n;
    inner = inner_of;
  }

  pub one_table : OneTable m q
  unfolding weight
  one_table = record {
    is = weight_rule;
    only = λ W h n k le. only_gauss W h k (n - k) n (omega arith);
  }
