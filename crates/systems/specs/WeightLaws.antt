-- The laws of the weights.
use Rattle.std.specs.Prelude.{◌≡◌, ℕ, ◌-◌, ◌≤◌}
use Rattle.rings.specs.Model.{RingModel, one_of, product}
use Rattle.series.specs.Weights.{weight, OneTable}
use Rattle.series.specs.Series.{Series, times, ones}
use Rattle.systems.specs.Products.{binomial, cauchy, hurwitz}

pub record WeightLaws (m : RingModel) : Type 0 where
  -- for every q the weights are the only table that keeps the rule
  pub table : (q : ℕ) → OneTable m q
  -- W(n, k) = W(n, n − k)
  pub symmetric : (q n k : ℕ) → k ≤ n → weight m q n k ≡ weight m q n (n - k)
  -- W(n, k) × W(k, j) = W(n, j) × W(n − j, k − j)
  pub trinomial : (q n k j : ℕ) → j ≤ k → k ≤ n → product m (weight m q n k) (weight m q k j) ≡ product m (weight m q n j) (weight m q (n - j) (k - j))
  -- at q = 0 every weight is 1, and at q = 1 they are the binomials
  pub at_zero : (n k : ℕ) → k ≤ n → weight m 0 n k ≡ one_of m
  pub at_one : (n k : ℕ) → k ≤ n → weight m (one_of m) n k ≡ ones m (binomial n k)
  -- so the product is Cauchy's at q = 0, and Hurwitz's at q = 1
  pub is_cauchy : (A B : Series) → times m 0 A B ≡ cauchy m A B
  pub is_hurwitz : (A B : Series) → times m (one_of m) A B ≡ hurwitz m A B
