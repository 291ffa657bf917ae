-- The weights W(n, k) of a ring and an element q, for k from 0 to n.
use Rattle.std.specs.Prelude.{◌≡◌, ℕ, zero, suc, ◌+◌, ◌-◌, ◌*◌, ◌/◌, ◌<◌, ◌≤◌, List, length, slice_index}
use Rattle.rings.specs.Model.{RingModel, one_of, sum, product}

-- q^k
unfoldable pub power : RingModel → ℕ → ℕ → ℕ
power m q zero = one_of m
power m q (suc k) = product m q (power m q k)

-- the rule of the weights: W(n, 0) = W(n, n) = 1, and W(n, k) = W(n − 1, k − 1) + q^k × W(n − 1, k) for 0 < k < n
pub record IsWeights (m : RingModel) (q : ℕ) (W : ℕ → ℕ → ℕ) : Type 0 where
  pub first : (n : ℕ) → W n 0 ≡ one_of m
  pub last : (n : ℕ) → W n n ≡ one_of m
  pub inner : (n k : ℕ) → 0 < k → k < n → W n k ≡ sum m (W (n - 1) (k - 1)) (product m (power m q k) (W (n - 1) k))

-- the weight of i in i + j
unfoldable pub gauss : RingModel → ℕ → ℕ → ℕ → ℕ
unfolding power
gauss m q zero j = one_of m
gauss m q (suc i) zero = one_of m
gauss m q (suc i) (suc j) = sum m (gauss m q i (suc j)) (product m (power m q (suc i)) (gauss m q (suc i) j))

-- W(n, k)
unfoldable pub weight : RingModel → ℕ → ℕ → ℕ → ℕ
unfolding gauss
weight m q n k = gauss m q k (n - k)

-- `weight` keeps the rule, and every table that keeps the rule is the same
pub record OneTable (m : RingModel) (q : ℕ) : Type 0 where
  pub is : IsWeights m q (weight m q)
  pub only : (W : ℕ → ℕ → ℕ) → IsWeights m q W → (n k : ℕ) → k ≤ n → W n k ≡ weight m q n k

-- how many weights stand in the rows before row n
abbrev pub rows_before : ℕ → ℕ
rows_before n = n * (n + 1) / 2

-- where W(n, k) stands when the weights stand row after row, W(0, 0) first
abbrev pub place : ℕ → ℕ → ℕ
place n k = rows_before n + k

-- the cells hold the weights of q for the indices below N, row after row
pub record Tabulates (m : RingModel) (q N : ℕ) (cells : List ℕ) : Type 0 where
  pub count : length cells ≡ rows_before N
  pub cell : (n k : ℕ) → n < N → k ≤ n → slice_index cells (place n k) ≡ weight m q n k
