-- Formal series over a ring and their operations.
use Rattle.std.specs.Prelude.{ℕ, zero, suc, ◌-◌}
use Rattle.rings.specs.Model.{RingModel, one_of, sum, opposite, product}
use Rattle.series.specs.Weights.{weight}

-- an endless list of elements: the term at each index
abbrev pub Series : Type 0
Series = ℕ → ℕ

-- g 0 + g 1 + … + g n
unfoldable pub sum_to : RingModel → ℕ → (ℕ → ℕ) → ℕ
sum_to m zero g = g 0
sum_to m (suc n) g = sum m (sum_to m n g) (g (suc n))

-- W(n, k) × A_k × B_(n−k)
abbrev pub pair : RingModel → (ℕ → ℕ → ℕ) → Series → Series → ℕ → ℕ → ℕ
pair m W A B n k = product m (product m (W n k) (A k)) (B (n - k))

-- term n of A × B under the weights W: the sum of W(n, k) × A_k × B_(n−k) over k from 0 to n
unfoldable pub weighted : RingModel → (ℕ → ℕ → ℕ) → Series → Series → Series
unfolding sum_to
weighted m W A B n = sum_to m n (pair m W A B n)

-- A × B, under the weights of q
unfoldable pub times : RingModel → ℕ → Series → Series → Series
unfolding weighted
times m q A B n = weighted m (weight m q) A B n

-- A + B, term by term
unfoldable pub plus : RingModel → Series → Series → Series
plus m A B n = sum m (A n) (B n)

-- A − B, term by term: the sum with the opposite
unfoldable pub minus : RingModel → Series → Series → Series
minus m A B n = sum m (A n) (opposite m (B n))

-- k ones added up
unfoldable pub ones : RingModel → ℕ → ℕ
ones m zero = 0
ones m (suc k) = sum m (one_of m) (ones m k)

-- the number k: k ones added up, followed by zeros
unfoldable pub number : RingModel → ℕ → Series
unfolding ones
number m k zero = ones m k
number m k (suc n) = 0

-- [A]: 0 followed by the terms of A
unfoldable pub bracket : Series → Series
bracket A zero = 0
bracket A (suc n) = A n
