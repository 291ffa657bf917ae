-- The products of series that have names of their own.
use Rattle.std.specs.Prelude.{ℕ, zero, suc, ◌+◌, ◌-◌}
use Rattle.rings.specs.Model.{RingModel, product}
use Rattle.series.specs.Series.{Series, sum_to, weighted, ones}

-- the binomial n over k, by Pascal's rule
unfoldable pub binomial : ℕ → ℕ → ℕ
binomial n zero = 1
binomial zero (suc k) = 0
binomial (suc n) (suc k) = binomial n k + binomial n (suc k)

-- Cauchy's product: term n is the sum of A_k × B_(n−k) over k from 0 to n
unfoldable pub cauchy : RingModel → Series → Series → Series
cauchy m A B n = sum_to m n (λ k. product m (A k) (B (n - k)))

-- Hurwitz's product: the weights are the binomials, as so many ones added up
unfoldable pub hurwitz : RingModel → Series → Series → Series
hurwitz m A B n = weighted m (λ i k. ones m (binomial i k)) A B n
