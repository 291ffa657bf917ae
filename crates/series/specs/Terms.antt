-- Terms of products of series whose first terms stand in rows.
use Rattle.std.specs.Prelude.{◌≡◌, ℕ, ◌<◌, List, length, Some, None, Option, slice_index}
use Rattle.rings.specs.Model.{RingModel}
use Rattle.series.specs.Weights.{place, Tabulates}
use Rattle.series.specs.Series.{Series, weighted, times}

-- the series that begins with the row, and goes on with zeros
abbrev pub listed : List ℕ → Series
listed row i = slice_index row i

-- the series begins with the row
abbrev pub Begins : List ℕ → Series → Type 0
Begins row A = (i : ℕ) → i < length row → A i ≡ slice_index row i

-- the weights that stand in the cells, row after row
abbrev pub standing : List ℕ → ℕ → ℕ → ℕ
standing cells n k = slice_index cells (place n k)

-- n is below 64, both rows have a term n, and the cells have row n of the weights
pub record Enough (cells a b : List ℕ) (n : ℕ) : Type 0 where
  pub small : n < 64
  pub first : n < length a
  pub second : n < length b
  pub weights : place n n < length cells

-- the answer: term n of the product under the weights in the cells, or none where there is not enough to make it of
abbrev pub GivesTerm : RingModel → List ℕ → List ℕ → List ℕ → ℕ → Option ℕ → Type 0
GivesTerm m cells a b n (Some t) = Enough cells a b n × (t ≡ weighted m (standing cells) (listed a) (listed b) n)
GivesTerm m cells a b n None = ¬ (Enough cells a b n)

-- with the weights of q in the cells, an answer is term n of the product of every two series that begin with the rows
abbrev pub GivesProduct : RingModel → List ℕ → List ℕ → List ℕ → ℕ → Option ℕ → Type 0
GivesProduct m cells a b n (Some t) =
    (q N : ℕ) → n < N → Tabulates m q N cells → (A B : Series) → Begins a A → Begins b B → t ≡ times m q A B n
GivesProduct m cells a b n None = Unit {0}
