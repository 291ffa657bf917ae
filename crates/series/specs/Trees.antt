-- The series B of the binary trees, with B = 1 + [B × B].
use Rattle.std.specs.Prelude.{◌≡◌, ℕ, ◌<◌, List, length, slice_index}
use Rattle.rings.specs.Model.{RingModel, size_of}
use Rattle.series.specs.Series.{Series, times, plus, number, bracket}
use Rattle.series.specs.Terms.{listed}

-- B = 1 + [B × B] holds at index n
abbrev pub HoldsAt : RingModel → ℕ → Series → ℕ → Type 0
HoldsAt m q B n = B n ≡ plus m (number m 1) (bracket (times m q B B)) n

-- the row has N codes, and the equation holds at every index of it
pub record IsTreeRow (m : RingModel) (q N : ℕ) (row : List ℕ) : Type 0 where
  pub count : length row ≡ N
  pub codes : (n : ℕ) → n < N → slice_index row n < size_of m
  pub holds : (n : ℕ) → n < N → HoldsAt m q (listed row) n
