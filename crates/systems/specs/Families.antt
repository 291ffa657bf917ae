-- Series and families of series whose terms are elements of a ring.
use Rattle.std.specs.Prelude.{ℕ, ◌<◌}
use Rattle.rings.specs.Model.{RingModel, size_of}
use Rattle.series.specs.Series.{Series}

-- every term is an element, told by its code
abbrev pub IsSeries : RingModel → Series → Type 0
IsSeries m A = (n : ℕ) → A n < size_of m

-- a series for each letter; letters are told by their bytes
abbrev pub Family : Type 0
Family = ℕ → Series

-- every series of the family is one of elements
abbrev pub IsFamily : RingModel → Family → Type 0
IsFamily m F = (letter : ℕ) → IsSeries m (F letter)
