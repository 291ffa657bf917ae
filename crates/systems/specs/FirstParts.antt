-- Dual numbers read at ε = 0: a map that carries the operations, and so tables.
use Rattle.std.specs.Prelude.{◌≡◌, ℕ, ◌%◌, ◌<◌}
use Rattle.rings.specs.Model.{RingModel, in_order, code, size_of}
use Rattle.rings.specs.Duals.{dual}
use Rattle.systems.specs.Carrying.{Carries, CarriesAll}

-- the code of a, where x is the code of a + bε over the ring; 0 where the ring is not in order
abbrev pub first_part : RingModel → ℕ → ℕ
first_part b x = code b (x % size_of b)

-- where the dual numbers over the ring are in order, to take first parts carries every table over them to the table over the ring
abbrev pub CarriesFirstParts : RingModel → Type 0
CarriesFirstParts b = (dual b).order ≡ in_order → (q : ℕ) → q < size_of (dual b)
    → Carries (dual b) b (first_part b) q (first_part b q) × CarriesAll (dual b) b (first_part b) q (first_part b q)
