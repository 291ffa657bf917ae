-- The series over a ring form a commutative ring, and the bracket is additive.
use Rattle.std.specs.Prelude.{◌≡◌, ℕ, ◌+◌, ◌*◌}
use Rattle.rings.specs.Model.{RingModel, in_order}
use Rattle.series.specs.Series.{Series, times, plus, minus, number, bracket}
use Rattle.systems.specs.Families.{IsSeries}

pub record SeriesRing (m : RingModel) (q : ℕ) : Type 0 where
  -- sums, differences, products, numbers and brackets are series of elements
  pub plus_is : (A B : Series) → IsSeries m (plus m A B)
  pub minus_is : (A B : Series) → IsSeries m (minus m A B)
  pub times_is : (A B : Series) → IsSeries m (times m q A B)
  pub number_is : (k : ℕ) → IsSeries m (number m k)
  pub bracket_is : (A : Series) → IsSeries m A → IsSeries m (bracket A)
  -- the sum is associative and commutative, 0 is neutral, and A + (0 − A) = 0
  pub plus_assoc : (A B C : Series) → plus m (plus m A B) C ≡ plus m A (plus m B C)
  pub plus_comm : (A B : Series) → plus m A B ≡ plus m B A
  pub zero_plus : (A : Series) → IsSeries m A → plus m (number m 0) A ≡ A
  pub opposite_plus : (A : Series) → plus m A (minus m (number m 0) A) ≡ number m 0
  -- A − B = A + (0 − B)
  pub minus_plus : (A B : Series) → minus m A B ≡ plus m A (minus m (number m 0) B)
  -- the product is associative and commutative, 1 is neutral, and the product distributes over the sum
  pub times_assoc : (A B C : Series) → times m q (times m q A B) C ≡ times m q A (times m q B C)
  pub times_comm : (A B : Series) → times m q A B ≡ times m q B A
  pub one_times : (A : Series) → IsSeries m A → times m q (number m 1) A ≡ A
  pub times_plus : (A B C : Series) → times m q A (plus m B C) ≡ plus m (times m q A B) (times m q A C)
  -- numbers add and multiply as numbers do
  pub number_plus : (j k : ℕ) → number m (j + k) ≡ plus m (number m j) (number m k)
  pub number_times : (j k : ℕ) → number m (j * k) ≡ times m q (number m j) (number m k)
  -- [A + B] = [A] + [B], and [0] = 0
  pub bracket_plus : (A B : Series) → bracket (plus m A B) ≡ plus m (bracket A) (bracket B)
  pub bracket_zero : bracket (number m 0) ≡ number m 0

-- over a ring in order, for every q
abbrev pub SeriesRings : RingModel → Type 0
SeriesRings m = m.order ≡ in_order → (q : ℕ) → SeriesRing m q
