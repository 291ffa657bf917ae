-- Two rings: whether both are in order, maps from the first to the second, and what such maps carry.
use Rattle.std.specs.Prelude.{◌≡◌, ℕ, ◌<◌, ◌≤◌, Ok, Err}
use Rattle.rings.specs.Model.{RingModel, Order, in_order, size_of, one_of, sum, product}
use Rattle.series.specs.Weights.{weight}
use Rattle.systems.specs.Families.{Family, IsFamily}
use Rattle.systems.specs.Trees.{Tree, System, UnknownOf, InputOf}
use Rattle.systems.specs.Values.{value, Satisfies, SatisfiesBelow}
use Rattle.systems.specs.Solving.{Solvable, InputsAre}
use Rattle.systems.specs.Rearranging.{RearrangedSystem}

-- whether both rings are in order; the fault of the first that is not decides
abbrev pub both : Order → Order → Order
both (Err fault) second = Err fault
both (Ok _) second = second

-- the map takes codes of a to codes of b, and carries 0, the one, sums, products, and the element p to q
pub record Carries (a b : RingModel) (map : ℕ → ℕ) (p q : ℕ) : Type 0 where
  pub to_codes : (x : ℕ) → x < size_of a → map x < size_of b
  pub to_zero : map 0 ≡ 0
  pub to_one : map (one_of a) ≡ one_of b
  pub to_sums : (x y : ℕ) → x < size_of a → y < size_of a → map (sum a x y) ≡ sum b (map x) (map y)
  pub to_products : (x y : ℕ) → x < size_of a → y < size_of a → map (product a x y) ≡ product b (map x) (map y)
  pub base : p < size_of a
  pub to_base : map p ≡ q

-- a family taken through a map, coefficient by coefficient
abbrev pub through : (ℕ → ℕ) → Family → Family
through map F letter n = map (F letter n)

-- take a first system over a and a second over b that comes from it by rearrangement, both solvable, and coefficients that satisfy
-- each below n. Where the map carries below n the coefficients of each input that stands in both, it carries below n the
-- coefficients of each unknown. Inputs that stand in one of them alone do not matter.
abbrev pub CarriesTables : (a b : RingModel) → (ℕ → ℕ) → ℕ → ℕ → Type 0
CarriesTables a b map p q = (S T : System) → Solvable S → Solvable T → RearrangedSystem S T
    → (n : ℕ) (inputs inputs' unknowns unknowns' : Family)
    → SatisfiesBelow a p n S inputs unknowns → SatisfiesBelow b q n T inputs' unknowns'
    → InputsAre a S n inputs → InputsAre b T n inputs'
    → ((x : ℕ) → InputOf x S → InputOf x T → (i : ℕ) → i < n → map (inputs x i) ≡ inputs' x i)
    → (u : ℕ) → UnknownOf u S → (i : ℕ) → i < n → map (unknowns u i) ≡ unknowns' u i

-- what such a map carries: weights, the values of trees, solutions, and tables
pub record CarriesAll (a b : RingModel) (map : ℕ → ℕ) (p q : ℕ) : Type 0 where
  pub weights : (n k : ℕ) → k ≤ n → map (weight a p n k) ≡ weight b q n k
  pub values : (inputs unknowns : Family) → IsFamily a inputs → IsFamily a unknowns → (t : Tree) (n : ℕ)
      → map (value a p inputs unknowns t n) ≡ value b q (through map inputs) (through map unknowns) t n
  pub solutions : (S : System) (inputs unknowns : Family) → IsFamily a inputs → IsFamily a unknowns
      → Satisfies a p S inputs unknowns → Satisfies b q S (through map inputs) (through map unknowns)
  pub tables : CarriesTables a b map p q

-- between two rings in order, every map that carries 0, the one, sums, products and p to q carries all of this
abbrev pub Transfers : RingModel → RingModel → Type 0
Transfers a b = a.order ≡ in_order → b.order ≡ in_order → (map : ℕ → ℕ) (p q : ℕ) → Carries a b map p q → CarriesAll a b map p q
