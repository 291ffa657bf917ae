-- The rearrangements of right sides and of systems.
use Rattle.std.specs.Prelude.{◌≡◌, ℕ, ◌+◌, ◌*◌, [], ◌∷◌}
use Rattle.rings.specs.Model.{RingModel, in_order}
use Rattle.systems.specs.Families.{Family, IsFamily}
use Rattle.systems.specs.Trees.{Tree, number, sum, difference, product, bracket, Equation, System}
use Rattle.systems.specs.Values.{value, Satisfies}

-- the rules, each at the root of a tree and in one direction
pub data Rule : Tree → Tree → Type 0 where
  -- A + B = B + A, (A + B) + C = A + (B + C)
  sum_commutes : (s t : Tree) → Rule (sum s t) (sum t s)
  sum_associates : (s t u : Tree) → Rule (sum (sum s t) u) (sum s (sum t u))
  -- A × B = B × A, (A × B) × C = A × (B × C)
  product_commutes : (s t : Tree) → Rule (product s t) (product t s)
  product_associates : (s t u : Tree) → Rule (product (product s t) u) (product s (product t u))
  -- A × (B + C) = A × B + A × C
  distributes : (s t u : Tree) → Rule (product s (sum t u)) (sum (product s t) (product s u))
  -- 0 + A = A, 1 × A = A, 0 × A = 0
  zero_and : (s : Tree) → Rule (sum (number 0) s) s
  one_times : (s : Tree) → Rule (product (number 1) s) s
  zero_times : (s : Tree) → Rule (product (number 0) s) (number 0)
  -- A − A = 0, A − B = A + (0 − B)
  less_itself : (s : Tree) → Rule (difference s s) (number 0)
  less_is : (s t : Tree) → Rule (difference s t) (sum s (difference (number 0) t))
  -- [A + B] = [A] + [B], [0] = 0
  bracket_of_sum : (s t : Tree) → Rule (bracket (sum s t)) (sum (bracket s) (bracket t))
  bracket_of_zero : Rule (bracket (number 0)) (number 0)
  -- a number is split into a sum or a product of numbers
  number_of_sum : (j k : ℕ) → Rule (number (j + k)) (sum (number j) (number k))
  number_of_product : (j k : ℕ) → Rule (number (j * k)) (product (number j) (number k))

-- one tree comes from another by the rules, at any spot, in either direction, any number of times; on the way there may be any trees
pub data Rearranged : Tree → Tree → Type 0 where
  by_rule : {s t : Tree} → Rule s t → Rearranged s t
  unchanged : (s : Tree) → Rearranged s s
  backward : {s t : Tree} → Rearranged s t → Rearranged t s
  onward : {s t u : Tree} → Rearranged s t → Rearranged t u → Rearranged s u
  in_sum : {s s' t t' : Tree} → Rearranged s s' → Rearranged t t' → Rearranged (sum s t) (sum s' t')
  in_difference : {s s' t t' : Tree} → Rearranged s s' → Rearranged t t' → Rearranged (difference s t) (difference s' t')
  in_product : {s s' t t' : Tree} → Rearranged s s' → Rearranged t t' → Rearranged (product s t) (product s' t')
  in_bracket : {s s' : Tree} → Rearranged s s' → Rearranged (bracket s) (bracket s')

-- one system comes from another: right sides are rearranged, and equations change places, any number of times
pub data RearrangedSystem : System → System → Type 0 where
  none : RearrangedSystem [] []
  right_side : {s s' : Tree} {S T : System} (a : ℕ) → Rearranged s s' → RearrangedSystem S T
      → RearrangedSystem (record { left = a; right = s } ∷ S) (record { left = a; right = s' } ∷ T)
  places : (d e : Equation) (S : System) → RearrangedSystem (d ∷ e ∷ S) (e ∷ d ∷ S)
  afterwards : {S T U : System} → RearrangedSystem S T → RearrangedSystem T U → RearrangedSystem S U

-- over a ring in order rearranging changes no value, and no solution
pub record SameSolutions (m : RingModel) : Type 0 where
  -- rearranged trees stand for the same series, whatever series of elements the letters stand for
  pub values : m.order ≡ in_order → (q : ℕ) (inputs unknowns : Family) → IsFamily m inputs → IsFamily m unknowns
      → (s t : Tree) → Rearranged s t → value m q inputs unknowns s ≡ value m q inputs unknowns t
  -- rearranged systems are satisfied by the same families
  pub solutions : m.order ≡ in_order → (q : ℕ) (inputs unknowns : Family) → IsFamily m inputs → IsFamily m unknowns
      → (S T : System) → RearrangedSystem S T
      → (Satisfies m q S inputs unknowns → Satisfies m q T inputs unknowns) × (Satisfies m q T inputs unknowns → Satisfies m q S inputs unknowns)
