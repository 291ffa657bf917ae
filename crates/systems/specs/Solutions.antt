-- Rows of coefficients of the only family that satisfies a system.
use Rattle.std.specs.Prelude.{◌≡◌, ℕ, List, [], ◌∷◌, length}
use Rattle.rings.specs.Model.{RingModel}
use Rattle.systems.specs.Trees.{Tree, number, unknown, sum, product, bracket, Equation, System}
use Rattle.systems.specs.Solving.{Solvable, FirstTerms}

-- no input has been fed a coefficient
abbrev pub unfed : ℕ → List ℕ
unfed x = []

-- the row has N coefficients of the unknown, the first in the only family that satisfies the system (being solvable, it has one)
pub record IsRow (m : RingModel) (q N : ℕ) (S : System) (fed : ℕ → List ℕ) (letter : ℕ) (row : List ℕ) : Type 0 where
  pub count : length row ≡ N
  pub solvable : Solvable S
  pub terms : FirstTerms m q S fed letter row

-- letters, by their bytes
abbrev pub A : ℕ
A = 65

abbrev pub B : ℕ
B = 66

abbrev pub E : ℕ
E = 69

abbrev pub S : ℕ
S = 83

abbrev pub T : ℕ
T = 84

abbrev pub Y : ℕ
Y = 89

abbrev pub u : ℕ
u = 117

-- the equation of an unknown and a right side
abbrev pub equals : ℕ → Tree → Equation
equals letter tree = record { left = letter; right = tree }

-- B = 1 + [B × B]
abbrev pub binary_trees : System
binary_trees = equals B (sum (number 1) (bracket (product (unknown B) (unknown B)))) ∷ []
