-- Systems worked out: the first eight terms of one of their unknowns.
use Rattle.std.specs.Prelude.{ℕ, cond, List, [], ◌∷◌, ◌==◌}
use Rattle.rings.specs.Model.{RingModel}
use Rattle.rings.specs.Modular.{residues}
use Rattle.rings.specs.Polynomials.{polynomials}
use Rattle.rings.specs.Duals.{dual}
use Rattle.systems.specs.declared.examples.Example.{Example}
use Rattle.systems.specs.declared.examples.Example.TheVariants.{Catalan, Factorials, AtTwo, OverPolynomials, Marked, Tangents, Secants, Bell, Zeros, Copied}
use Rattle.systems.specs.Trees.{number, unknown, input, sum, difference, product, bracket, System}
use Rattle.systems.specs.Solving.{Solvable}
use Rattle.systems.specs.Rearranging.{RearrangedSystem}
use Rattle.systems.specs.Solutions.{A, B, E, S, T, Y, u, equals, unfed, binary_trees, IsRow}

-- B = 1 + [u × B × B]
abbrev pub marked_trees : System
marked_trees = equals B (sum (number 1) (bracket (product (product (input u) (unknown B)) (unknown B)))) ∷ []

-- T = [1 + T × T] and S = 1 + [S × T]
abbrev pub tangents_and_secants : System
tangents_and_secants =
    equals T (bracket (sum (number 1) (product (unknown T) (unknown T))))
    ∷ equals S (sum (number 1) (bracket (product (unknown S) (unknown T))))
    ∷ []

-- E = 1 + [E] and Y = 1 + [E × Y]
abbrev pub partitions : System
partitions =
    equals E (sum (number 1) (bracket (unknown E)))
    ∷ equals Y (sum (number 1) (bracket (product (unknown E) (unknown Y))))
    ∷ []

-- A = 1 and B = A
abbrev pub copied : System
copied = equals A (number 1) ∷ equals B (unknown A) ∷ []

-- A = [A]
abbrev pub only_zeros : System
only_zeros = equals A (bracket (unknown A)) ∷ []

-- u is fed the code 11 and seven zeros
abbrev pub eleven : ℕ → List ℕ
eleven x = cond (x == u) (11 ∷ 0 ∷ 0 ∷ 0 ∷ 0 ∷ 0 ∷ 0 ∷ 0 ∷ []) []

-- a ring, q, a system, what its inputs are fed, and an unknown of it
pub record Question : Type 0 where
  pub ring : RingModel
  pub base : ℕ
  pub system : System
  pub fed : ℕ → List ℕ
  pub letter : ℕ

-- what is asked in each example: the binary trees modulo 1000 at q = 0, 1 and 2, over polynomials modulo x² + x + 1 at q = x, and
-- marked by u over the dual numbers modulo 10; the tangent, the secant and the Bell numbers modulo 1000; and two small systems
abbrev pub question : Example → Question
question Catalan = record { ring = residues 1000; base = 0; system = binary_trees; fed = unfed; letter = B }
question Factorials = record { ring = residues 1000; base = 1; system = binary_trees; fed = unfed; letter = B }
question AtTwo = record { ring = residues 1000; base = 2; system = binary_trees; fed = unfed; letter = B }
question OverPolynomials = record { ring = polynomials 7 2; base = 2; system = binary_trees; fed = unfed; letter = B }
question Marked = record { ring = dual (residues 10); base = 1; system = marked_trees; fed = eleven; letter = B }
question Tangents = record { ring = residues 1000; base = 1; system = tangents_and_secants; fed = unfed; letter = T }
question Secants = record { ring = residues 1000; base = 1; system = tangents_and_secants; fed = unfed; letter = S }
question Bell = record { ring = residues 1000; base = 1; system = partitions; fed = unfed; letter = Y }
question Zeros = record { ring = residues 1000; base = 0; system = only_zeros; fed = unfed; letter = A }
question Copied = record { ring = residues 1000; base = 0; system = copied; fed = unfed; letter = B }

-- the first eight terms of that unknown
abbrev pub answer : Example → List ℕ
answer Catalan = 1 ∷ 1 ∷ 2 ∷ 5 ∷ 14 ∷ 42 ∷ 132 ∷ 429 ∷ []
answer Factorials = 1 ∷ 1 ∷ 2 ∷ 6 ∷ 24 ∷ 120 ∷ 720 ∷ 40 ∷ []
answer AtTwo = 1 ∷ 1 ∷ 2 ∷ 7 ∷ 42 ∷ 434 ∷ 812 ∷ 31 ∷ []
answer OverPolynomials = 1 ∷ 1 ∷ 0 ∷ 3 ∷ 0 ∷ 0 ∷ 0 ∷ 0 ∷ []
answer Marked = 1 ∷ 11 ∷ 42 ∷ 86 ∷ 64 ∷ 0 ∷ 0 ∷ 0 ∷ []
answer Tangents = 0 ∷ 1 ∷ 0 ∷ 2 ∷ 0 ∷ 16 ∷ 0 ∷ 272 ∷ []
answer Secants = 1 ∷ 0 ∷ 1 ∷ 0 ∷ 5 ∷ 0 ∷ 61 ∷ 0 ∷ []
answer Bell = 1 ∷ 1 ∷ 2 ∷ 5 ∷ 15 ∷ 52 ∷ 203 ∷ 877 ∷ []
answer Zeros = 0 ∷ 0 ∷ 0 ∷ 0 ∷ 0 ∷ 0 ∷ 0 ∷ 0 ∷ []
answer Copied = 1 ∷ 0 ∷ 0 ∷ 0 ∷ 0 ∷ 0 ∷ 0 ∷ 0 ∷ []

-- the row has eight terms of the unknown that is asked for, the first of the only family that satisfies the system
abbrev pub Answers : Question → List ℕ → Type 0
Answers p row = IsRow p.ring p.base 8 p.system p.fed p.letter row

-- B = [B × B] + (2 − 1)
abbrev pub rearranged_trees : System
rearranged_trees = equals B (sum (bracket (product (unknown B) (unknown B))) (difference (number 2) (number 1))) ∷ []

-- what is worked out from the definitions
pub record WorkedOut : Type 0 where
  -- every example is answered
  pub answers : (example : Example) → Answers (question example) (answer example)
  -- the equation of the binary trees, and one that comes from it by rearrangement
  pub rearranged : RearrangedSystem binary_trees rearranged_trees
  -- systems that break a side condition: A = A; B = A, A = 1; A = [B]; A = 1, A = 2
  pub by_itself : ¬ (Solvable (equals A (unknown A) ∷ []))
  pub too_early : ¬ (Solvable (equals B (unknown A) ∷ equals A (number 1) ∷ []))
  pub missing : ¬ (Solvable (equals A (bracket (unknown B)) ∷ []))
  pub twice : ¬ (Solvable (equals A (number 1) ∷ equals A (number 2) ∷ []))
