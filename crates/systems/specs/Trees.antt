-- Right sides as trees, equations and systems, and which letters stand where.
use Rattle.std.specs.Prelude.{◌≡◌, ℕ, ◌⊎◌, List, [], ◌∷◌}

-- a right side; unknowns (capitals) and inputs (small letters) are told by their bytes
pub data Tree : Type 0 where
  number : ℕ → Tree
  unknown : ℕ → Tree
  input : ℕ → Tree
  sum : Tree → Tree → Tree
  difference : Tree → Tree → Tree
  product : Tree → Tree → Tree
  bracket : Tree → Tree

-- an unknown and its right side
pub record Equation : Type 0 where
  pub left : ℕ
  pub right : Tree

-- the equations, in the order of the text
abbrev pub System : Type 0
System = List Equation

-- the unknown a stands in the tree
abbrev pub UnknownIn : ℕ → Tree → Type 0
UnknownIn a (number k) = ⊥
UnknownIn a (unknown b) = a ≡ b
UnknownIn a (input x) = ⊥
UnknownIn a (sum s t) = UnknownIn a s ⊎ UnknownIn a t
UnknownIn a (difference s t) = UnknownIn a s ⊎ UnknownIn a t
UnknownIn a (product s t) = UnknownIn a s ⊎ UnknownIn a t
UnknownIn a (bracket s) = UnknownIn a s

-- the unknown a stands in the tree outside all brackets
abbrev pub BareIn : ℕ → Tree → Type 0
BareIn a (number k) = ⊥
BareIn a (unknown b) = a ≡ b
BareIn a (input x) = ⊥
BareIn a (sum s t) = BareIn a s ⊎ BareIn a t
BareIn a (difference s t) = BareIn a s ⊎ BareIn a t
BareIn a (product s t) = BareIn a s ⊎ BareIn a t
BareIn a (bracket s) = ⊥

-- the input x stands in the tree
abbrev pub InputIn : ℕ → Tree → Type 0
InputIn x (number k) = ⊥
InputIn x (unknown b) = ⊥
InputIn x (input y) = x ≡ y
InputIn x (sum s t) = InputIn x s ⊎ InputIn x t
InputIn x (difference s t) = InputIn x s ⊎ InputIn x t
InputIn x (product s t) = InputIn x s ⊎ InputIn x t
InputIn x (bracket s) = InputIn x s

-- one of the equations has the property
abbrev pub SomeEquation : (Equation → Type 0) → System → Type 0
SomeEquation P [] = ⊥
SomeEquation P (e ∷ S) = P e ⊎ SomeEquation P S

-- e is one of the equations
abbrev pub EquationOf : Equation → System → Type 0
EquationOf e S = SomeEquation (λ d. e ≡ d) S

-- a is the left side of one of the equations
abbrev pub UnknownOf : ℕ → System → Type 0
UnknownOf a S = SomeEquation (λ e. a ≡ e.left) S

-- x stands on the right side of one of the equations
abbrev pub InputOf : ℕ → System → Type 0
InputOf x S = SomeEquation (λ e. InputIn x e.right) S
