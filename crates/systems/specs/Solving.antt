-- The side conditions under which a system has one solution, and what it is to have one.
use Rattle.std.specs.Prelude.{◌≡◌, ℕ, ◌<◌, List, ◌∷◌, ◌++◌}
use Rattle.rings.specs.Model.{RingModel, in_order, size_of}
use Rattle.series.specs.Terms.{Begins}
use Rattle.systems.specs.Families.{Family}
use Rattle.systems.specs.Trees.{Equation, System, UnknownIn, BareIn, EquationOf, UnknownOf, InputOf}
use Rattle.systems.specs.Values.{Satisfies, SatisfiesBelow}

-- in the system, e stands behind the equations of before and ahead of those of after
abbrev pub Stands : System → Equation → System → System → Type 0
Stands before e after S = S ≡ before ++ (e ∷ after)

-- what makes a system solvable
pub record Solvable (S : System) : Type 0 where
  -- no unknown has two equations
  pub one_each : (before after : System) (e : Equation) → Stands before e after S → ¬ (UnknownOf e.left before)
  -- an unknown outside all brackets names an equation that stands before this one
  pub earlier : (before after : System) (e : Equation) → Stands before e after S → (a : ℕ) → BareIn a e.right → UnknownOf a before
  -- every unknown has an equation
  pub complete : (e : Equation) → EquationOf e S → (a : ℕ) → UnknownIn a e.right → UnknownOf a S

-- two families agree below n on the inputs of the system
abbrev pub SameInputs : System → ℕ → Family → Family → Type 0
SameInputs S n I J = (x : ℕ) → InputOf x S → (i : ℕ) → i < n → I x i ≡ J x i

-- two families agree below n on its unknowns
abbrev pub SameUnknowns : System → ℕ → Family → Family → Type 0
SameUnknowns S n F G = (a : ℕ) → UnknownOf a S → (i : ℕ) → i < n → F a i ≡ G a i

-- below n the coefficients of its inputs are elements
abbrev pub InputsAre : RingModel → System → ℕ → Family → Type 0
InputsAre m S n I = (x : ℕ) → InputOf x S → (i : ℕ) → i < n → I x i < size_of m

-- below n the coefficients of its unknowns are elements
abbrev pub UnknownsAre : RingModel → System → ℕ → Family → Type 0
UnknownsAre m S n F = (a : ℕ) → UnknownOf a S → (i : ℕ) → i < n → F a i < size_of m

-- a solvable system has one and only one solution for every choice of inputs
pub record OneSolution (m : RingModel) : Type 0 where
  -- there is one, for all inputs
  pub exists : (q : ℕ) (S : System) → Solvable S → (inputs : Family) → (unknowns : Family) × Satisfies m q S inputs unknowns
  -- there is no other: the coefficients below n follow from the inputs' coefficients below n and from the equations below n
  pub only : (q : ℕ) (S : System) → Solvable S → (n : ℕ) (inputs inputs' unknowns unknowns' : Family)
      → SatisfiesBelow m q n S inputs unknowns → SatisfiesBelow m q n S inputs' unknowns' → SameInputs S n inputs inputs' → SameUnknowns S n unknowns unknowns'
  -- over a ring in order its coefficients below n are elements, where the inputs' are
  pub elements : m.order ≡ in_order → (q : ℕ) (S : System) → Solvable S → (n : ℕ) (inputs unknowns : Family)
      → SatisfiesBelow m q n S inputs unknowns → InputsAre m S n inputs → UnknownsAre m S n unknowns

-- in every solution the unknown's series begins with the row, if the inputs begin with the coefficients fed
abbrev pub FirstTerms : RingModel → ℕ → System → (ℕ → List ℕ) → ℕ → List ℕ → Type 0
FirstTerms m q S fed letter row = (inputs unknowns : Family) → ((x : ℕ) → Begins (fed x) (inputs x)) → Satisfies m q S inputs unknowns → Begins row (unknowns letter)
