-- The grammar of equation texts: relations between tokens and the tree, the equation or the system that they are written for.
use Rattle.std.specs.Prelude.{ℕ, ◌+◌, ◌-◌, ◌*◌, List, [], ◌∷◌, ◌++◌}
use Rattle.systems.specs.Trees as Trees
use Rattle.systems.specs.Trees.{Tree, Equation, System}
use Rattle.tokens.specs.declared.token.Group.TheVariants.{Round, Square}
use Rattle.tokens.specs.Kinds.{Kind, number, capital, small, equals, semicolon, plus, minus, star, opens, closes}

-- the number that is written by n and then the digits
abbrev pub decimal_from : ℕ → List ℕ → ℕ
decimal_from n [] = n
decimal_from n (d ∷ ds) = decimal_from (n * 10 + (d - 48)) ds

-- the number that the digits write, the highest first
abbrev pub decimal : List ℕ → ℕ
decimal ds = decimal_from 0 ds

mutual
  -- a factor is a number, a capital, a small letter, or a sum in a group; a round group is what the sum is, a square one its bracket
  pub data IsFactor : List Kind → Tree → Type 0 where
    a_number : (ds : List ℕ) → IsFactor (number ds ∷ []) (Trees.number (decimal ds))
    a_capital : (a : ℕ) → IsFactor (capital a ∷ []) (Trees.unknown a)
    a_small : (x : ℕ) → IsFactor (small x ∷ []) (Trees.input x)
    in_round : (ts : List Kind) (t : Tree) → IsSum ts t → IsFactor (opens Round ∷ (ts ++ (closes Round ∷ []))) t
    in_square : (ts : List Kind) (t : Tree) → IsSum ts t → IsFactor (opens Square ∷ (ts ++ (closes Square ∷ []))) (Trees.bracket t)

  -- a term is a factor, or a term, * and a factor: it groups from the left
  pub data IsTerm : List Kind → Tree → Type 0 where
    one_factor : (ts : List Kind) (t : Tree) → IsFactor ts t → IsTerm ts t
    times : (ts us : List Kind) (t u : Tree) → IsTerm ts t → IsFactor us u → IsTerm (ts ++ (star ∷ us)) (Trees.product t u)

  -- a sum is a term, or a sum, + or - and a term: it groups from the left
  pub data IsSum : List Kind → Tree → Type 0 where
    one_term : (ts : List Kind) (t : Tree) → IsTerm ts t → IsSum ts t
    added : (ts us : List Kind) (t u : Tree) → IsSum ts t → IsTerm us u → IsSum (ts ++ (plus ∷ us)) (Trees.sum t u)
    subtracted : (ts us : List Kind) (t u : Tree) → IsSum ts t → IsTerm us u → IsSum (ts ++ (minus ∷ us)) (Trees.difference t u)

-- an equation is a capital, =, a sum and ;
pub data IsEquation : List Kind → Equation → Type 0 where
  equation : (a : ℕ) (ts : List Kind) (t : Tree) → IsSum ts t → IsEquation (capital a ∷ equals ∷ (ts ++ (semicolon ∷ []))) (record { left = a; right = t })

-- any number of equations, one after another
pub data AreEquations : List Kind → System → Type 0 where
  no_more : AreEquations [] []
  one_more : (ts us : List Kind) (e : Equation) (S : System) → IsEquation ts e → AreEquations us S → AreEquations (ts ++ us) (e ∷ S)

-- a system is one or more equations
pub data IsSystem : List Kind → System → Type 0 where
  one_or_more : (ts us : List Kind) (e : Equation) (S : System) → IsEquation ts e → AreEquations us S → IsSystem (ts ++ us) (e ∷ S)

-- the tokens can be continued to a system
abbrev pub Viable : List Kind → Type 0
Viable ts = (more : List Kind) × (S : System) × IsSystem (ts ++ more) S
