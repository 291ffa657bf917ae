-- The rules that the tokens of a text keep, each as a property of a token in its place, and the token that decides.
use Rattle.std.specs.Prelude.{◌≡◌, ℕ, ◌+◌, ◌-◌, ◌<◌, ◌≤◌, T, List, [], ◌∷◌, ◌++◌, map, length}
use Rattle.systems.specs.Trees.{System, UnknownOf}
use Rattle.tokens.specs.Kinds.{Kind, capital, equals}
use Rattle.tokens.specs.Tokens.{Token}
use Rattle.reader.specs.declared.fault.Rule.{Rule}
use Rattle.reader.specs.declared.fault.Rule.TheVariants.{TooLong, NoToken, LongNumber, NotAllowed, TooDeep, Repeated, TooEarly, NoEquation, TooManyNodes}
use Rattle.reader.specs.Sorts.{count, is_semicolon, is_opening, is_closing, opens_square, closes_square, is_stray, is_node, digits_of}
use Rattle.reader.specs.Grammar.{AreEquations, Viable}
use Rattle.reader.specs.Nodes.{nodes}

-- the number of the refusal where a rule is broken
abbrev pub number_of : Rule → ℕ
number_of TooLong = 10
number_of NoToken = 11
number_of LongNumber = 12
number_of NotAllowed = 13
number_of TooDeep = 14
number_of Repeated = 15
number_of TooEarly = 16
number_of NoEquation = 17
number_of TooManyNodes = 18

-- the groups, round and square, that the end of a part of a right side lies in
abbrev pub groups : List Kind → ℕ
groups part = count is_opening part - count is_closing part

-- the square ones among them
abbrev pub brackets : List Kind → ℕ
brackets part = count opens_square part - count closes_square part

-- the tokens are whole equations, then a left capital and =, then a part of a right side
pub record Within (before : List Kind) : Type 0 where
  pub whole : System
  pub written : List Kind
  pub left : ℕ
  pub part : List Kind
  pub equations : AreEquations written whole
  pub split : before ≡ written ++ (capital left ∷ equals ∷ part)
  pub unended : count is_semicolon part ≡ 0

-- the token t, with these tokens before it, breaks a rule
abbrev pub Breaks : Rule → List Kind → Kind → Type 0
-- 11: it is a byte that begins no token
Breaks NoToken before t = T (is_stray t)
-- 12: it is a number of more than 9 digits
Breaks LongNumber before t = 9 < length (digits_of t)
-- 13: the grammar does not allow it there: with it, the tokens cannot be continued to a system
Breaks NotAllowed before t = ¬ Viable (before ++ (t ∷ []))
-- 14: it is an opening sign, round or square, that already lies in 16 groups
Breaks TooDeep before t = T (is_opening t) × ((w : Within before) × (16 ≤ groups w.part))
-- 15: it is a left capital that already has an equation
Breaks Repeated before t = (a : ℕ) × (t ≡ capital a) × ((S : System) × AreEquations before S × UnknownOf a S)
-- 16: it is a capital on a right side outside all square brackets, and its equation does not stand wholly before this one
Breaks TooEarly before t = (a : ℕ) × (t ≡ capital a) × ((w : Within before) × (brackets w.part ≡ 0) × ¬ (UnknownOf a w.whole))
-- 18: it is the token of the sixty-fifth node
Breaks TooManyNodes before t = T (is_node t) × ((w : Within before) × (nodes w.whole + count is_node w.part ≡ 64))
-- the limit of bytes and the missing equation are no matter of one token in its place
Breaks TooLong before t = ⊥
Breaks NoEquation before t = ⊥

-- the tokens without their places
abbrev pub kinds : List Token → List Kind
kinds ts = map (λ (t : Token). t.kind) ts

-- no token breaks a rule
abbrev pub Clean : List Token → Type 0
Clean ts = (before : List Token) (t : Token) (after : List Token) → ts ≡ before ++ (t ∷ after) → (k : Rule) → Breaks k (kinds before) t.kind → ⊥

-- the token at this place breaks the rule, no token before it breaks any, and it breaks none of a lower number
pub record First (ts : List Token) (k : Rule) (place : ℕ) : Type 0 where
  pub before : List Token
  pub at : Token
  pub after : List Token
  pub split : ts ≡ before ++ (at ∷ after)
  pub clean : Clean before
  pub breaks : Breaks k (kinds before) at.kind
  pub lowest : (j : Rule) → Breaks j (kinds before) at.kind → number_of k ≤ number_of j
  pub placed : place ≡ at.place

-- every capital among the tokens has an equation
abbrev pub Known : System → List Token → Type 0
Known S ts = (before : List Token) (t : Token) (after : List Token) → ts ≡ before ++ (t ∷ after) → (a : ℕ) → t.kind ≡ capital a → UnknownOf a S

-- the capital at this place has no equation, and each before it has one
pub record FirstUnknown (S : System) (ts : List Token) (place : ℕ) : Type 0 where
  pub before : List Token
  pub at : Token
  pub after : List Token
  pub split : ts ≡ before ++ (at ∷ after)
  pub known : Known S before
  pub name : ℕ
  pub capital_at : at.kind ≡ capital name
  pub without : ¬ (UnknownOf name S)
  pub placed : place ≡ at.place
