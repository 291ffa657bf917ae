-- The grammar as derivations: how a text is made of its parts, with the tokens and the trees of each.
use Rattle.std.proofs.Common.{◌≡◌, ℕ, ◌+◌, Bool, false, ◌||◌, eqb, List, [], ◌∷◌, ◌++◌}
use Rattle.systems.specs.Trees as Trees
use Rattle.systems.specs.Trees.{Tree, Equation, System}
use Rattle.tokens.specs.declared.token.Group.{Group}
use Rattle.tokens.specs.declared.token.Group.TheVariants.{Round, Square}
use Rattle.tokens.specs.Kinds.{Kind, number, capital, small, equals, semicolon, plus, minus, star, opens, closes}
use Rattle.reader.specs.Grammar.{decimal}
use Rattle.reader.specs.Sorts.{count, is_semicolon, is_node}

mutual
  pub data Factor : Type 0 where
    f_number : List ℕ → Factor
    f_capital : ℕ → Factor
    f_small : ℕ → Factor
    f_group : Group → Sum → Factor

  pub data Term : Type 0 where
    t_one : Factor → Term
    t_times : Term → Factor → Term

  pub data Sum : Type 0 where
    s_one : Term → Sum
    s_plus : Sum → Term → Sum
    s_minus : Sum → Term → Sum

-- an equation
pub record Line : Type 0 where
  pub left : ℕ
  pub right : Sum

-- ---- the tokens

abbrev mutual
  pub factor_tokens : Factor → List Kind
  factor_tokens (f_number ds) = number ds ∷ []
  factor_tokens (f_capital a) = capital a ∷ []
  factor_tokens (f_small x) = small x ∷ []
  factor_tokens (f_group g s) = opens g ∷ (sum_tokens s ++ (closes g ∷ []))

  pub term_tokens : Term → List Kind
  term_tokens (t_one f) = factor_tokens f
  term_tokens (t_times t f) = term_tokens t ++ (star ∷ factor_tokens f)

  pub sum_tokens : Sum → List Kind
  sum_tokens (s_one t) = term_tokens t
  sum_tokens (s_plus s t) = sum_tokens s ++ (plus ∷ term_tokens t)
  sum_tokens (s_minus s t) = sum_tokens s ++ (minus ∷ term_tokens t)

abbrev pub line_tokens : Line → List Kind
line_tokens q = capital q.left ∷ equals ∷ (sum_tokens q.right ++ (semicolon ∷ []))

abbrev pub tokens_of : List Line → List Kind
tokens_of [] = []
tokens_of (q ∷ qs) = line_tokens q ++ tokens_of qs

-- ---- the trees

-- a round group leaves no trace
abbrev pub grouped : Group → Tree → Tree
grouped Round t = t
grouped Square t = Trees.bracket t

abbrev mutual
  pub factor_tree : Factor → Tree
  factor_tree (f_number ds) = Trees.number (decimal ds)
  factor_tree (f_capital a) = Trees.unknown a
  factor_tree (f_small x) = Trees.input x
  factor_tree (f_group g s) = grouped g (sum_tree s)

  pub term_tree : Term → Tree
  term_tree (t_one f) = factor_tree f
  term_tree (t_times t f) = Trees.product (term_tree t) (factor_tree f)

  pub sum_tree : Sum → Tree
  sum_tree (s_one t) = term_tree t
  sum_tree (s_plus s t) = Trees.sum (sum_tree s) (term_tree t)
  sum_tree (s_minus s t) = Trees.difference (sum_tree s) (term_tree t)

abbrev pub line_equation : Line → Equation
line_equation q = record { left = q.left; right = sum_tree q.right }

abbrev pub system_of : List Line → System
system_of [] = []
system_of (q ∷ qs) = line_equation q ∷ system_of qs

-- ---- what the rules ask of whole lines and of the part of a right side

abbrev pub has : List Line → ℕ → Bool
has [] a = false
has (q ∷ qs) a = eqb q.left a || has qs a

abbrev pub nodes_of : List Line → ℕ
nodes_of [] = 0
nodes_of (q ∷ qs) = count is_node (sum_tokens q.right) + nodes_of qs

-- the tokens are those of whole lines, a left capital, = and the part of a right side
pub record Side (before : List Kind) : Type 0 where
  pub whole : List Line
  pub left : ℕ
  pub right : List Kind
  pub split : before ≡ tokens_of whole ++ (capital left ∷ equals ∷ right)
  pub unended : count is_semicolon right ≡ 0
