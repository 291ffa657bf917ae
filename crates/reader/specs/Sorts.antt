-- Sorts of tokens, and how many tokens of a sort there are.
use Rattle.std.specs.Prelude.{ℕ, ◌+◌, Bool, true, false, cond, List, [], ◌∷◌}
use Rattle.tokens.specs.declared.token.Group.{Group}
use Rattle.tokens.specs.declared.token.Group.TheVariants.{Round, Square}
use Rattle.tokens.specs.Kinds.{Kind, number, capital, small, semicolon, plus, minus, star, opens, closes, stray}

abbrev pub is_square : Group → Bool
is_square Round = false
is_square Square = true

abbrev pub is_semicolon : Kind → Bool
is_semicolon = elim [ semicolon ↦ true | _ ↦ false ]

abbrev pub is_opening : Kind → Bool
is_opening = elim [ opens g ↦ true | _ ↦ false ]

abbrev pub is_closing : Kind → Bool
is_closing = elim [ closes g ↦ true | _ ↦ false ]

abbrev pub opens_square : Kind → Bool
opens_square = elim [ opens g ↦ is_square g | _ ↦ false ]

abbrev pub closes_square : Kind → Bool
closes_square = elim [ closes g ↦ is_square g | _ ↦ false ]

abbrev pub is_star : Kind → Bool
is_star = elim [ star ↦ true | _ ↦ false ]

abbrev pub is_stray : Kind → Bool
is_stray = elim [ stray b ↦ true | _ ↦ false ]

-- a token of a right side that is a node: a number, a letter, + - * and [
abbrev pub is_node : Kind → Bool
is_node = elim [ number ds ↦ true | capital a ↦ true | small x ↦ true | plus ↦ true | minus ↦ true | star ↦ true | opens g ↦ is_square g | _ ↦ false ]

-- the digits of a number; none of any other token
abbrev pub digits_of : Kind → List ℕ
digits_of = elim [ number ds ↦ ds | _ ↦ [] ]

-- how many tokens pass the test
abbrev pub count : (Kind → Bool) → List Kind → ℕ
count test [] = 0
count test (t ∷ ts) = cond (test t) 1 0 + count test ts
