-- The lexer's answer, as the first token of a text.
use Rattle.std.specs.Prelude.{◌≡◌, ℕ, List, ◌++◌, length, Some, None, Option}
use Rattle.tokens.specs.declared.token.Token.{Token as Lent}
use Rattle.tokens.specs.declared.token.Token.TheVariants as lent
use Rattle.tokens.specs.declared.lexer.Lexed.{Lexed}
use Rattle.tokens.specs.Kinds.{Kind, number, capital, small, equals, semicolon, plus, minus, star, opens, closes, stray, separator}
use Rattle.tokens.specs.Tokens.{Every, Spells}

-- the kind of a token that borrows from the text
abbrev pub seen : Lent → Kind
seen (lent.Number ds) = number ds.now
seen (lent.Capital c) = capital c
seen (lent.Small c) = small c
seen lent.Equals = equals
seen lent.Semicolon = semicolon
seen lent.Plus = plus
seen lent.Minus = minus
seen lent.Star = star
seen (lent.Open g) = opens g
seen (lent.Close g) = closes g
seen (lent.Stray b) = stray b

-- the text is separators, the token, and what follows it
pub record Front (bs : List ℕ) (l : Lexed) : Type 0 where
  pub gap : List ℕ
  pub word : List ℕ
  pub split : bs ≡ gap ++ (word ++ l.rest.now)
  pub separators : Every separator gap
  pub spelled : Spells (seen l.token) word l.rest.now
  pub left : l.left ≡ length (word ++ l.rest.now)

-- the first token of a text; none where the text is separators only
abbrev pub Lexes : List ℕ → Option Lexed → Type 0
Lexes bs None = Every separator bs
Lexes bs (Some l) = Front bs l
