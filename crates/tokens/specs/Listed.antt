-- The tokens that are left to an iterator.
use Rattle.std.specs.Prelude.{ℕ, List}
use Rattle.tokens.specs.declared.iter.Tokens.{Tokens as Going}
use Rattle.tokens.specs.declared.token.Token.{Token as Lent}
use Rattle.tokens.specs.Lexing.{seen}
use Rattle.tokens.specs.Tokens.{Token, token}

-- a token and its place, as the iterator gives them
abbrev pub placed : ℕ × Lent → Token
placed item = token (seen item.1) item.0

-- the tokens that it has left to give: the one list of those of the part of the text behind the tokens that it gave
unfoldable pub left_to_give : Going → List Token
left_to_give it = it.ahead.0.0
