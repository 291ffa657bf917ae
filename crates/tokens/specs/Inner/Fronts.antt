-- What a text begins with, as the inner parts of the lexer find it. No public contract cites this file.
use Rattle.std.specs.Prelude.{ℕ, cond, List, [], ◌∷◌}
use Rattle.tokens.specs.Kinds.{separator}

-- the text without the separators that it begins with
abbrev pub past_separators : List ℕ → List ℕ
past_separators [] = []
past_separators (b ∷ bs) = cond (separator b) (past_separators bs) (b ∷ bs)
