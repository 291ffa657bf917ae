-- The kinds of tokens, and the bytes that they are written with.
use Rattle.std.specs.Prelude.{ℕ, Bool, cond, ◌&&◌, ◌||◌, List, ◌==◌, nat_le}
use Rattle.tokens.specs.declared.token.Group.{Group}
use Rattle.tokens.specs.declared.token.Group.TheVariants.{Round, Square}

-- a number has its digits, a letter its byte; a stray byte is one that begins no token
pub data Kind : Type 0 where
  number : List ℕ → Kind
  capital : ℕ → Kind
  small : ℕ → Kind
  equals : Kind
  semicolon : Kind
  plus : Kind
  minus : Kind
  star : Kind
  opens : Group → Kind
  closes : Group → Kind
  stray : ℕ → Kind

-- 0 to 9
abbrev pub digit : ℕ → Bool
digit b = nat_le 48 b && nat_le b 57

-- space and line feed
abbrev pub separator : ℕ → Bool
separator b = b == 32 || b == 10

-- A to Z
abbrev pub upper : ℕ → Bool
upper b = nat_le 65 b && nat_le b 90

-- a to z
abbrev pub lower : ℕ → Bool
lower b = nat_le 97 b && nat_le b 122

-- what a byte by itself is, where it is neither a digit nor a separator: one of = ; + - * ( ) [ ], a letter, or a stray byte
abbrev pub single : ℕ → Kind
single b =
    cond (b == 61) equals (cond (b == 59) semicolon (cond (b == 43) plus (cond (b == 45) minus (cond (b == 42) star
    (cond (b == 40) (opens Round) (cond (b == 41) (closes Round) (cond (b == 91) (opens Square) (cond (b == 93) (closes Square)
    (cond (upper b) (capital b) (cond (lower b) (small b) (stray b)))))))))))
