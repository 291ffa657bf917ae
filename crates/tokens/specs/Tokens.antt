-- The tokens of a text, each with its place.
use Rattle.std.specs.Prelude.{◌≡◌, ℕ, ◌+◌, ◌<◌, Bool, true, false, List, [], ◌∷◌, ◌++◌, length}
use std.Equiv.{IsContr}
use std.HLevel.{IsContr-prop}
use Rattle.tokens.specs.Kinds.{Kind, number, digit, separator, single}

-- a part of a text, with the number of bytes before it
pub record Token : Type 0 where
  pub kind : Kind
  pub place : ℕ

-- a token of this kind at this place
abbrev pub token : Kind → ℕ → Token
token k p = record { kind = k; place = p }

-- every byte passes the test
abbrev pub Every : (ℕ → Bool) → List ℕ → Type 0
Every test [] = Unit {0}
Every test (b ∷ bs) = (test b ≡ true) × Every test bs

-- the text begins with a digit
abbrev pub starts_digit : List ℕ → Bool
starts_digit [] = false
starts_digit (b ∷ bs) = digit b

-- the bytes `word`, with `rest` behind them, are a token of this kind: a longest run of digits, or a byte by itself
pub data Spells : Kind → List ℕ → List ℕ → Type 0 where
  run : (ds rest : List ℕ) → 0 < length ds → Every digit ds → starts_digit rest ≡ false → Spells (number ds) ds rest
  alone : (b : ℕ) (rest : List ℕ) → separator b ≡ false → digit b ≡ false → Spells (single b) (b ∷ []) rest

-- the tokens of a part of a text that has p bytes before it: separators and the end, or separators, a token, and the tokens of the rest
pub data Tokens : ℕ → List ℕ → List Token → Type 0 where
  ends : (p : ℕ) (gap : List ℕ) → Every separator gap → Tokens p gap []
  goes_on : (p : ℕ) (gap word rest : List ℕ) (k : Kind) (ts : List Token) → Every separator gap → Spells k word rest
      → Tokens (p + (length gap + length word)) rest ts → Tokens p (gap ++ (word ++ rest)) (token k (p + length gap) ∷ ts)

-- there is one and only one list of the tokens of such a part
abbrev pub HasOneList : ℕ → List ℕ → Type 0
HasOneList p bs = IsContr ((ts : List Token) × ∥ Tokens p bs ts ∥₁)

pub HasOneList-prop : (p : ℕ) (bs : List ℕ) → IsProp (HasOneList p bs)
HasOneList-prop p bs = IsContr-prop

-- every text has one and only one list of tokens
pub record OneList : Type 0 where
  pub exists : (p : ℕ) (bs : List ℕ) → (ts : List Token) × Tokens p bs ts
  pub only : (p : ℕ) (bs : List ℕ) (ts us : List Token) → Tokens p bs ts → Tokens p bs us → ts ≡ us
