-- Which texts are accepted, which fault decides of any other, and what examining a text answers.
use Rattle.std.specs.Prelude.{◌≡◌, ℕ, ◌<◌, ◌≤◌, count_by, List, length, Ok, Err, Result, ◌==◌}
use Rattle.systems.specs.Trees.{System}
use Rattle.tokens.specs.Tokens.{Token, Tokens}
use Rattle.reader.specs.declared.fault.Rule.{Rule}
use Rattle.reader.specs.declared.fault.Rule.TheVariants.{TooLong, NotAllowed, NoEquation}
use Rattle.reader.specs.declared.fault.TextFault.{TextFault}
use Rattle.reader.specs.Grammar.{IsSystem}
use Rattle.reader.specs.Nodes.{nodes}
use Rattle.reader.specs.Rules.{kinds, Clean, First, Known, FirstUnknown}

-- the text is accepted, and S is its system
pub record Accepts (bs : List ℕ) (S : System) : Type 0 where
  pub short : length bs ≤ 4096
  pub tokens : List Token
  pub listed : Tokens 0 bs tokens
  pub clean : Clean tokens
  pub system : IsSystem (kinds tokens) S
  pub known : Known S tokens

-- a rule broken at a place
abbrev pub fault : Rule → ℕ → TextFault
fault k p = record { rule = k; place = p }

-- the fault that decides of the text
pub data Faulty (bs : List ℕ) : TextFault → Type 0 where
  -- more than 4,096 bytes, before all else
  of_bytes : 4096 < length bs → Faulty bs (fault TooLong 4096)
  -- the token of lowest place that breaks a rule, and the lowest number there
  of_token : length bs ≤ 4096 → (ts : List Token) → Tokens 0 bs ts → (k : Rule) (p : ℕ) → First ts k p → Faulty bs (fault k p)
  -- the end of the text, where no token breaks a rule and the tokens are no system
  of_end : length bs ≤ 4096 → (ts : List Token) → Tokens 0 bs ts → Clean ts → ((S : System) → ¬ (IsSystem (kinds ts) S)) → Faulty bs (fault NotAllowed (length bs))
  -- last, the first capital without an equation
  of_name : length bs ≤ 4096 → (ts : List Token) → Tokens 0 bs ts → Clean ts → (S : System) → IsSystem (kinds ts) S → (p : ℕ) → FirstUnknown S ts p
      → Faulty bs (fault NoEquation p)

-- the product signs of a text: its bytes *
abbrev pub product_signs : List ℕ → ℕ
product_signs bs = count_by (λ b. b == 42) bs

-- the number of nodes and of product signs where the text is accepted, and else the fault that decides
abbrev pub Examined : List ℕ → Result (ℕ × ℕ) TextFault → Type 0
Examined bs (Ok counts) = (S : System) × Accepts bs S × (counts ≡ (nodes S, product_signs bs))
Examined bs (Err f) = Faulty bs f
