-- What a byte by itself can be.
use Rattle.std.proofs.Common.{◌≡◌, ℕ, Bool, true, false, cond, eqb, refl}
use Rattle.tokens.specs.declared.token.Group.TheVariants.{Round, Square}
use Rattle.tokens.specs.Kinds.{Kind, capital, small, equals, semicolon, plus, minus, star, opens, closes, stray, upper, lower, single}

pick : (P : Kind → Type 0) (x : Bool) (k r : Kind) → (x ≡ true → P k) → (x ≡ false → P r) → P (cond x k r)
pick P true k r here there = here refl
pick P false k r here there = there refl

-- a property of every kind that is no number, with what the byte then is
pub record OfSingles (P : Kind → Type 0) (b : ℕ) : Type 0 where
  pub of_equals : eqb b 61 ≡ true → P equals
  pub of_semicolon : eqb b 59 ≡ true → P semicolon
  pub of_plus : eqb b 43 ≡ true → P plus
  pub of_minus : eqb b 45 ≡ true → P minus
  pub of_star : eqb b 42 ≡ true → P star
  pub of_opening : eqb b 40 ≡ true → P (opens Round)
  pub of_closing : eqb b 41 ≡ true → P (closes Round)
  pub of_square_opening : eqb b 91 ≡ true → P (opens Square)
  pub of_square_closing : eqb b 93 ≡ true → P (closes Square)
  pub of_capital : upper b ≡ true → P (capital b)
  pub of_small : lower b ≡ true → P (small b)
  pub of_stray : eqb b 42 ≡ false → P (stray b)

pub of_single : (P : Kind → Type 0) (b : ℕ) → OfSingles P b → P (single b)
of_single P b h =
    pick P (eqb b 61) _ _ h.of_equals (λ _. pick P (eqb b 59) _ _ h.of_semicolon (λ _. pick P (eqb b 43) _ _ h.of_plus
    (λ _. pick P (eqb b 45) _ _ h.of_minus (λ _. pick P (eqb b 42) _ _ h.of_star (λ other. pick P (eqb b 40) _ _ h.of_opening
    (λ _. pick P (eqb b 41) _ _ h.of_closing (λ _. pick P (eqb b 91) _ _ h.of_square_opening (λ _. pick P (eqb b 93) _ _ h.of_square_closing
    (λ _. pick P (upper b) _ _ h.of_capital (λ _. pick P (lower b) _ _ h.of_small (λ _. h.of_stray other)))))))))))
