-- The numbers that are worked out are those in words, and there are no others.
use Rattle.std.specs.Prelude.{◌≡◌, ℕ}
use Rattle.binary.specs.Words.{IsProduct, IsRemainder, IsProductModulo}
use Rattle.binary.specs.Codes.{times, remainder, product}

-- `times a b` is the one product of a and b
pub record OneProduct (a b : ℕ) : Type 0 where
  pub is : IsProduct a b (times a b)
  pub only : (c : ℕ) → IsProduct a b c → c ≡ times a b

-- `remainder f d a` is the one remainder of a modulo f of degree d
pub record OneRemainder (f d a : ℕ) : Type 0 where
  pub is : IsRemainder f d a (remainder f d a)
  pub only : (r : ℕ) → IsRemainder f d a r → r ≡ remainder f d a

-- `product f d a b` is the one product of a and b modulo f of degree d
pub record OneProductModulo (f d a b : ℕ) : Type 0 where
  pub is : IsProductModulo f d a b (product f d a b)
  pub only : (r : ℕ) → IsProductModulo f d a b r → r ≡ product f d a b

pub record Agrees (f d : ℕ) : Type 0 where
  pub products : (a b : ℕ) → OneProduct a b
  pub remainders : (a : ℕ) → OneRemainder f d a
  pub products_modulo : (a b : ℕ) → OneProductModulo f d a b
