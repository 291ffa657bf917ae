-- The product and the remainder that are worked out are those in words.
use Rattle.std.proofs.Common.{◌≡◌, ℕ, sym, ◌∙◌, subst}
use Rattle.std.specs.Int.Bits.{bit_xor}
use Rattle.binary.specs.Words.{IsProduct, HasDegree, IsRemainder}
use Rattle.binary.specs.Codes.{times, remainder, product}
use Rattle.binary.specs.Agreement.{OneRemainder, OneProductModulo, Agrees}
use Rattle.binary.proofs.Multiples.{Same, less}
use Rattle.binary.proofs.Remainder.{remainder_is, remainder_only}
use Rattle.binary.proofs.Coefficients.{convolves, same_coefficients}

product_only : (a b c : ℕ) → IsProduct a b c → c ≡ times a b
product_only a b c h = same_coefficients c (times a b) (λ n. h n ∙ sym (convolves a b n))

back : (a m r : ℕ) → bit_xor a r ≡ m → a ≡ bit_xor m r
back a m r e = sym (less m a r (sym e))

module _ (f d : ℕ) (leads : HasDegree f d) where
  to_words : (a r : ℕ) → Same f a r → (k : ℕ) × IsProduct k f (bit_xor a r)
  to_words a r (k, e) = (k, subst (IsProduct k f) (sym (less a (times k f) r e)) (convolves k f))

  of_words : (a r : ℕ) → (k : ℕ) × IsProduct k f (bit_xor a r) → Same f a r
  of_words a r (k, h) = (k, back a (times k f) r (product_only k f (bit_xor a r) h))

  one_remainder : (a : ℕ) → OneRemainder f d a
  one_remainder a = record {
    is = record { below = (remainder_is f d leads a).0; multiple = to_words a (remainder f d a) (remainder_is f d leads a).1 };
    only = λ r h. remainder_only f d leads a r h.below (of_words a r h.multiple);
  }

  one_product_modulo : (a b : ℕ) → OneProductModulo f d a b
  unfolding product
  one_product_modulo a b = record {
    is = (times a b, convolves a b, (one_remainder (times a b)).is);
    only = λ r h.
        (one_remainder (times a b)).only r (subst (λ (c : ℕ). IsRemainder f d c r) (product_only a b h.0 h.1) h.2);
  }

  pub agrees : Agrees f d
  agrees = record {
    products = λ a b. record { is = convolves a b; only = product_only a b };
    remainders = one_remainder;
    products_modulo = one_product_modulo;
  }
