-- Binary polynomials modulo f. What products and remainders are is said by the crate of binary polynomials.
use Rattle.std.specs.Prelude.{◌≡◌, ℕ, ◌^◌, ◌≤◌, Ok, Err, Result}
use Rattle.std.specs.Int.Bits.{bit_xor}
use Rattle.binary.specs.Words.{HasDegree}
unfoldable pub use Rattle.binary.specs.Codes.{product as product_modulo}
use Rattle.rings.specs.declared.fault.RingFault.{RingFault}
use Rattle.rings.specs.Faults.{at_depth}
use Rattle.rings.specs.declared.fault.RingRule.TheVariants.{Polynomial}
use Rattle.rings.specs.Model.{RingModel, in_order}

-- the polynomials of degree below d: the sum is the exclusive or, each is its own opposite, and the product is the remainder
-- modulo f, which has degree d
unfoldable pub polynomials : ℕ → ℕ → RingModel
polynomials f d = record {
  order = in_order;
  size = 2 ^ d;
  one = 1;
  add = bit_xor;
  neg = λ x. x;
  mul = product_modulo f d;
}

-- f has the degree d, and there are polynomial rings for that degree
abbrev pub IsDivisor : ℕ → ℕ → Type 0
IsDivisor f d = (1 ≤ d) × (d ≤ 31) × HasDegree f d

-- what making a polynomial ring answers: the polynomials modulo f, or fault 2 with depth 0 for another f
abbrev pub MakesPolynomials : ℕ → Result RingModel RingFault → Type 0
MakesPolynomials f (Ok ring) = (d : ℕ) × IsDivisor f d × (ring ≡ polynomials f d)
MakesPolynomials f (Err fault) = ((d : ℕ) → ¬ (IsDivisor f d)) × (fault ≡ at_depth Polynomial 0)
