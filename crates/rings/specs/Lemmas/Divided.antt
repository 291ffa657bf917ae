-- The binary polynomials modulo f keep the laws.
use Rattle.std.specs.Prelude.{ℕ, ◌^◌, ◌≤◌, refl}
use Rattle.std.proofs.Common.{arith}
use Rattle.std.specs.Int.Bits.{xor_lt, xor_comm, xor_assoc, xor_self}
use Rattle.std.proofs.Math.Pow.{pow_pos, pow-lt, pow_mono}
use Rattle.binary.specs.Words.{HasDegree}
use Rattle.binary.proofs.Remainder.{product_is, product_comm, product_assoc, product_one, product_xor}
use Rattle.rings.specs.Model.{Laws}
use Rattle.rings.specs.Polynomials.{polynomials}

module _ (f d : ℕ) (least : 1 ≤ d) (most : d ≤ 31) (leads : HasDegree f d) where
  pub polynomials_laws : Laws (polynomials f d)
  unfolding polynomials
  polynomials_laws = record {
    size_from = pow_pos d;
    size_to = let p : 2 ^ d ≤ 2 ^ 31 = pow_mono most in omega arith;
    one_code = pow-lt least;
    add_code = λ x y h k. xor_lt d x y h k;
    neg_code = λ x h. h;
    mul_code = λ x y _ _. (product_is f d leads x y).0;
    add_assoc = λ x y z _ _ _. xor_assoc x y z;
    add_comm = λ x y _ _. xor_comm x y;
    zero_add = λ x _. refl;
    neg_add = λ x _. xor_self x;
    mul_assoc = λ x y z _ _ _. product_assoc f d leads x y z;
    mul_comm = λ x y _ _. product_comm f d x y;
    one_mul = λ x h. product_one f d leads x h;
    mul_add = λ x y z _ _ _. product_xor f d leads x y z;
  }
