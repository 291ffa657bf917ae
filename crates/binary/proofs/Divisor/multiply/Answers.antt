use Rattle.std.proofs.Common.{◌≡◌, ℕ, ◌*◌, ◌/◌, ◌%◌, ◌^◌, ◌<◌, ltb, sym, refl, ap, ◌∙◌, subst, ap₂, mod-lt, one-mul, zero-mul, arith, lit<, pow_pos}
use Rattle.std.specs.Int.Bits.{bit_xor, xor_zero_r, xor_lt}
use Rattle.binary.specs.Words.{operand}
use Rattle.binary.specs.Codes.{times}
use Rattle.binary.proofs.Clips.{cut_below}
use Rattle.binary.proofs.Times.{times_zero}
use Rattle.binary.proofs.Multiples.{Same, same_eq}
use Rattle.binary.proofs.Remainder.{turn, reduce_is, product_only, bit_below}
use Rattle.binary.proofs.Agreement.{agrees}
use Rattle.binary.proofs.Divisor.multiply.Goals as goal
use Rattle.binary.proofs.Divisor.multiply.Goals.{then-left-eq1, else-left-eq1}

operand_below : (d x : ℕ) → operand d x < 2 ^ d
operand_below d x = cut_below (2 ^ d) x (ltb x (2 ^ d)) refl (pow_pos d)

pub loop-left-init : goal.loop-left-init
loop-left-init c =
    let d = c.args.self.now.degree in (
      pow_pos d,
      rw c.clipped-power.ensures (operand_below d c.args.b),
      same_eq c.args.self.now.f (ap₂ times (sym c.clipped-left.ensures) (sym c.clipped-power.ensures)),
    )

-- either way the sum is what the lowest bit says
taken : (c : goal.After-raised-power) → c.if-left-eq1.sum ≡ bit_xor c.loop-left.sum (c.loop-left.left % 2 * c.loop-left.power)
taken c =
    elim c.if-left-eq1.branch [
      | then-left-eq1 w ↦
          w.sum-is ∙ sym (ap (bit_xor c.loop-left.sum) (ap (λ (x : ℕ). x * c.loop-left.power) w.if-left-eq1.true ∙ one-mul c.loop-left.power))
      | else-left-eq1 w ↦
          w.sum-is
          ∙ sym
          (ap (bit_xor c.loop-left.sum) (ap (λ (x : ℕ). x * c.loop-left.power) (omega (arith, w.if-left-eq1.false)) ∙ zero-mul c.loop-left.power)
          ∙ xor_zero_r c.loop-left.sum)
    ]

pub loop-left-preserved : goal.loop-left-preserved
loop-left-preserved c = (
  subst (λ (x : ℕ). x < 2 ^ d) (sym (taken c)) (xor_lt d s (bit * p) c.loop-left.invariant.0 (bit_below bit p (2 ^ d) (mod-lt c.loop-left.left (lit< tt)) c.loop-left.invariant.1)),
  subst (λ (x : ℕ). x < 2 ^ d) (sym c.raised-power.ensures) (reduce_is f d (p * 2) c.args.self.now.leads (omega arith)).0,
  subst (Same f whole) (ap₂ (λ (x y : ℕ). bit_xor x (times (c.loop-left.left / 2) y)) (sym (taken c)) (sym c.raised-power.ensures))
      (turn f d c.args.self.now.leads whole s c.loop-left.left p c.loop-left.invariant.1 c.loop-left.invariant.2),
)
  where
    f : ℕ
    f = c.args.self.now.f

    d : ℕ
    d = c.args.self.now.degree

    s : ℕ
    s = c.loop-left.sum

    p : ℕ
    p = c.loop-left.power

    bit : ℕ
    bit = c.loop-left.left % 2

    whole : ℕ
    whole = times (operand d c.args.a) (operand d c.args.b)

pub returns : goal.returns
returns c =
    let v = c.args.self.now in
    let a = operand v.degree c.args.a in
    let b = operand v.degree c.args.b in
    record {
      value =
          product_only v.f v.degree v.leads a b c.loop-left.sum c.loop-left.invariant.0
          (subst (Same v.f (times a b)) none c.loop-left.invariant.2);
      agrees = agrees v.f v.degree v.leads;
    }
  where
    gone : c.loop-left.left ≡ 0
    gone = omega arith

    none : bit_xor c.loop-left.sum (times c.loop-left.left c.loop-left.power) ≡ c.loop-left.sum
    none =
        ap (bit_xor c.loop-left.sum) (ap (λ (x : ℕ). times x c.loop-left.power) gone ∙ times_zero c.loop-left.power)
        ∙ xor_zero_r c.loop-left.sum
