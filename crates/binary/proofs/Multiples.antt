-- To differ by a multiple of f: what sums, products and doubling keep of it.
use Rattle.std.proofs.Common.{◌≡◌, ℕ, ◌*◌, sym, ap, ◌∙◌, ap₂}
use Rattle.std.specs.Int.Bits.{bit_xor, xor_assoc, xor_self, xor_zero_r}
use Rattle.binary.specs.Codes.{times}
use Rattle.binary.proofs.Times.{xor_double, interchange, times_zero, times_xor_l, times_double_l, times_comm, times_assoc}

-- a and b differ by a multiple of f
abbrev pub Same : ℕ → ℕ → ℕ → Type 0
Same f a b = (k : ℕ) × (a ≡ bit_xor (times k f) b)

pub cancel : (k b : ℕ) → bit_xor k (bit_xor k b) ≡ b
cancel k b = sym (xor_assoc k k b) ∙ ap (λ (x : ℕ). bit_xor x b) (xor_self k)

-- a = m + r says that a and r differ by m
pub less : (a m r : ℕ) → a ≡ bit_xor m r → bit_xor a r ≡ m
less a m r e = ap (λ (x : ℕ). bit_xor x r) e ∙ xor_assoc m r r ∙ ap (bit_xor m) (xor_self r) ∙ xor_zero_r m

pub same_eq : (f : ℕ) {a b : ℕ} → a ≡ b → Same f a b
same_eq f {a} {b} e = (0, e ∙ sym (ap (λ (x : ℕ). bit_xor x b) (times_zero f)))

pub same_sym : (f a b : ℕ) → Same f a b → Same f b a
same_sym f a b (k, e) = (k, sym (ap (bit_xor (times k f)) e ∙ cancel (times k f) b))

pub same_trans : (f a b c : ℕ) → Same f a b → Same f b c → Same f a c
same_trans f a b c (k, p) (l, q) = (
  bit_xor k l,
  p ∙ ap (bit_xor (times k f)) q ∙ sym (xor_assoc (times k f) (times l f) c) ∙ ap (λ (x : ℕ). bit_xor x c) (sym (times_xor_l k l f)),
)

pub same_xor : (f a a' b b' : ℕ) → Same f a a' → Same f b b' → Same f (bit_xor a b) (bit_xor a' b')
same_xor f a a' b b' (k, p) (l, q) = (
  bit_xor k l,
  ap₂ bit_xor p q ∙ interchange (times k f) a' (times l f) b' ∙ ap (λ (x : ℕ). bit_xor x (bit_xor a' b')) (sym (times_xor_l k l f)),
)

pub same_times_l : (f a a' c : ℕ) → Same f a a' → Same f (times a c) (times a' c)
same_times_l f a a' c (k, p) = (
  times k c,
  ap (λ (x : ℕ). times x c) p ∙ times_xor_l (times k f) a' c
      ∙ ap (λ (x : ℕ). bit_xor x (times a' c)) (times_assoc k f c ∙ ap (times k) (times_comm f c) ∙ sym (times_assoc k c f)),
)

pub same_times_r : (f c a a' : ℕ) → Same f a a' → Same f (times c a) (times c a')
same_times_r f c a a' h =
    let back : Same f (times a c) (times a' c) = same_times_l f a a' c h in
    (back.0, times_comm c a ∙ back.1 ∙ ap (bit_xor (times back.0 f)) (times_comm a' c))

pub same_double : (f a b : ℕ) → Same f a b → Same f (a * 2) (b * 2)
same_double f a b (k, p) = (
  k * 2,
  ap (λ (x : ℕ). x * 2) p ∙ xor_double (times k f) b ∙ ap (λ (x : ℕ). bit_xor x (b * 2)) (sym (times_double_l k f)),
)
