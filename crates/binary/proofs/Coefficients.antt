-- The coefficients of `times` are the sums of products of coefficients, modulo 2.
use Rattle.std.proofs.Common.{◌≡◌, ℕ, zero, suc, ◌+◌, ◌-◌, ◌*◌, ◌/◌, ◌%◌, ◌^◌, ◌<◌, sym, refl, ap, ◌∙◌, ap₂, add-zero, mod-lt, one-mul, zero-mul, div-one, mul-div_cancel, one-add, arith, lit<, shr-shr}
use Rattle.std.proofs.Math.Path.{fun_ext}
use Rattle.std.proofs.Math.Nat.{mul-mod_left, suc-sub-suc, sub-zero, zero-div}
use Rattle.std.proofs.Math.Arith.{bin_ind}
use Rattle.std.specs.Int.Bits.{bit_xor, xor_shr, xor_mod}
use Rattle.binary.specs.Words.{coefficient, sum_to, IsProduct}
use Rattle.binary.specs.Codes.{times}
use Rattle.binary.proofs.Times.{not_bit, times_zero, times_step}

sum_zero : (n : ℕ) (g : ℕ → ℕ) → ((i : ℕ) → g i ≡ 0) → sum_to n g ≡ 0
unfolding sum_to
sum_zero zero g h = h 0
sum_zero (suc n) g h = ap₂ (λ (x y : ℕ). x + y) (h 0) (sum_zero n (λ i. g (suc i)) (λ i. h (suc i)))

-- ---- coefficients of a sum, of a multiple by one bit, and of a double

bits_add : (c e : ℕ) → c < 2 → e < 2 → bit_xor c e ≡ (c + e) % 2
bits_add zero zero hc he = refl
bits_add zero (suc zero) hc he = refl
bits_add zero (suc (suc e)) hc he = not_bit he
bits_add (suc zero) zero hc he = refl
bits_add (suc zero) (suc zero) hc he = refl
bits_add (suc zero) (suc (suc e)) hc he = not_bit he
bits_add (suc (suc c)) e hc he = not_bit hc

of_xor : (x y n : ℕ) → coefficient (bit_xor x y) n ≡ (coefficient x n + coefficient y n) % 2
of_xor x y n =
    ap (λ (z : ℕ). z % 2) (xor_shr x y n) ∙ xor_mod (x / 2 ^ n) (y / 2 ^ n) 1
    ∙ bits_add (coefficient x n) (coefficient y n) (mod-lt (x / 2 ^ n) (lit< tt)) (mod-lt (y / 2 ^ n) (lit< tt))

of_zero : (n : ℕ) → coefficient 0 n ≡ 0
of_zero n = ap (λ (z : ℕ). z % 2) (zero-div (2 ^ n))

of_bit : (c b n : ℕ) → c < 2 → coefficient (c * b) n ≡ c * coefficient b n
of_bit zero b n h = ap (λ (z : ℕ). coefficient z n) (zero-mul b) ∙ of_zero n ∙ sym (zero-mul (coefficient b n))
of_bit (suc zero) b n h = ap (λ (z : ℕ). coefficient z n) (one-mul b) ∙ sym (one-mul (coefficient b n))
of_bit (suc (suc c)) b n h = not_bit h

of_half : (a n : ℕ) → coefficient a (suc n) ≡ coefficient (a / 2) n
of_half a n = ap (λ (z : ℕ). z % 2) (ap (λ (k : ℕ). a / 2 ^ k) (sym (one-add n)) ∙ sym (shr-shr a 1 n))

of_double : (m n : ℕ) → coefficient (m * 2) (suc n) ≡ coefficient m n
of_double m n = of_half (m * 2) n ∙ ap (λ (z : ℕ). coefficient z n) (mul-div_cancel m (lit< tt))

lowest : (a : ℕ) → coefficient a 0 ≡ a % 2
lowest a = ap (λ (z : ℕ). z % 2) (div-one a)

of_step : (a b n : ℕ) → coefficient (times a b) n ≡ (a % 2 * coefficient b n + coefficient (times (a / 2) b * 2) n) % 2
of_step a b n =
    ap (λ (z : ℕ). coefficient z n) (times_step a b) ∙ of_xor (a % 2 * b) (times (a / 2) b * 2) n
    ∙ ap (λ (z : ℕ). (z + coefficient (times (a / 2) b * 2) n) % 2) (of_bit (a % 2) b n (mod-lt a (lit< tt)))

pub convolves : (a b : ℕ) → IsProduct a b (times a b)
unfolding sum_to
convolves a b n =
    bin_ind (λ (a : ℕ). (n : ℕ) → coefficient (times a b) n ≡ sum_to n (λ i. coefficient a i * coefficient b (n - i)) % 2) base step a n
  where
    base : (n : ℕ) → coefficient (times 0 b) n ≡ sum_to n (λ i. coefficient 0 i * coefficient b (n - i)) % 2
    base n =
        ap (λ (z : ℕ). coefficient z n) (times_zero b) ∙ of_zero n
        ∙ sym
        (ap (λ (z : ℕ). z % 2)
        (sum_zero n (λ i. coefficient 0 i * coefficient b (n - i))
        (λ i. ap (λ (z : ℕ). z * coefficient b (n - i)) (of_zero i) ∙ zero-mul (coefficient b (n - i)))))

    step : (a : ℕ) → ((n : ℕ) → coefficient (times (a / 2) b) n ≡ sum_to n (λ i. coefficient (a / 2) i * coefficient b (n - i)) % 2)
        → (n : ℕ) → coefficient (times a b) n ≡ sum_to n (λ i. coefficient a i * coefficient b (n - i)) % 2
    step a ih zero =
        of_step a b 0
        ∙ ap (λ (z : ℕ). (a % 2 * coefficient b 0 + z) % 2) (lowest (times (a / 2) b * 2) ∙ mul-mod_left (times (a / 2) b) 2)
        ∙ ap (λ (z : ℕ). z % 2) (add-zero (a % 2 * coefficient b 0) ∙ ap (λ (z : ℕ). z * coefficient b 0) (sym (lowest a)))
    step a ih (suc n) =
        of_step a b (suc n)
        ∙ ap (λ (z : ℕ). (a % 2 * coefficient b (suc n) + z) % 2) (of_double (times (a / 2) b) n ∙ ih n)
        ∙ mods (a % 2 * coefficient b (suc n)) (sum_to n (λ i. coefficient (a / 2) i * coefficient b (n - i)))
        ∙ ap₂ (λ (x y : ℕ). (x + y) % 2)
        (ap₂ (λ (x y : ℕ). x * coefficient b y) (sym (lowest a)) (sym (sub-zero (suc n))))
        (ap (sum_to n) (fun_ext (λ i. ap₂ (λ (x y : ℕ). x * coefficient b y) (sym (of_half a i)) (sym (suc-sub-suc n i)))))
      where
        mods : (x s : ℕ) → (x + s % 2) % 2 ≡ (x + s) % 2
        mods x s = omega arith

-- ---- codes with the same coefficients are the same

half_same : (a b : ℕ) → ((n : ℕ) → coefficient a n ≡ coefficient b n) → (n : ℕ) → coefficient (a / 2) n ≡ coefficient (b / 2) n
half_same a b h n = sym (of_half a n) ∙ h (suc n) ∙ of_half b n

bit_same : (a b : ℕ) → ((n : ℕ) → coefficient a n ≡ coefficient b n) → a % 2 ≡ b % 2
bit_same a b h = sym (lowest a) ∙ h 0 ∙ lowest b

rebuilt : (a b : ℕ) → a / 2 ≡ b / 2 → a % 2 ≡ b % 2 → a ≡ b
rebuilt a b h k = omega arith

pub same_coefficients : (a b : ℕ) → ((n : ℕ) → coefficient a n ≡ coefficient b n) → a ≡ b
same_coefficients a =
    bin_ind (λ (a : ℕ). (b : ℕ) → ((n : ℕ) → coefficient a n ≡ coefficient b n) → a ≡ b)
    (λ b. bin_ind (λ (b : ℕ). ((n : ℕ) → coefficient 0 n ≡ coefficient b n) → 0 ≡ b) (λ h. refl)
    (λ b ih h. rebuilt 0 b (ih (half_same 0 b h)) (bit_same 0 b h)) b)
    (λ a ih b h. rebuilt a b (ih (b / 2) (half_same a b h)) (bit_same a b h)) a
