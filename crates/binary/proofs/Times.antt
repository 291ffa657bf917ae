-- The laws of `times`: commutative, associative, distributive over the exclusive or, one neutral. All by induction on the bits.
use Rattle.std.proofs.Common.{◌≡◌, ℕ, zero, suc, ◌+◌, ◌*◌, ◌/◌, ◌%◌, ◌<◌, ◌≤◌, sym, refl, ap, ◌∙◌, ap₂, le_refl, le_of_suc-le-suc, not-suc-le-zero, add-zero, mod-lt, mul_assoc, one-mul, div-add-mod', zero-mul, mul-one, mul-div_cancel, lit<}
use Prim.Native.Nat.{differ}
use Rattle.std.proofs.Math.Nat.{mul-mod_left}
use Rattle.std.proofs.Math.Decide.{le_ind}
use Rattle.std.proofs.Math.Arith.{half_le, bin_ind}
use Rattle.std.specs.Int.Bits.{bit_xor, xor_step, xor_comm, xor_assoc, xor_zero_r, xor_self, xor_shr, xor_mod, xor_shifted}
use Rattle.binary.specs.Codes.{times, times_bits}

-- ---- exclusive or against doubling and against one bit

two_pos : 0 < 2
two_pos = lit< tt

pub xor_double : (a b : ℕ) → bit_xor a b * 2 ≡ bit_xor (a * 2) (b * 2)
xor_double a b =
    sym
    (xor_step (a * 2) (b * 2)
    ∙ ap₂ (λ (x y : ℕ). x * 2 + y) (ap₂ bit_xor (mul-div_cancel a two_pos) (mul-div_cancel b two_pos)) (ap₂ differ (mul-mod_left a 2) (mul-mod_left b 2))
    ∙ add-zero (bit_xor a b * 2))

pub interchange : (a b c d : ℕ) → bit_xor (bit_xor a b) (bit_xor c d) ≡ bit_xor (bit_xor a c) (bit_xor b d)
interchange a b c d =
    xor_assoc a b (bit_xor c d)
    ∙ ap (bit_xor a) (sym (xor_assoc b c d) ∙ ap (λ (x : ℕ). bit_xor x d) (xor_comm b c) ∙ xor_assoc c b d)
    ∙ sym (xor_assoc a c (bit_xor b d))

-- no bit is 2 or more
pub not_bit {ℓ} : {A : Type ℓ} {x : ℕ} → suc (suc x) < 2 → A
not_bit h = absurd (not-suc-le-zero (le_of_suc-le-suc (le_of_suc-le-suc h)))

bit_times_xor : (c x y : ℕ) → c < 2 → c * bit_xor x y ≡ bit_xor (c * x) (c * y)
bit_times_xor zero x y h = zero-mul (bit_xor x y) ∙ sym (ap₂ bit_xor (zero-mul x) (zero-mul y))
bit_times_xor (suc zero) x y h = one-mul (bit_xor x y) ∙ sym (ap₂ bit_xor (one-mul x) (one-mul y))
bit_times_xor (suc (suc c)) x y h = not_bit h

xor_bit : (c e b : ℕ) → c < 2 → e < 2 → bit_xor c e * b ≡ bit_xor (c * b) (e * b)
xor_bit zero e b hc he = sym (ap (λ (x : ℕ). bit_xor x (e * b)) (zero-mul b))
xor_bit (suc zero) zero b hc he = sym (ap (bit_xor (1 * b)) (zero-mul b) ∙ xor_zero_r (1 * b))
xor_bit (suc zero) (suc zero) b hc he = zero-mul b ∙ sym (xor_self (1 * b))
xor_bit (suc zero) (suc (suc e)) b hc he = not_bit he
xor_bit (suc (suc c)) e b hc he = not_bit hc

-- a code is twice its half, and its lowest bit
pub halves : (a : ℕ) → bit_xor (a / 2 * 2) (a % 2) ≡ a
halves a = xor_shifted (a / 2) 1 (a % 2) (mod-lt a two_pos) ∙ div-add-mod' a 2

-- ---- one bit of `times`

more : (n a b : ℕ) → a ≤ n → times_bits (suc n) a b ≡ times_bits n a b
unfolding times_bits
more zero zero b h = refl
more zero (suc a) b h = absurd (not-suc-le-zero h)
more (suc n) zero b h = refl
more (suc n) (suc a) b h = ap (λ (x : ℕ). bit_xor (suc a % 2 * b) (x * 2)) (more n (suc a / 2) b (half_le h))

enough : (n a b : ℕ) → a ≤ n → times_bits n a b ≡ times_bits a a b
enough n a b h = le_ind (λ (m : ℕ). times_bits m a b ≡ times_bits a a b) refl (λ m k e. more m a b k ∙ e) n h

pub times_zero : (b : ℕ) → times 0 b ≡ 0
unfolding times times_bits
times_zero b = refl

pub times_step : (a b : ℕ) → times a b ≡ bit_xor (a % 2 * b) (times (a / 2) b * 2)
unfolding times times_bits
times_step zero b = sym (ap (λ (x : ℕ). bit_xor x 0) (zero-mul b))
times_step (suc a) b = ap (λ (x : ℕ). bit_xor (suc a % 2 * b) (x * 2)) (enough a (suc a / 2) b (half_le (le_refl (suc a))))

step² : {x x' y y' : ℕ} → x ≡ x' → y ≡ y' → bit_xor x (y * 2) ≡ bit_xor x' (y' * 2)
step² p q = ap₂ (λ (x y : ℕ). bit_xor x (y * 2)) p q

-- ---- distributive

pub times_xor_r : (a x y : ℕ) → times a (bit_xor x y) ≡ bit_xor (times a x) (times a y)
times_xor_r a x y =
    bin_ind (λ (n : ℕ). times n (bit_xor x y) ≡ bit_xor (times n x) (times n y))
    (times_zero (bit_xor x y) ∙ sym (ap₂ bit_xor (times_zero x) (times_zero y)))
    (λ n ih. times_step n (bit_xor x y)
    ∙ step² (bit_times_xor (n % 2) x y (mod-lt n two_pos)) ih
    ∙ ap (bit_xor (bit_xor (n % 2 * x) (n % 2 * y))) (xor_double (times (n / 2) x) (times (n / 2) y))
    ∙ interchange (n % 2 * x) (n % 2 * y) (times (n / 2) x * 2) (times (n / 2) y * 2)
    ∙ sym (ap₂ bit_xor (times_step n x) (times_step n y))) a

pub times_xor_l : (a b x : ℕ) → times (bit_xor a b) x ≡ bit_xor (times a x) (times b x)
times_xor_l a b x =
    bin_ind (λ (n : ℕ). (b : ℕ) → times (bit_xor n b) x ≡ bit_xor (times n x) (times b x))
    (λ b. sym (ap (λ (y : ℕ). bit_xor y (times b x)) (times_zero x)))
    (λ n ih b. times_step (bit_xor n b) x
    ∙ step² (ap (λ (y : ℕ). y * x) (xor_mod n b 1) ∙ xor_bit (n % 2) (b % 2) x (mod-lt n two_pos) (mod-lt b two_pos))
    (ap (λ (y : ℕ). times y x) (xor_shr n b 1) ∙ ih (b / 2))
    ∙ ap (bit_xor (bit_xor (n % 2 * x) (b % 2 * x))) (xor_double (times (n / 2) x) (times (b / 2) x))
    ∙ interchange (n % 2 * x) (b % 2 * x) (times (n / 2) x * 2) (times (b / 2) x * 2)
    ∙ sym (ap₂ bit_xor (times_step n x) (times_step b x))) a b

-- ---- doubling, zero and one on either side

pub times_double_l : (a b : ℕ) → times (a * 2) b ≡ times a b * 2
times_double_l a b =
    times_step (a * 2) b
    ∙ step² (ap (λ (x : ℕ). x * b) (mul-mod_left a 2) ∙ zero-mul b) (ap (λ (x : ℕ). times x b) (mul-div_cancel a two_pos))

pub times_double_r : (a b : ℕ) → times a (b * 2) ≡ times a b * 2
times_double_r a b =
    bin_ind (λ (n : ℕ). times n (b * 2) ≡ times n b * 2) (times_zero (b * 2) ∙ sym (ap (λ (x : ℕ). x * 2) (times_zero b)))
    (λ n ih. times_step n (b * 2)
    ∙ step² (sym (mul_assoc (n % 2) b 2)) ih
    ∙ sym (xor_double (n % 2 * b) (times (n / 2) b * 2))
    ∙ sym (ap (λ (x : ℕ). x * 2) (times_step n b))) a

pub times_zero_r : (a : ℕ) → times a 0 ≡ 0
times_zero_r a = times_xor_r a 1 1 ∙ xor_self (times a 1)

pub one_times : (b : ℕ) → times 1 b ≡ b
one_times b = times_step 1 b ∙ step² (one-mul b) (times_zero b) ∙ xor_zero_r b

pub times_one : (a : ℕ) → times a 1 ≡ a
times_one a =
    bin_ind (λ (n : ℕ). times n 1 ≡ n) (times_zero 1)
    (λ n ih. times_step n 1 ∙ step² (mul-one (n % 2)) ih ∙ xor_comm (n % 2) (n / 2 * 2) ∙ halves n) a

-- ---- commutative and associative

times_bit : (b c : ℕ) → c < 2 → times b c ≡ c * b
times_bit b zero h = times_zero_r b ∙ sym (zero-mul b)
times_bit b (suc zero) h = times_one b ∙ sym (one-mul b)
times_bit b (suc (suc c)) h = not_bit h

pub times_comm : (a b : ℕ) → times a b ≡ times b a
times_comm a b =
    bin_ind (λ (n : ℕ). times n b ≡ times b n) (times_zero b ∙ sym (times_zero_r b))
    (λ n ih. times_step n b
    ∙ ap₂ bit_xor (sym (times_bit b (n % 2) (mod-lt n two_pos))) (ap (λ (x : ℕ). x * 2) ih ∙ sym (times_double_r b (n / 2)))
    ∙ xor_comm (times b (n % 2)) (times b (n / 2 * 2))
    ∙ sym (times_xor_r b (n / 2 * 2) (n % 2))
    ∙ ap (times b) (halves n)) a

bit_times : (c b x : ℕ) → c < 2 → times (c * b) x ≡ c * times b x
bit_times zero b x h = ap (λ (y : ℕ). times y x) (zero-mul b) ∙ times_zero x ∙ sym (zero-mul (times b x))
bit_times (suc zero) b x h = ap (λ (y : ℕ). times y x) (one-mul b) ∙ sym (one-mul (times b x))
bit_times (suc (suc c)) b x h = not_bit h

pub times_assoc : (a b c : ℕ) → times (times a b) c ≡ times a (times b c)
times_assoc a b c =
    bin_ind (λ (n : ℕ). times (times n b) c ≡ times n (times b c))
    (ap (λ (x : ℕ). times x c) (times_zero b) ∙ times_zero c ∙ sym (times_zero (times b c)))
    (λ n ih. ap (λ (x : ℕ). times x c) (times_step n b)
    ∙ times_xor_l (n % 2 * b) (times (n / 2) b * 2) c
    ∙ ap₂ bit_xor (bit_times (n % 2) b c (mod-lt n two_pos)) (times_double_l (times (n / 2) b) c ∙ ap (λ (x : ℕ). x * 2) ih)
    ∙ sym (times_step n (times b c))) a
