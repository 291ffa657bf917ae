-- The remainder modulo f of degree d: it exists, there is one, and the product of remainders obeys the laws of a commutative ring.
use Rattle.std.proofs.Common.{◌≡◌, ℕ, zero, suc, ◌+◌, ◌*◌, ◌/◌, ◌%◌, ◌^◌, ◌<◌, ◌≤◌, Bool, true, false, cond, T, ltb, sym, refl, ap, ◌∙◌, subst, ap₂, le_of_eq, le_refl, not-suc-le-zero, lt_of_le_of_lt, mod-lt, zero-lt-suc, div-lt_iff_lt-mul, one-mul, pow-suc, div-add-mod', zero-add, zero-mul, not-le_of_lt, arith, lit<, ltb→lt, nltb→le, pow_pos, not, lt-ltb, le-ltb}
use Rattle.std.proofs.Math.Nat.{div-eq_of_lt, div-eq_of_lt-le}
use Rattle.std.proofs.Math.Arith.{half_le, bin_ind, digits_lt}
use Rattle.std.specs.Int.Bits.{bit_xor, xor_comm, xor_assoc, xor_zero_r, xor_shr, xor_shifted, xor_lt}
use Rattle.binary.specs.Words.{HasDegree}
use Rattle.binary.specs.Codes.{times, reduce, remainder_bits, remainder, product}
use Rattle.binary.proofs.Multiples.{Same, less, cancel, same_eq, same_sym, same_trans, same_xor, same_times_l, same_times_r, same_double}
use Rattle.binary.proofs.Times.{not_bit, halves, times_zero, times_step, times_comm, times_assoc, one_times, times_xor_r, times_double_r}

-- ---- one code below 2 ^ d at most

below : (x d : ℕ) → x / 2 ^ d ≡ 0 → x < 2 ^ d
below x d e =
    subst (λ (y : ℕ). x < y) (one-mul (2 ^ d)) ((div-lt_iff_lt-mul (pow_pos d)).0 (subst (λ (y : ℕ). y < 1) (sym e) (zero-lt-suc 0)))

pub bit_below : (c f m : ℕ) → c < 2 → f < m → c * f < m
bit_below zero f m hc h = lt_of_le_of_lt (le_of_eq (zero-mul f)) (lt_of_le_of_lt (omega arith) h)
bit_below (suc zero) f m hc h = lt_of_le_of_lt (le_of_eq (one-mul f)) h
bit_below (suc (suc c)) f m hc h = not_bit hc

bit_none : (c f m : ℕ) → m ≤ f → c < 2 → c * f < m → c ≡ 0
bit_none zero f m h hc l = refl
bit_none (suc zero) f m h hc l = absurd (not-le_of_lt (subst (λ (x : ℕ). x < m) (one-mul f) l) h)
bit_none (suc (suc c)) f m h hc l = not_bit hc

-- the only multiple of f below 2 ^ d is 0
pub no_multiple : (f d : ℕ) → HasDegree f d → (k : ℕ) → times k f < 2 ^ d → k ≡ 0
no_multiple f d (lo, hi) = bin_ind (λ (n : ℕ). times n f < 2 ^ d → n ≡ 0) (λ h. refl) step
  where
    step : (n : ℕ) → (times (n / 2) f < 2 ^ d → n / 2 ≡ 0) → times n f < 2 ^ d → n ≡ 0
    step n ih h = whole ∙ bit_none (n % 2) f (2 ^ d) lo (mod-lt n (lit< tt)) (subst (λ (x : ℕ). x < 2 ^ d) alone h)
      where
        m : ℕ
        m = times (n / 2) f

        two : 2 ^ suc d ≡ 2 ^ d * 2
        two = pow-suc 2 d

        first : n % 2 * f < 2 ^ suc d
        first = bit_below (n % 2) f (2 ^ suc d) (mod-lt n (lit< tt)) (subst (λ (x : ℕ). f < x) (sym two) hi)

        fits : times n f < 2 ^ suc d
        fits = omega (arith, two, h)

        high : m * 2 / 2 ^ suc d ≡ 0
        high =
            sym (ap (λ (x : ℕ). bit_xor x (m * 2 / 2 ^ suc d)) (div-eq_of_lt first))
            ∙ sym (xor_shr (n % 2 * f) (m * 2) (suc d))
            ∙ ap (λ (x : ℕ). x / 2 ^ suc d) (sym (times_step n f))
            ∙ div-eq_of_lt fits

        none : n / 2 ≡ 0
        none = ih (omega (arith, two, below (m * 2) (suc d) high))

        whole : n ≡ n % 2
        whole = sym (div-add-mod' n 2) ∙ ap (λ (x : ℕ). x * 2 + n % 2) none ∙ zero-add (n % 2)

        alone : times n f ≡ n % 2 * f
        alone =
            times_step n f ∙ ap (λ (x : ℕ). bit_xor (n % 2 * f) (times x f * 2)) none
            ∙ ap (λ (x : ℕ). bit_xor (n % 2 * f) (x * 2)) (times_zero f) ∙ xor_zero_r (n % 2 * f)

pub unique : (f d : ℕ) → HasDegree f d → (r s : ℕ) → r < 2 ^ d → s < 2 ^ d → Same f r s → r ≡ s
unique f d g r s hr hs (k, e) = e ∙ ap (λ (x : ℕ). bit_xor x s) (ap (λ (x : ℕ). times x f) none ∙ times_zero f)
  where
    is : bit_xor r s ≡ times k f
    is = less r (times k f) s e

    none : k ≡ 0
    none = no_multiple f d g k (subst (λ (x : ℕ). x < 2 ^ d) is (xor_lt d r s hr hs))

-- ---- and one there is

top : (x d : ℕ) → 2 ^ d ≤ x → x < 2 ^ d * 2 → x / 2 ^ d ≡ 1
top x d lo hi = div-eq_of_lt-le (2 ^ d) (omega arith) (omega arith)

pub reduce_is : (f d x : ℕ) → HasDegree f d → x < 2 ^ d * 2 → (reduce f d x < 2 ^ d) × Same f x (reduce f d x)
unfolding reduce
reduce_is f d x (lo, hi) h = go (ltb x (2 ^ d)) (ltb→lt x (2 ^ d)) (nltb→le x (2 ^ d))
  where
    go : (b : Bool) → (T b → x < 2 ^ d) → (T (not b) → 2 ^ d ≤ x) → (cond b x (bit_xor x f) < 2 ^ d) × Same f x (cond b x (bit_xor x f))
    go true p q = (p tt, same_eq f refl)
    go false p q = (
      below (bit_xor x f) d (xor_shr x f d ∙ ap₂ bit_xor (top x d (q tt) h) (top f d lo hi)),
      (1, sym (ap₂ bit_xor (one_times f) (xor_comm x f) ∙ cancel f x)),
    )

remainder_bits_is : (f d : ℕ) → HasDegree f d → (n a : ℕ) → a ≤ n → (remainder_bits f d n a < 2 ^ d) × Same f a (remainder_bits f d n a)
unfolding remainder_bits
remainder_bits_is f d g zero zero h = (pow_pos d, same_eq f refl)
remainder_bits_is f d g zero (suc a) h = absurd (not-suc-le-zero h)
remainder_bits_is f d g (suc n) zero h = (pow_pos d, same_eq f refl)
remainder_bits_is f d g (suc n) (suc a) h =
    let ih : (remainder_bits f d n (suc a / 2) < 2 ^ d) × Same f (suc a / 2) (remainder_bits f d n (suc a / 2)) = remainder_bits_is f d g n (suc a / 2) (half_le h) in
    let r : ℕ = remainder_bits f d n (suc a / 2) in
    let c : ℕ = suc a % 2 in
    let small : c < 2 = mod-lt (suc a) (lit< tt) in
    let now : (reduce f d (r * 2 + c) < 2 ^ d) × Same f (r * 2 + c) (reduce f d (r * 2 + c)) = reduce_is f d (r * 2 + c) g (digits_lt ih.0 small) in
    let joined : Same f (bit_xor (suc a / 2 * 2) c) (bit_xor (r * 2) c) =
    same_xor f (suc a / 2 * 2) (r * 2) c c (same_double f (suc a / 2) r ih.1) (same_eq f refl) in (
      now.0,
      same_trans f (suc a) (r * 2 + c) (reduce f d (r * 2 + c))
          (same_trans f (suc a) (bit_xor (suc a / 2 * 2) c) (r * 2 + c) (same_eq f (sym (halves (suc a))))
          (same_trans f (bit_xor (suc a / 2 * 2) c) (bit_xor (r * 2) c) (r * 2 + c) joined (same_eq f (xor_shifted r 1 c small))))
          now.1,
    )

pub remainder_is : (f d : ℕ) → HasDegree f d → (a : ℕ) → (remainder f d a < 2 ^ d) × Same f a (remainder f d a)
unfolding remainder
remainder_is f d g a = remainder_bits_is f d g a a (le_refl a)

pub remainder_only : (f d : ℕ) → HasDegree f d → (a r : ℕ) → r < 2 ^ d → Same f a r → r ≡ remainder f d a
remainder_only f d g a r h s =
    unique f d g r (remainder f d a) h (remainder_is f d g a).0
    (same_trans f r a (remainder f d a) (same_sym f a r s) (remainder_is f d g a).1)

-- ---- the product

pub product_is : (f d : ℕ) → HasDegree f d → (a b : ℕ) → (product f d a b < 2 ^ d) × Same f (times a b) (product f d a b)
unfolding product
product_is f d g a b = remainder_is f d g (times a b)

pub product_only : (f d : ℕ) → HasDegree f d → (a b r : ℕ) → r < 2 ^ d → Same f (times a b) r → r ≡ product f d a b
unfolding product
product_only f d g a b r = remainder_only f d g (times a b) r

pub product_comm : (f d a b : ℕ) → product f d a b ≡ product f d b a
unfolding product
product_comm f d a b = ap (remainder f d) (times_comm a b)

pub product_one : (f d : ℕ) → HasDegree f d → (a : ℕ) → a < 2 ^ d → product f d 1 a ≡ a
product_one f d g a h = sym (product_only f d g 1 a a h (same_eq f (one_times a)))

pub product_assoc : (f d : ℕ) → HasDegree f d → (a b c : ℕ) → product f d (product f d a b) c ≡ product f d a (product f d b c)
product_assoc f d g a b c =
    product_only f d g a bc left (product_is f d g ab c).0
    (same_trans f (times a bc) (times ab c) left
    (same_trans f (times a bc) (times a (times b c)) (times ab c)
    (same_times_r f a bc (times b c) (same_sym f (times b c) bc (product_is f d g b c).1))
    (same_trans f (times a (times b c)) (times (times a b) c) (times ab c) (same_eq f (sym (times_assoc a b c)))
    (same_times_l f (times a b) ab c (product_is f d g a b).1)))
    (product_is f d g ab c).1)
  where
    ab : ℕ
    ab = product f d a b

    bc : ℕ
    bc = product f d b c

    left : ℕ
    left = product f d ab c

pub product_xor : (f d : ℕ) → HasDegree f d → (a b c : ℕ) → product f d a (bit_xor b c) ≡ bit_xor (product f d a b) (product f d a c)
product_xor f d g a b c =
    sym
    (product_only f d g a (bit_xor b c) (bit_xor ab ac) (xor_lt d ab ac (product_is f d g a b).0 (product_is f d g a c).0)
    (same_trans f (times a (bit_xor b c)) (bit_xor (times a b) (times a c)) (bit_xor ab ac) (same_eq f (times_xor_r a b c))
    (same_xor f (times a b) ab (times a c) ac (product_is f d g a b).1 (product_is f d g a c).1)))
  where
    ab : ℕ
    ab = product f d a b

    ac : ℕ
    ac = product f d a c

-- ---- for the code

pub reduce_below : (f d x : ℕ) → x < 2 ^ d → reduce f d x ≡ x
unfolding reduce
reduce_below f d x h = ap (λ (b : Bool). cond b x (bit_xor x f)) (lt-ltb x (2 ^ d) h)

pub reduce_above : (f d x : ℕ) → 2 ^ d ≤ x → reduce f d x ≡ bit_xor x f
unfolding reduce
reduce_above f d x h = ap (λ (b : Bool). cond b x (bit_xor x f)) (le-ltb x (2 ^ d) h)

-- one turn of the loop
pub turn : (f d : ℕ) → HasDegree f d → (whole sum left power : ℕ) → power < 2 ^ d → Same f whole (bit_xor sum (times left power))
    → Same f whole (bit_xor (bit_xor sum (left % 2 * power)) (times (left / 2) (reduce f d (power * 2))))
turn f d g whole sum left power h s =
    same_trans f whole (bit_xor sum (times left power)) (bit_xor taken (times (left / 2) next)) s
    (same_trans f (bit_xor sum (times left power)) (bit_xor taken (times (left / 2) (power * 2))) (bit_xor taken (times (left / 2) next))
    (same_eq f
    (ap (bit_xor sum) (times_step left power ∙ ap (bit_xor (left % 2 * power)) (sym (times_double_r (left / 2) power)))
    ∙ sym (xor_assoc sum (left % 2 * power) (times (left / 2) (power * 2)))))
    (same_xor f taken taken (times (left / 2) (power * 2)) (times (left / 2) next) (same_eq f refl)
    (same_times_r f (left / 2) (power * 2) next (reduce_is f d (power * 2) g (omega arith)).1)))
  where
    taken : ℕ
    taken = bit_xor sum (left % 2 * power)

    next : ℕ
    next = reduce f d (power * 2)
