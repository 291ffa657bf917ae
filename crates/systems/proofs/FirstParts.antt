-- To take first parts carries the operations of the dual numbers to those of the ring below.
use Rattle.std.proofs.Common.{◌≡◌, ℕ, ◌%◌, ◌<◌, sym, refl, ap, ◌∙◌, ap₂, mod-lt, mod-eq_of_lt, arith, le-ltb, lt-ltb}
use Rattle.std.proofs.Math.Nat.{zero-mod}
use Rattle.rings.specs.Model.{RingModel, Lawful, in_order, code, size_of, one_of, sum, product}
use Rattle.rings.specs.Duals.{dual, join}
use Rattle.rings.specs.Lemmas.Total.{size_pos, one_below, sum_below, product_below, code_size, code_is, one_on, sum_on, product_on}
use Rattle.rings.specs.Lemmas.Duals.{dual_lawful, below_on, first_join}
use Rattle.systems.specs.Carrying.{Carries}
use Rattle.systems.specs.FirstParts.{first_part, CarriesFirstParts}
use Rattle.systems.proofs.Theorems.{transfers}

-- what the code works out
pub no_part : (b : RingModel) (s x : ℕ) → s ≡ size_of b → s ≡ 0 → 0 ≡ first_part b x
unfolding code
no_part b s x e z = let p : size_of b ≡ 0 = omega arith in sym (rw (p, le-ltb (x % 0) 0 (omega arith)))

pub some_part : (b : RingModel) (s x : ℕ) → s ≡ size_of b → ¬ (s ≡ 0) → x % s ≡ first_part b x
unfolding code
some_part b s x e some = rw (← e, lt-ltb (x % s) s (mod-lt x (omega (arith, some))))

module _ (b : RingModel) (lawful : Lawful b) (on : (dual b).order ≡ in_order) where
  ob : b.order ≡ in_order
  unfolding dual
  ob = below_on b lawful on

  -- the first part of a code is the remainder
  part_is : (x : ℕ) → first_part b x ≡ x % size_of b
  part_is x = code_is b ob (lawful ob) (x % size_of b) (mod-lt x (size_pos b ob (lawful ob)))

  its_code : (x : ℕ) → x < size_of (dual b) → code (dual b) x ≡ x
  its_code = code_is (dual b) on (dual_lawful b lawful on)

  -- an answer z whose first part is an operation of the ring below
  part_of : (f : ℕ → ℕ → ℕ) (x y z c : ℕ) → ((i j : ℕ) → f i j < size_of b) → z ≡ join (size_of b) (f (x % size_of b) (y % size_of b)) c
      → first_part b z ≡ f (first_part b x) (first_part b y)
  part_of f x y z c below e =
      part_is z ∙ ap (λ (n : ℕ). n % size_of b) e ∙ first_join (size_of b) _ c (below _ _) ∙ sym (ap₂ f (part_is x) (part_is y))

  one_part : first_part b (one_of (dual b)) ≡ one_of b
  unfolding dual
  one_part = ap (first_part b) (one_on (dual b) on) ∙ part_is (one_of b) ∙ mod-eq_of_lt (one_below b ob (lawful ob))

  pub first_parts_carry : (q : ℕ) → q < size_of (dual b) → Carries (dual b) b (first_part b) q (first_part b q)
  unfolding dual
  first_parts_carry q h = record {
    to_codes = λ x l. code_size b ob (lawful ob) _;
    to_zero = part_is 0 ∙ zero-mod (size_of b);
    to_one = one_part;
    to_sums = λ x y h l. part_of (sum b) x y _ _ (sum_below b ob (lawful ob)) (sum_on (dual b) on x y ∙ ap₂ (dual b).add (its_code x h) (its_code y l));
    to_products = λ x y h l. part_of (product b) x y _ _ (product_below b ob (lawful ob)) (product_on (dual b) on x y ∙ ap₂ (dual b).mul (its_code x h) (its_code y l));
    base = h;
    to_base = refl;
  }

pub carries_first_parts : (b : RingModel) → Lawful b → CarriesFirstParts b
carries_first_parts b lawful on q h =
    let c = first_parts_carry b lawful on q h in
    (c, transfers (dual b) b (dual_lawful b lawful) lawful on (ob b lawful on) (first_part b) q (first_part b q) c)
