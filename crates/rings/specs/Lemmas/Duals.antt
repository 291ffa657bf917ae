-- The dual numbers over a lawful ring keep the laws, and what the code works out is what they answer.
use Rattle.std.specs.Prelude.{◌≡◌, ℕ, ◌+◌, ◌*◌, ◌/◌, ◌%◌, ◌^◌, ◌<◌, ◌≤◌, Bool, true, false, cond, Ok, Err, nat_le, refl}
use Rattle.std.proofs.Common.{sym, ◌∙◌, mod-lt, arith, leb-true, le-leb, le-ltb}
use Rattle.std.proofs.Math.Path.{ap, ap₂}
use Rattle.std.proofs.Math.Nat.{mod-eq_of_lt, mod-add-div, add-mul-mod_self_left, add-mul-div_left, div-eq_of_lt, zero-add, add-zero, mul-zero, mul_comm, zero-mod, zero-div}
use Rattle.std.proofs.lemmas.Bool.{lt-leb}
use Rattle.std.proofs.lemmas.Nat.{mul-le, mul-add-lt, div_below}
use Rattle.rings.specs.declared.fault.RingFault.{RingFault}
use Rattle.rings.specs.declared.fault.RingRule.TheVariants.{TooLarge}
use Rattle.rings.specs.Faults.{at_depth, raised}
use Rattle.rings.specs.Model.{RingModel, Order, in_order, Laws, Lawful, if_in_order, clip, code, size_of, one_of, sum, opposite, product}
use Rattle.rings.specs.Duals.{order_over, dual_order, side, join, dual}
use Rattle.rings.specs.Lemmas.Refused.{not_ok}
use Rattle.rings.specs.Lemmas.Total.{total, size_off, size_pos, one_below, sum_below, opposite_below, product_below, code_is}
use Rattle.rings.specs.Lemmas.Rules.{sum_zero, zero_product, expand}

-- ---- a dual ring in order is over a ring in order, of size at most 2^31

small : (s : ℕ) (t : Bool) → nat_le s (2 ^ 31) ≡ t → cond t in_order (Err (at_depth TooLarge 0)) ≡ in_order → s ≤ 2 ^ 31
small s true q e = leb-true s (2 ^ 31) q
small s false q e = not_ok (at_depth TooLarge 0) tt e

over_ok : (o : Order) (s : ℕ) → order_over o s ≡ in_order → (o ≡ in_order) × (s ≤ 2 ^ 31)
over_ok (Ok u) s e = (refl, small s (nat_le s (2 ^ 31)) refl e)
over_ok (Err fault) s e = not_ok (raised fault) tt e

-- ---- a + s × b has a and b as its parts

module _ (s a b : ℕ) (h : a < s) where
  pub first_join : join s a b % s ≡ a
  first_join = add-mul-mod_self_left a s b ∙ mod-eq_of_lt h

  second_join : join s a b / s ≡ b
  second_join = add-mul-div_left a b (omega arith) ∙ ap (λ (n : ℕ). n + b) (div-eq_of_lt h) ∙ zero-add b

  join_code : b < s → join s a b < s * s
  join_code k = let p = mul-add-lt b s a s k h in let e = mul_comm b s in omega arith

-- ---- the laws

module _ (b : RingModel) (lawful : Lawful b) (on : dual_order b ≡ in_order) where
  pub below_on : b.order ≡ in_order
  below_on = (over_ok b.order (size_of b) on).0

  side_le : size_of b ≤ 2 ^ 31
  side_le = (over_ok b.order (size_of b) on).1

  positive : 0 < size_of b
  positive = size_pos b below_on (lawful below_on)

  sum_in : (x y : ℕ) → sum b x y < size_of b
  sum_in = sum_below b below_on (lawful below_on)

  opposite_in : (x : ℕ) → opposite b x < size_of b
  opposite_in = opposite_below b below_on (lawful below_on)

  product_in : (x y : ℕ) → product b x y < size_of b
  product_in = product_below b below_on (lawful below_on)

  one_in : one_of b < size_of b
  one_in = one_below b below_on (lawful below_on)

  first_code : (x : ℕ) → code b (x % size_of b) ≡ x % size_of b
  first_code x = code_is b below_on (lawful below_on) _ (mod-lt x positive)

  second_code : (x : ℕ) → x < size_of b * size_of b → code b (x / size_of b) ≡ x / size_of b
  second_code x h = code_is b below_on (lawful below_on) _ (div_below x (size_of b) (size_of b) positive h)

  dual_laws : Laws (dual b)
  unfolding dual
  dual_laws =
      let s = size_of b in
      let t = total b lawful in
      let first_sum : (x y c : ℕ) → join s (sum b x y) c % s ≡ sum b x y = λ x y c. first_join s (sum b x y) c (sum_in x y) in
      let second_sum : (x y c : ℕ) → join s (sum b x y) c / s ≡ c = λ x y c. second_join s (sum b x y) c (sum_in x y) in
      let first_product : (x y c : ℕ) → join s (product b x y) c % s ≡ product b x y = λ x y c. first_join s (product b x y) c (product_in x y) in
      let second_product : (x y c : ℕ) → join s (product b x y) c / s ≡ c = λ x y c. second_join s (product b x y) c (product_in x y) in
      let first_opposite : (x c : ℕ) → join s (opposite b x) c % s ≡ opposite b x = λ x c. first_join s (opposite b x) c (opposite_in x) in
      let second_opposite : (x c : ℕ) → join s (opposite b x) c / s ≡ c = λ x c. second_join s (opposite b x) c (opposite_in x) in
      let one_first : one_of b % s ≡ one_of b = mod-eq_of_lt one_in in
      let one_second : one_of b / s ≡ 0 = div-eq_of_lt one_in in
      record {
        size_from = let h = mul-add-lt 0 s 0 s positive positive in omega arith;
        size_to = let h = mul-le s s (2 ^ 31) (2 ^ 31) side_le side_le in omega arith;
        one_code = let h = join_code s (one_of b) 0 one_in positive in let e = mul-zero s in omega arith;
        add_code = λ x y _ _. join_code s _ _ (sum_in _ _) (sum_in _ _);
        neg_code = λ x _. join_code s _ _ (opposite_in _) (opposite_in _);
        mul_code = λ x y _ _. join_code s _ _ (product_in _ _) (sum_in _ _);
        add_assoc = λ x y z _ _ _. simp (first_sum, second_sum, t.sum_assoc);
        add_comm = λ x y _ _. ap₂ (join s) (t.sum_comm _ _) (t.sum_comm _ _);
        zero_add = λ x h. ap₂ (join s) (simp (zero-mod, t.zero_sum, first_code)) (simp (zero-div, t.zero_sum) (second_code x h)) ∙ mod-add-div x s;
        neg_add = λ x h. simp (first_opposite, second_opposite, t.opposite_sum, mul-zero, add-zero);
        mul_assoc = λ x y z _ _ _. ap₂ (join s) (simp (first_product, t.product_assoc)) (simp (first_product, second_product, expand));
        mul_comm = λ x y _ _. ap₂ (join s) (t.product_comm _ _) (simp expand);
        one_mul = λ x h. simp (one_first, one_second, t.one_product, first_code, second_code x h, zero_product, sum_zero, mod-add-div);
        mul_add = λ x y z _ _ _. ap₂ (join s) (simp (first_sum, first_product, t.product_sum)) (simp (first_sum, second_sum, second_product, expand));
      }

pub dual_lawful : (b : RingModel) → Lawful b → Lawful (dual b)
unfolding dual
dual_lawful b lawful on = dual_laws b lawful on

-- ---- the side: the size of the ring below if that is at most 2^31

fits_at : (b : RingModel) (o : Order) → b.order ≡ o → size_of b ≤ 2 ^ 31 → if_in_order (order_over o (size_of b)) (size_of b) ≡ size_of b
fits_at b (Ok u) e h = rw (le-leb _ _ h)
fits_at b (Err fault) e h = sym (size_off b fault e)

pub side_fits : (b : RingModel) → size_of b ≤ 2 ^ 31 → side b ≡ size_of b
unfolding side
side_fits b h = fits_at b b.order refl h

large_at : (b : RingModel) (o : Order) → 2 ^ 31 < size_of b → if_in_order (order_over o (size_of b)) (size_of b) ≡ 0
large_at b (Ok u) h = rw (lt-leb _ _ h)
large_at b (Err fault) h = refl

pub side_large : (b : RingModel) → 2 ^ 31 < size_of b → side b ≡ 0
unfolding side
side_large b h = large_at b b.order h

squared_at : (o : Order) (s : ℕ) → if_in_order o s * if_in_order o s ≡ if_in_order o (s * s)
squared_at (Ok u) s = refl
squared_at (Err fault) s = refl

pub side_squared : (b : RingModel) → side b * side b ≡ size_of (dual b)
unfolding side dual size_of
side_squared b = squared_at (dual_order b) (size_of b)

-- the side is the size below, or the dual ring answers 0
positive_at : (o : Order) (s : ℕ) → 0 < if_in_order o s → if_in_order o s ≡ s
positive_at (Ok u) s h = refl
positive_at (Err fault) s h = absurd (omega arith)

pub side_positive : (b : RingModel) → 0 < side b → side b ≡ size_of b
unfolding side
side_positive b h = positive_at (dual_order b) (size_of b) h

-- a number counts as the code that is clipped to the side's square
pub code_dual : (b : RingModel) (x : ℕ) → code (dual b) x ≡ clip (side b * side b) x
unfolding code
code_dual b x = ap (λ (n : ℕ). clip n x) (sym (side_squared b))

clip_none : (x : ℕ) → clip 0 x ≡ 0
clip_none x = rw (le-ltb x 0 (omega arith))

pub code_none : (b : RingModel) (x : ℕ) → side b ≡ 0 → code (dual b) x ≡ 0
code_none b x h = code_dual b x ∙ ap (λ (s : ℕ). clip (s * s) x) h ∙ clip_none x

joined_at : (o : Order) (s x y : ℕ) → join (if_in_order o s) (clip (if_in_order o s) x) (clip (if_in_order o s) y) ≡ if_in_order o (join s (clip s x) (clip s y))
joined_at (Ok u) s x y = refl
joined_at (Err fault) s x y = rw (clip_none x, clip_none y)

pub joined_is : (b : RingModel) (x y : ℕ) → join (side b) (clip (side b) x) (clip (side b) y) ≡ if_in_order (dual_order b) (join (size_of b) (code b x) (code b y))
unfolding side code
joined_is b x y = joined_at (dual_order b) (size_of b) x y

-- ---- what the dual ring answers, from the parts of its operands

module _ (b : RingModel) where
  abbrev pub first : ℕ → ℕ
  first x = code (dual b) x % size_of b

  abbrev pub second : ℕ → ℕ
  second x = code (dual b) x / size_of b

  abbrev pub join_of : ℕ → ℕ → ℕ
  join_of x y = if_in_order (dual_order b) (join (size_of b) (code b x) (code b y))

  coded : (x y x' y' : ℕ) → code b x ≡ x' → code b y ≡ y' → join_of x y ≡ if_in_order (dual_order b) (join (size_of b) x' y')
  coded x y x' y' p q = ap₂ (λ (i j : ℕ). if_in_order (dual_order b) (join (size_of b) i j)) p q

module _ (b : RingModel) (lawful : Lawful b) where
  pub dual_one : join_of b (one_of b) 0 ≡ one_of (dual b)
  unfolding one_of dual
  dual_one =
      let t = total b lawful in
      coded b (one_of b) 0 (one_of b) 0 t.code_one t.code_zero
      ∙ ap (if_in_order (dual_order b)) (ap (λ (n : ℕ). one_of b + n) (mul-zero (size_of b)) ∙ add-zero (one_of b))

  pub dual_sum : (x y : ℕ) → join_of b (sum b (first b x) (first b y)) (sum b (second b x) (second b y)) ≡ sum (dual b) x y
  unfolding sum dual
  dual_sum x y = coded b _ _ _ _ ((total b lawful).code_sum _ _) ((total b lawful).code_sum _ _)

  pub dual_opposite : (x : ℕ) → join_of b (opposite b (first b x)) (opposite b (second b x)) ≡ opposite (dual b) x
  unfolding opposite dual
  dual_opposite x = coded b _ _ _ _ ((total b lawful).code_opposite _) ((total b lawful).code_opposite _)

  pub dual_product : (x y : ℕ) → join_of b (product b (first b x) (first b y)) (sum b (product b (first b x) (second b y)) (product b (second b x) (first b y))) ≡ product (dual b) x y
  unfolding product dual
  dual_product x y = coded b _ _ _ _ ((total b lawful).code_product _ _) ((total b lawful).code_sum _ _)

-- ---- whether it is in order

pub order_large : (b : RingModel) → b.order ≡ in_order → 2 ^ 31 < size_of b → (dual b).order ≡ Err (at_depth TooLarge 0)
unfolding dual
order_large b on h = ap (λ (o : Order). order_over o (size_of b)) on ∙ rw (lt-leb _ _ h)

pub order_small : (b : RingModel) → b.order ≡ in_order → size_of b ≤ 2 ^ 31 → (dual b).order ≡ in_order
unfolding dual
order_small b on h = ap (λ (o : Order). order_over o (size_of b)) on ∙ rw (le-leb _ _ h)

pub order_below : (b : RingModel) (fault : RingFault) → b.order ≡ Err fault → (dual b).order ≡ Err (raised fault)
unfolding dual
order_below b fault off = rw off
