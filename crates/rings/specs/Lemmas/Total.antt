-- The laws at all numbers, from the laws on codes.
use Rattle.std.specs.Prelude.{◌≡◌, ℕ, ◌<◌, Ok, Err, nat_lt}
use Rattle.std.proofs.Math.Path.{refl}
use Rattle.std.proofs.Common.{sym, ap, ◌∙◌, arith, lt-ltb, le-ltb}
use Rattle.binary.proofs.Clips.{cut_below}
use Rattle.rings.specs.declared.fault.RingFault.{RingFault}
use Rattle.rings.specs.Model.{RingModel, Order, in_order, Laws, Lawful, code, size_of, one_of, sum, opposite, product}
use Rattle.rings.specs.Total.{Total}

-- a ring in order
module _ (m : RingModel) (on : m.order ≡ in_order) where
  pub size_on : size_of m ≡ m.size
  unfolding size_of
  size_on = rw on

  pub one_on : one_of m ≡ m.one
  unfolding one_of
  one_on = rw on

  pub sum_on : (x y : ℕ) → sum m x y ≡ m.add (code m x) (code m y)
  unfolding sum
  sum_on x y = rw on

  pub opposite_on : (x : ℕ) → opposite m x ≡ m.neg (code m x)
  unfolding opposite
  opposite_on x = rw on

  pub product_on : (x y : ℕ) → product m x y ≡ m.mul (code m x) (code m y)
  unfolding product
  product_on x y = rw on

module _ (m : RingModel) (on : m.order ≡ in_order) (laws : Laws m) where
  pub code_below : (x : ℕ) → x < m.size → code m x ≡ x
  unfolding code
  code_below x h = rw (size_on m on, lt-ltb x m.size h)

  pub code_lt : (x : ℕ) → code m x < m.size
  unfolding code
  code_lt x = let h = laws.one_code in let p : 0 < m.size = omega arith in rw (size_on m on) (cut_below m.size x (nat_lt x m.size) refl p)

  code_again : (x : ℕ) → code m (code m x) ≡ code m x
  code_again x = code_below _ (code_lt x)

  -- an operation that keeps to codes, at all numbers
  module _ (f : ℕ → ℕ → ℕ) (closed : (x y : ℕ) → x < m.size → y < m.size → f x y < m.size) where
    lifted_lt : (x y : ℕ) → f (code m x) (code m y) < m.size
    lifted_lt x y = closed _ _ (code_lt x) (code_lt y)

    lifted_code : (x y : ℕ) → code m (f (code m x) (code m y)) ≡ f (code m x) (code m y)
    lifted_code x y = code_below _ (lifted_lt x y)

    lifted_comm : ((x y : ℕ) → x < m.size → y < m.size → f x y ≡ f y x) → (x y : ℕ) → f (code m x) (code m y) ≡ f (code m y) (code m x)
    lifted_comm comm x y = comm _ _ (code_lt x) (code_lt y)

    lifted_assoc : ((x y z : ℕ) → x < m.size → y < m.size → z < m.size → f (f x y) z ≡ f x (f y z))
        → (x y z : ℕ) → f (code m (f (code m x) (code m y))) (code m z) ≡ f (code m x) (code m (f (code m y) (code m z)))
    lifted_assoc assoc x y z =
        ap (λ a. f a (code m z)) (lifted_code x y) ∙ assoc _ _ _ (code_lt x) (code_lt y) (code_lt z) ∙ ap (f (code m x)) (sym (lifted_code y z))

    lifted_neutral : (e : ℕ) → e < m.size → ((x : ℕ) → x < m.size → f e x ≡ x) → (x : ℕ) → f (code m e) (code m x) ≡ code m x
    lifted_neutral e h neutral x = ap (λ a. f a (code m x)) (code_below e h) ∙ neutral _ (code_lt x)

  pub on_total : Total m
  on_total =
      let sums = sum_on m on in
      let products = product_on m on in
      let opposites = opposite_on m on in
      let zero_code : 0 < m.size = laws.size_from in
      let opposite_code : (x : ℕ) → code m (m.neg (code m x)) ≡ m.neg (code m x) = λ x. code_below _ (laws.neg_code _ (code_lt x)) in
      record {
        code_zero = code_below 0 zero_code;
        code_code = code_again;
        code_one = rw (one_on m on) (code_below _ laws.one_code);
        code_sum = λ x y. simp sums (lifted_code m.add laws.add_code x y);
        code_opposite = λ x. simp opposites (opposite_code x);
        code_product = λ x y. simp products (lifted_code m.mul laws.mul_code x y);
        sum_code = λ x y. simp (sums, code_again);
        product_code = λ x y. simp (products, code_again);
        opposite_code = λ x. simp (opposites, code_again);
        sum_assoc = λ x y z. simp sums (lifted_assoc m.add laws.add_code laws.add_assoc x y z);
        sum_comm = λ x y. simp sums (lifted_comm m.add laws.add_code laws.add_comm x y);
        zero_sum = λ x. simp sums (lifted_neutral m.add laws.add_code 0 zero_code laws.zero_add x);
        opposite_sum = λ x. simp (sums, opposites, opposite_code) (laws.neg_add _ (code_lt x));
        product_assoc = λ x y z. simp products (lifted_assoc m.mul laws.mul_code laws.mul_assoc x y z);
        product_comm = λ x y. simp products (lifted_comm m.mul laws.mul_code laws.mul_comm x y);
        one_product = λ x. simp (products, one_on m on) (lifted_neutral m.mul laws.mul_code m.one laws.one_code laws.one_mul x);
        product_sum = λ x y z.
            simp (sums, products, lifted_code m.add laws.add_code, lifted_code m.mul laws.mul_code)
            (laws.mul_add _ _ _ (code_lt x) (code_lt y) (code_lt z));
      }

  pub size_pos : 0 < size_of m
  size_pos = let h = laws.one_code in let e = size_on m on in omega arith

  pub one_below : one_of m < size_of m
  one_below = rw (one_on m on, size_on m on) laws.one_code

  pub sum_below : (x y : ℕ) → sum m x y < size_of m
  sum_below x y = rw (size_on m on, sum_on m on) (lifted_lt m.add laws.add_code x y)

  pub opposite_below : (x : ℕ) → opposite m x < size_of m
  opposite_below x = rw (size_on m on, opposite_on m on) (laws.neg_code _ (code_lt x))

  pub product_below : (x y : ℕ) → product m x y < size_of m
  product_below x y = rw (size_on m on, product_on m on) (lifted_lt m.mul laws.mul_code x y)

  pub code_size : (x : ℕ) → code m x < size_of m
  code_size x = rw (size_on m on) (code_lt x)

  pub code_is : (x : ℕ) → x < size_of m → code m x ≡ x
  code_is x h = code_below x (rw (size_on m on) at h)

-- a ring that is not in order answers 0
module _ (m : RingModel) (f : RingFault) (off : m.order ≡ Err f) where
  pub size_off : size_of m ≡ 0
  unfolding size_of
  size_off = rw off

  pub code_off : (x : ℕ) → code m x ≡ 0
  unfolding code size_of
  code_off x = rw (off, le-ltb x 0 (omega arith))

  pub one_off : one_of m ≡ 0
  unfolding one_of
  one_off = rw off

  pub sum_off : (x y : ℕ) → sum m x y ≡ 0
  unfolding sum
  sum_off x y = rw off

  pub opposite_off : (x : ℕ) → opposite m x ≡ 0
  unfolding opposite
  opposite_off x = rw off

  pub product_off : (x y : ℕ) → product m x y ≡ 0
  unfolding product
  product_off x y = rw off

  pub off_total : Total m
  off_total = record {
    code_zero = code_off 0;
    code_code = λ x. simp code_off;
    code_one = simp (code_off, one_off);
    code_sum = λ x y. simp (code_off, sum_off);
    code_opposite = λ x. simp (code_off, opposite_off);
    code_product = λ x y. simp (code_off, product_off);
    sum_code = λ x y. simp sum_off;
    product_code = λ x y. simp product_off;
    opposite_code = λ x. simp opposite_off;
    sum_assoc = λ x y z. simp sum_off;
    sum_comm = λ x y. simp sum_off;
    zero_sum = λ x. simp (sum_off, code_off);
    opposite_sum = λ x. simp sum_off;
    product_assoc = λ x y z. simp product_off;
    product_comm = λ x y. simp product_off;
    one_product = λ x. simp (product_off, code_off);
    product_sum = λ x y z. simp (product_off, sum_off);
  }

either : (m : RingModel) → Lawful m → (o : Order) → m.order ≡ o → Total m
either m lawful (Ok u) e = on_total m e (lawful e)
either m lawful (Err f) e = off_total m f e

pub total : (m : RingModel) → Lawful m → Total m
total m lawful = either m lawful m.order refl
