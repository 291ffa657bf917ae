-- The theorems over every lawful ring.
use Rattle.std.proofs.Common.{◌≡◌, ℕ, zero, suc, ◌<◌, sym, ap, ◌∙◌, subst, ap₂}
use Rattle.std.proofs.Math.Path.{fun_ext}
use Rattle.rings.specs.Model.{RingModel, Lawful, in_order, code, size_of, one_of, sum, opposite, product}
use Rattle.rings.specs.Total.{Total}
use Rattle.rings.specs.Lemmas.Total.{total, code_is, code_size}
use Rattle.series.specs.Weights.{power, weight}
use Rattle.series.specs.Series.{Series, plus, minus}
use Rattle.series.proofs.Sums.{times_code}
use Rattle.systems.specs.Families.{Family, IsSeries, IsFamily}
use Rattle.systems.specs.Trees.{Tree, System, UnknownOf}
use Rattle.systems.specs.Values.{value, SatisfiesBelow}
use Rattle.systems.specs.SeriesRing.{SeriesRings}
use Rattle.systems.specs.Solving.{Solvable, InputsAre, OneSolution}
use Rattle.systems.specs.Rearranging.{SameSolutions}
use Rattle.systems.specs.Carrying.{Carries, through, CarriesTables, CarriesAll, Transfers}
use Rattle.systems.proofs.RingRules.{sum_code_right, product_code_right, sum_opposite, only_opposite, power_code}
use Rattle.systems.proofs.WeightLaws.{weight_code}
use Rattle.systems.proofs.SeriesLaws as Laws
use Rattle.systems.proofs.Maps.{Hom, to_weight}
use Rattle.systems.proofs.Unique.{unique}
use Rattle.systems.proofs.Existence.{solution, solves}
use Rattle.systems.proofs.Sound.{back, value_code, sound, sound_system}
use Rattle.systems.proofs.Carried.{to_value_at, to_equation, carried, same_unknowns}

-- to read a number as a code carries the operations of a ring to themselves
module _ {m : RingModel} (t : Total m) (q : ℕ) where
  coding : Hom m m (code m) q q
  coding = record {
    to_zero = t.code_zero;
    to_one = t.code_one;
    to_sum = λ x y. t.code_sum x y ∙ sym (t.sum_code x (code m y) ∙ sum_code_right t x y);
    to_opposite = λ x. t.code_opposite x ∙ sym (t.opposite_code x);
    to_product = λ x y. t.code_product x y ∙ sym (t.product_code x (code m y) ∙ product_code_right t x y);
    to_power = power_code t q;
  }

module _ (m : RingModel) (lawful : Lawful m) (on : m.order ≡ in_order) where
  is_code : (x : ℕ) → x < size_of m → code m x ≡ x
  is_code = code_is m on (lawful on)

  is_below : (x : ℕ) → code m x ≡ x → x < size_of m
  is_below x e = subst (λ (y : ℕ). y < size_of m) e (code_size m on (lawful on) x)

  -- the coefficients of a solution, read as codes, are its coefficients
  solution_code : (q : ℕ) (S : System) → Solvable S → (n : ℕ) (I F : Family) → SatisfiesBelow m q n S I F → InputsAre m S n I
      → (a : ℕ) → UnknownOf a S → (i : ℕ) → i < n → code m (F a i) ≡ F a i
  solution_code q S ok n I F f c =
      unique m q S ok n (through (code m) I) I (through (code m) F) F (λ e u i l. to_equation (coding (total m lawful) q) I F e i (f e u i l)) f
      (λ x w i l. is_code (I x i) (c x w i l))

pub series_rings : (m : RingModel) → Lawful m → SeriesRings m
unfolding plus minus
series_rings m lawful on q =
    let t = total m lawful in
    let below : (x : ℕ) → code m x ≡ x → x < size_of m = is_below m lawful on in
    let same : (A : Series) → IsSeries m A → (n : ℕ) → code m (A n) ≡ A n = λ A h n. is_code m lawful on (A n) (h n) in
    record {
      plus_is = λ A B n. below _ (t.code_sum _ _);
      minus_is = λ A B n. below _ (t.code_sum _ _);
      times_is = λ A B n. below _ (times_code m t q A B n);
      number_is = λ k n. below _ (Laws.number_code t k n);
      bracket_is = λ A h n. below _ (Laws.bracket_code t A (same A h) n);
      plus_assoc = λ A B C. fun_ext (Laws.plus_assoc t A B C);
      plus_comm = λ A B. fun_ext (Laws.plus_comm t A B);
      zero_plus = λ A h. fun_ext (λ n. Laws.zero_plus t A n ∙ same A h n);
      opposite_plus = λ A. fun_ext (λ n. sym (Laws.minus_plus t A A n) ∙ Laws.minus_self t A n);
      minus_plus = λ A B. fun_ext (Laws.minus_plus t A B);
      times_assoc = λ A B C. fun_ext (Laws.times_assoc t q A B C);
      times_comm = λ A B. fun_ext (Laws.times_comm t q A B);
      one_times = λ A h. fun_ext (λ n. Laws.one_times t q A n ∙ same A h n);
      times_plus = λ A B C. fun_ext (Laws.times_plus t q A B C);
      number_plus = λ j k. fun_ext (Laws.number_plus t j k);
      number_times = λ j k. fun_ext (Laws.number_times t q j k);
      bracket_plus = λ A B. fun_ext (Laws.bracket_plus t A B);
      bracket_zero = fun_ext (Laws.bracket_zero t);
    }

pub one_solution : (m : RingModel) → Lawful m → OneSolution m
one_solution m lawful = record {
  exists = λ q S ok I. (solution m q I S ok, solves m q I S ok);
  only = λ q S ok n I J F G f g. unique m q S ok n I J F G f g;
  elements = λ on q S ok n I F f c a u i l. is_below m lawful on (F a i) (solution_code m lawful on q S ok n I F f c a u i l);
}

pub same_solutions : (m : RingModel) → Lawful m → SameSolutions m
same_solutions m lawful =
    let t = total m lawful in
    let codes : m.order ≡ in_order → (F : Family) → IsFamily m F → (a n : ℕ) → code m (F a n) ≡ F a n = λ on F h a n. is_code m lawful on (F a n) (h a n) in
    record {
      values = λ on q I F f g r s w. sound t q I F (codes on I f) (codes on F g) w;
      solutions = λ on q I F f g S T w. (
        (λ h e u n. sound_system t q I F (codes on I f) (codes on F g) w n (λ d k. h d k n) e u),
        (λ h e u n. sound_system t q I F (codes on I f) (codes on F g) (back w) n (λ d k. h d k n) e u),
      );
    }

module _ (a b : RingModel) (la : Lawful a) (lb : Lawful b) (oa : a.order ≡ in_order) (ob : b.order ≡ in_order)
    (map : ℕ → ℕ) (p q : ℕ) (c : Carries a b map p q) where
  -- the map at all numbers
  mapped : ℕ → ℕ
  mapped x = map (code a x)

  below : (x : ℕ) → code a x < size_of a
  below x = code_size a oa (la oa) x

  mapped_is : (x : ℕ) → x < size_of a → mapped x ≡ map x
  unfolding mapped
  mapped_is x h = ap map (is_code a la oa x h)

  mapped_code : (x : ℕ) → code b (mapped x) ≡ mapped x
  unfolding mapped
  mapped_code x = is_code b lb ob (map (code a x)) (c.to_codes (code a x) (below x))

  mapped_zero : mapped 0 ≡ 0
  unfolding mapped
  mapped_zero = ap map (total a la).code_zero ∙ c.to_zero

  mapped_one : mapped (one_of a) ≡ one_of b
  unfolding mapped
  mapped_one = ap map (total a la).code_one ∙ c.to_one

  mapped_sum : (x y : ℕ) → mapped (sum a x y) ≡ sum b (mapped x) (mapped y)
  unfolding mapped
  mapped_sum x y = ap map ((coding (total a la) p).to_sum x y) ∙ c.to_sums (code a x) (code a y) (below x) (below y)

  mapped_product : (x y : ℕ) → mapped (product a x y) ≡ product b (mapped x) (mapped y)
  unfolding mapped
  mapped_product x y = ap map ((coding (total a la) p).to_product x y) ∙ c.to_products (code a x) (code a y) (below x) (below y)

  mapped_opposite : (x : ℕ) → mapped (opposite a x) ≡ opposite b (mapped x)
  mapped_opposite x =
      sym (mapped_code (opposite a x))
      ∙ only_opposite (total b lb) (mapped x) (mapped (opposite a x))
      (sym (mapped_sum x (opposite a x)) ∙ ap mapped (sum_opposite (total a la) x) ∙ mapped_zero)

  mapped_power : (k : ℕ) → mapped (power a p k) ≡ power b q k
  unfolding power
  mapped_power zero = mapped_one
  mapped_power (suc k) = mapped_product p (power a p k) ∙ ap₂ (product b) (mapped_is p c.base ∙ c.to_base) (mapped_power k)

  mapped_hom : Hom a b mapped p q
  mapped_hom = record {
    to_zero = mapped_zero;
    to_one = mapped_one;
    to_sum = mapped_sum;
    to_opposite = mapped_opposite;
    to_product = mapped_product;
    to_power = mapped_power;
  }

  -- on families of elements the map and the map at all numbers are the same
  mapped_family : (F : Family) → IsFamily a F → through mapped F ≡ through map F
  mapped_family F h = fun_ext (λ u. fun_ext (λ n. mapped_is (F u n) (h u n)))

  carries_value : (I F : Family) → IsFamily a I → IsFamily a F → (t : Tree) (n : ℕ)
      → map (value a p I F t n) ≡ value b q (through map I) (through map F) t n
  carries_value I F f g t n =
      let same : code a (value a p I F t n) ≡ value a p I F t n =
      value_code (total a la) p I F (λ x i. is_code a la oa (I x i) (f x i)) (λ u i. is_code a la oa (F u i) (g u i)) t n in
      sym (mapped_is (value a p I F t n) (is_below a la oa _ same)) ∙ to_value_at mapped_hom I F t n
      ∙ ap₂ (λ (J G : Family). value b q J G t n) (mapped_family I f) (mapped_family F g)

  carries_tables : CarriesTables a b map p q
  carries_tables S T s t r n I J F G f g ci cj shared u k i l =
      sym (mapped_is (F u i) (is_below a la oa (F u i) (solution_code a la oa p S s n I F f ci u k i l)))
      ∙ carried (total b lb) mapped_hom mapped_code S T t r n I F J G f g
      (λ x w j m. is_code b lb ob (J x j) (cj x w j m))
      (λ x v w j m. mapped_is (I x j) (ci x v j m) ∙ shared x v w j m)
      u (same_unknowns r u k) i l

  carries_all : CarriesAll a b map p q
  carries_all = record {
    weights = λ n k le. sym (mapped_is (weight a p n k) (is_below a la oa _ (weight_code (total a la) p n k))) ∙ to_weight mapped_hom n k;
    values = carries_value;
    solutions = λ S I F f g h e u n. ap map (h e u n) ∙ carries_value I F f g e.right n;
    tables = carries_tables;
  }

pub transfers : (a b : RingModel) → Lawful a → Lawful b → Transfers a b
transfers = carries_all
