-- Sums of elements, and what a term of a product looks at.
use Rattle.std.proofs.Common.{◌≡◌, ℕ, zero, suc, ◌+◌, ◌-◌, ◌<◌, ◌≤◌, List, sym, refl, ap, ◌∙◌, ap₂, add-one, arith}
use Rattle.rings.specs.Model.{RingModel, code, sum, product}
use Rattle.rings.specs.Total.{Total}
use Rattle.series.specs.Weights.{weight, Tabulates}
use Rattle.series.specs.Series.{Series, sum_to, weighted, times}
use Rattle.series.specs.Terms.{listed, Begins, standing, Enough}

-- the sum of the first k terms, as a loop makes it from 0
unfoldable pub sum_of : RingModel → ℕ → (ℕ → ℕ) → ℕ
sum_of m zero g = 0
sum_of m (suc k) g = sum m (sum_of m k g) (g k)

sum_suc : (m : RingModel) → Total m → (n : ℕ) (g : ℕ → ℕ) → ((k : ℕ) → code m (g k) ≡ g k) → sum_of m (suc n) g ≡ sum_to m n g
unfolding sum_of sum_to
sum_suc m t zero g h = t.zero_sum (g 0) ∙ h 0
sum_suc m t (suc n) g h = ap (λ (x : ℕ). sum m x (g (suc n))) (sum_suc m t n g h)

-- the loop's sum from 0 to n is the sum of the elements
pub sum_all : (m : RingModel) → Total m → (n : ℕ) (g : ℕ → ℕ) → ((k : ℕ) → code m (g k) ≡ g k) → sum_of m (n + 1) g ≡ sum_to m n g
sum_all m t n g h = rw add-one (sum_suc m t n g h)

-- a sum of elements is an element
pub sum_code : (m : RingModel) → Total m → (n : ℕ) (g : ℕ → ℕ) → ((k : ℕ) → code m (g k) ≡ g k) → code m (sum_to m n g) ≡ sum_to m n g
unfolding sum_to
sum_code m t zero g h = h 0
sum_code m t (suc n) g h = t.code_sum _ _

pub sum_cong : (m : RingModel) (n : ℕ) (g h : ℕ → ℕ) → ((k : ℕ) → k ≤ n → g k ≡ h k) → sum_to m n g ≡ sum_to m n h
unfolding sum_to
sum_cong m zero g h e = e 0 (omega arith)
sum_cong m (suc n) g h e = ap₂ (sum m) (sum_cong m n g h (λ k le. e k (omega arith))) (e (suc n) (omega arith))

-- term n of a product looks at row n of the weights, and at the terms up to n
pub weighted_cong : (m : RingModel) (V W : ℕ → ℕ → ℕ) (A A' B B' : Series) (n : ℕ) → ((k : ℕ) → k ≤ n → V n k ≡ W n k)
    → ((i : ℕ) → i ≤ n → A i ≡ A' i) → ((i : ℕ) → i ≤ n → B i ≡ B' i) → weighted m V A B n ≡ weighted m W A' B' n
unfolding weighted
weighted_cong m V W A A' B B' n w a b =
    sum_cong m n _ _ (λ k le. ap₂ (product m) (ap₂ (product m) (w k le) (a k le)) (b (n - k) (omega arith)))

pub times_cong : (m : RingModel) (q : ℕ) (A A' B B' : Series) (n : ℕ) → ((i : ℕ) → i ≤ n → A i ≡ A' i) → ((i : ℕ) → i ≤ n → B i ≡ B' i) → times m q A B n ≡ times m q A' B' n
unfolding times
times_cong m q A A' B B' n = weighted_cong m (weight m q) (weight m q) A A' B B' n (λ k le. refl)

-- a term of a product is an element
pub times_code : (m : RingModel) → Total m → (q : ℕ) (A B : Series) (n : ℕ) → code m (times m q A B n) ≡ times m q A B n
unfolding times weighted
times_code m t q A B n = sum_code m t n _ (λ k. t.code_product _ _)

-- with the weights of q in the cells it is a term of the product at q
pub weighted_times : (m : RingModel) (q N : ℕ) (cells a b : List ℕ) (n : ℕ) → n < N → Tabulates m q N cells → Enough cells a b n
    → (A B : Series) → Begins a A → Begins b B
    → weighted m (standing cells) (listed a) (listed b) n ≡ times m q A B n
unfolding times
weighted_times m q N cells a b n h t enough A B p r =
    weighted_cong m (standing cells) (weight m q) (listed a) A (listed b) B n
    (λ k le. t.cell n k h le)
    (λ i le. sym (p i (let s = enough.first in omega arith)))
    (λ i le. sym (r i (let s = enough.second in omega arith)))
