-- Where the weights stand when they stand row after row.
use Rattle.std.proofs.Common.{◌≡◌, ℕ, zero, suc, ◌+◌, ◌-◌, ◌*◌, ◌/◌, ◌<◌, ◌≤◌, refl, ap, add-mul, one-mul, mul-one, mul-add, arith}
use Rattle.std.proofs.Math.Decide.{dec_le}
use Rattle.series.specs.Weights.{rows_before, place}

grown : (n x : ℕ) → x ≡ n + 1 → x * (x + 1) / 2 ≡ n * x / 2 + x
grown n x e =
    let p : x * x ≡ (n + 1) * x = ap (λ (y : ℕ). y * x) e in
    omega (arith, mul-add x x 1, mul-one x, add-mul n 1 x, one-mul x)

pub rows_more : (n : ℕ) → rows_before (n + 1) ≡ rows_before n + (n + 1)
rows_more n = grown n (n + 1) refl

pub rows_mono : (i n : ℕ) → i ≤ n → rows_before i ≤ rows_before n
rows_mono i zero h = let e : i ≡ 0 = omega arith in rw e (omega arith)
rows_mono i (suc n) h =
    elim (dec_le i n) [
      | yes l ↦ let below = rows_mono i n l in let more = rows_more n in let e : suc n ≡ n + 1 = omega arith in rw e (omega arith)
      | no l ↦ let e : i ≡ suc n = omega (arith, l) in rw e (omega arith)
    ]

-- a row has its places behind the rows before it
pub place_below : (i j n : ℕ) → i < n → j ≤ i → place i j < rows_before n
place_below i j n h l = omega (arith, rows_more i, rows_mono (i + 1) n (omega arith))

pub row_below : (i j n : ℕ) → place i j < rows_before n → i < n
row_below i j n h =
    elim (dec_le (suc i) n) [
      | yes l ↦ l
      | no l ↦ absurd (let p = rows_mono n i (omega (arith, l)) in omega arith)
    ]

-- no two weights have one place
pub same_place : (i j n k : ℕ) → j ≤ i → k ≤ n → place i j ≡ place n k → (i ≡ n) × (j ≡ k)
same_place i j n k hj hk e =
    elim (dec_le (suc i) n) [
      | yes l ↦ absurd (let p = place_below i j n l hj in omega arith)
      | no l ↦
          elim (dec_le (suc n) i) [
            | yes r ↦ absurd (let p = place_below n k i r hk in omega arith)
            | no r ↦ let same : i ≡ n = omega (arith, l, r) in (same, let p : rows_before i ≡ rows_before n = ap rows_before same in omega arith)
          ]
    ]

-- the row before row n is as long as n
pub row_above : (n : ℕ) → 0 < n → rows_before (n - 1) + n ≡ rows_before n
row_above n h = let e : n - 1 + 1 ≡ n = omega arith in let p : rows_before (n - 1 + 1) ≡ rows_before n = ap rows_before e in omega (arith, rows_more (n - 1))
