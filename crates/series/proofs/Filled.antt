-- Tables of weights while they are filled, cell after cell.
use Rattle.std.proofs.Common.{◌≡◌, ℕ, suc, ◌+◌, ◌<◌, ◌≤◌, List, [], ◌∷◌, ◌++◌, length, get_or, sym, ◌∙◌, ap₂, arith}
use Rattle.std.proofs.Math.Decide.{dec_le}
use Rattle.std.proofs.lemmas.List.{get_or_append_left, get_or_push, length_push}
use Rattle.rings.specs.Model.{RingModel}
use Rattle.series.specs.Weights.{weight, place, Tabulates}
use Rattle.series.proofs.Places.{rows_more, place_below, row_below, same_place}

-- each place that there is has its weight
abbrev pub Filled : RingModel → ℕ → List ℕ → Type 0
Filled m q cells = (i j : ℕ) → j ≤ i → place i j < length cells → get_or cells (place i j) 0 ≡ weight m q i j

module _ (m : RingModel) (q : ℕ) where
  pub filled_rows : (n : ℕ) (cells : List ℕ) → Tabulates m q n cells → Filled m q cells
  filled_rows n cells t i j h l = t.cell i j (row_below i j n (let e = t.count in omega arith)) h

  -- one weight more
  pub filled_push : (n k : ℕ) (cells : List ℕ) (w : ℕ) → length cells ≡ place n k → k ≤ n → w ≡ weight m q n k → Filled m q cells → Filled m q (cells ++ w ∷ [])
  filled_push n k cells w e h is filled i j l b =
      elim (dec_le (suc (place i j)) (length cells)) [
        | yes old ↦ get_or_append_left cells (w ∷ []) 0 (place i j) old ∙ filled i j l old
        | no new ↦
            let at : place i j ≡ place n k = let p = length_push cells w in omega (arith, new) in
            let same = same_place i j n k l h at in
            get_or_push cells w 0 (place i j) (e ∙ sym at) ∙ is ∙ ap₂ (weight m q) (sym same.0) (sym same.1)
      ]

  pub rows_filled : (n : ℕ) (cells : List ℕ) → length cells ≡ place n (n + 1) → Filled m q cells → Tabulates m q (n + 1) cells
  rows_filled n cells e filled =
      let more = rows_more n in
      record {
        count = omega arith;
        cell = λ i j h l. filled i j l (let p = place_below i j (n + 1) h l in omega arith);
      }
