use Rattle.std.proofs.Common.{◌≡◌, ℕ, ◌-◌, ◌<◌, ◌≤◌, length, get_or, vec_items, vec_len, sym, ap, ◌∙◌, subst, ap₂, ⊎_elim, add-one, arith}
use Rattle.std.proofs.Math.Decide.{dec_le}
use Rattle.std.proofs.lemmas.List.{get_or_read}
use Rattle.rings.specs.Model.{sum, product}
use Rattle.series.specs.Weights.{power, place, weight, rows_before}
use Rattle.series.proofs.Places.{row_above, place_below}
use Rattle.series.proofs.Rule.{weight_rule}
use Rattle.series.proofs.Filled.{Filled, filled_push}
use Rattle.series.proofs.tabulation.Tabulation.push_row.Goals as goal
use Rattle.series.proofs.tabulation.Tabulation.push_row.Goals.{then-k-n, else-k-n}

-- row n stands behind a row as long as n
above_fits : (n : ℕ) → n ≤ rows_before n
above_fits n = elim (dec_le n 0) [ yes h ↦ omega arith | no h ↦ let p = row_above n (omega (arith, h)) in omega arith ]

pub loop-k-preserved : goal.loop-k-preserved
unfolding power
loop-k-preserved g c =
    let m = g.R.Ring.meaning c.args.self.now.ring in
    let q = c.args.self.now.q in
    let n = c.args.n in
    let k = c.loop-k.k in
    let cells = vec_items c.loop-k.cells in
    let rule = weight_rule m q in
    let len : length cells ≡ place n k = sym c.loop-k.cells.ok.0 ∙ c.loop-k.invariant.0 in
    let before : vec_len c.args.cells.now ≡ rows_before n = c.args.cells.now.ok.0 ∙ c.requires.rows.count in
    let is : c.if-k-n.weight ≡ weight m q n k =
    elim c.if-k-n.branch [
      | then-k-n w ↦ w.weight-is ∙ w.one-weight.ensures ∙ sym (⊎_elim (λ (e : k ≡ 0). ap (weight m q n) e ∙ rule.first n) (λ e. ap (weight m q n) e.1 ∙ rule.last n) w.if-k-n.either)
      | else-k-n w ↦
          let inside : (0 < k) × (k < n) = (omega (arith, w.if-k-n.false.0), omega (arith, w.if-k-n.false.1)) in
          let above = row_above n (omega arith) in
          let held : (j : ℕ) → j ≤ n - 1 → get_or cells (place (n - 1) j) 0 ≡ weight m q (n - 1) j =
          λ j h. c.loop-k.invariant.1 (n - 1) j h (let p = place_below (n - 1) j n (omega arith) h in omega arith) in
          let left : w.index.result.now ≡ weight m q (n - 1) (k - 1) =
          get_or_read cells _ _ (omega arith) w.index.ensures 0 ∙ ap (λ (i : ℕ). get_or cells i 0) {y = place (n - 1) (k - 1)} (omega arith) ∙ held (k - 1) (omega arith) in
          let right : w.index-else-k-n.result.now ≡ weight m q (n - 1) k =
          get_or_read cells _ _ (omega arith) w.index-else-k-n.ensures 0 ∙ ap (λ (i : ℕ). get_or cells i 0) {y = place (n - 1) k} (omega arith) ∙ held k (omega arith) in
          w.weight-is ∙ w.add-weight.ensures ∙ ap₂ (sum m) left (w.mul.ensures ∙ ap₂ (product m) c.loop-k.invariant.2 right) ∙ sym (rule.inner n k inside.0 inside.1)
    ] in
    let filled = filled_push m q n k cells c.if-k-n.weight len (omega arith) is c.loop-k.invariant.1 in (
      c.push_reserved.ensures.len ∙ (let e = c.loop-k.invariant.0 in omega arith),
      subst (Filled m q) (sym c.push_reserved.ensures.items) filled,
      c.mul-power.ensures ∙ ap (product m q) c.loop-k.invariant.2 ∙ ap (power m q) (sym (add-one k)),
      c.push_reserved.ensures.capacity ∙ c.loop-k.invariant.3,
    )
