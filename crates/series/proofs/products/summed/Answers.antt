use Rattle.std.proofs.Common.{◌≡◌, ℕ, ◌+◌, ◌-◌, ◌<◌, Some, take, drop, length, get_or, ap, ◌∙◌, arith, rules}
use Rattle.std.specs.Option.{option_map}
use Rattle.std.specs.List.{fold}
use Rattle.std.proofs.lemmas.Grind.{common_steps}
use Rattle.std.proofs.lemmas.List.{get_or-drop, get_or-take, length-take-le}
use Rattle.rings.specs.Model.{sum, product}
use Rattle.rings.specs.Lemmas.Total.{total}
use Rattle.series.specs.Series.{pair, weighted}
use Rattle.series.specs.Terms.{listed, standing}
use Rattle.series.proofs.Folds.{times_three, folded}
use Rattle.series.proofs.Sums.{sum_of, sum_all}
use Rattle.series.proofs.products.summed.Goals as goal

-- the k-th item of the chain has the k-th weight of row n, a_k and b_(n−k)
pub returns : goal.returns
unfolding weighted
returns g c =
    let m = g.R.Ring.meaning c.args.ring.now in
    let n = c.args.n in
    let p = c.fold.ensures.runs.0 in
    let long : p.len ≡ n + 1 = grind (arith, common_steps) in
    let weighed : (k : ℕ) → k < n + 1 → option_map (λ x. x.0.0.now) (p.at k) ≡ Some (get_or (drop c.rows_before.result c.args.weights.now) k 0) = λ k h. grind (arith, common_steps) in
    let firsts : (k : ℕ) → k < n + 1 → option_map (λ x. x.0.1.now) (p.at k) ≡ Some (get_or c.args.a.now k 0) = λ k h. grind (arith, common_steps) in
    let seconds : (k : ℕ) → k < n + 1 → option_map (λ x. x.1.now) (p.at k) ≡ Some (get_or (take (n + 1) c.args.b.now) (length (take (n + 1) c.args.b.now) - 1 - k) 0) =
    λ k h. let some = firsts k h in grind (arith, common_steps) in
    let chain : c.fold.result ≡ fold (λ s x. sum m s (product m (product m x.0.0.now x.0.1.now) x.1.now)) 0 p.items = c.fold.ensures.runs.3 _ (λ s x r f k. search rules) in
    let cells = c.args.weights.now in
    let a = listed c.args.a.now in
    let b = listed c.args.b.now in
    let paired : ℕ → ℕ = pair m (standing cells) a b n in
    let at_row : (k : ℕ) → get_or (drop c.rows_before.result cells) k 0 ≡ standing cells n k =
    λ k. get_or-drop c.rows_before.result cells k 0 ∙ ap (λ (i : ℕ). get_or cells (i + k) 0) c.rows_before.ensures in
    let from_end : (k : ℕ) → k < n + 1 → get_or (take (n + 1) c.args.b.now) (length (take (n + 1) c.args.b.now) - 1 - k) 0 ≡ b (n - k) =
    λ k h. ap (λ (i : ℕ). get_or (take (n + 1) c.args.b.now) i 0) {y = n - k} (let e = length-take-le (n + 1) c.args.b.now (omega arith) in omega arith) ∙ get_or-take (n + 1) c.args.b.now (n - k) 0 (omega arith) in
    let gives : (k : ℕ) → k < n + 1 → option_map (λ x. product m (product m x.0.0.now x.0.1.now) x.1.now) (p.at k) ≡ Some (paired k) =
    λ k h. times_three m (λ x. x.0.0.now) (λ x. x.0.1.now) (λ x. x.1.now) (p.at k) (standing cells n k) (a k) (b (n - k)) (weighed k h ∙ ap Some (at_row k)) (firsts k h) (seconds k h ∙ ap Some (from_end k h)) in
    let t = total m (g.met.R.Ring.lawful c.args.ring.now) in
    chain ∙ folded m (λ x. product m (product m x.0.0.now x.0.1.now) x.1.now) paired p.items p.at (λ k d h. p.reads k d (omega (arith, p.long))) (λ k h. gives k (omega (arith, p.long)))
    ∙ ap (λ (k : ℕ). sum_of m k paired) (omega (arith, p.long)) ∙ sum_all m t n paired (λ k. t.code_product _ _)
