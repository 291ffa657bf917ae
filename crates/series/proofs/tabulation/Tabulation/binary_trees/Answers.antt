use Rattle.std.proofs.Common.{◌≡◌, ℕ, ◌+◌, ◌<◌, List, [], ◌∷◌, ◌++◌, vec_items, sym, refl, ◌∙◌, subst, ap₂, arith}
use Rattle.rings.specs.Model.{RingModel, one_of}
use Rattle.series.specs.Weights.{Tabulates}
use Rattle.series.specs.Series.{weighted, times}
use Rattle.series.specs.Terms.{Enough, listed, standing}
use Rattle.series.specs.Trees.{IsTreeRow}
use Rattle.series.proofs.Places.{place_below}
use Rattle.series.proofs.Sums.{weighted_times}
use Rattle.series.proofs.Admission.{Admits, admits}
use Rattle.series.proofs.TreeRows.{tree_first, tree_more}
use Rattle.series.proofs.tabulation.Tabulation.binary_trees.Goals as goal

pub loop-n-init : goal.loop-n-init
loop-n-init g c =
    let m = g.R.Ring.meaning c.args.self.now.ring in
    let ok = admits m c.args.self.now.q c.args.self.now.length c.in_ok-weights.ensures.answer.0 in
    let new = c.in_ok-row.ensures in
    let items : vec_items c.push_reserved.new.self ≡ one_of m ∷ [] =
    c.push_reserved.ensures.items ∙ ap₂ (λ (xs : List ℕ) (x : ℕ). xs ++ x ∷ []) new.items c.one.ensures in (
      subst (IsTreeRow m c.args.self.now.q 1) (sym items) (tree_first m c.args.self.now.q (g.met.R.Ring.lawful c.args.self.now.ring) ok.on),
      (let e = c.push_reserved.ensures.capacity in let r = new.capacity in omega arith),
    )

-- the row and the weights reach as far as term n looks
enough : (m : RingModel) (q N n : ℕ) (cells row : List ℕ) → Admits m q N → Tabulates m q N cells → IsTreeRow m q (n + 1) row → n < N → Enough cells row row n
enough m q N n cells row ok t tree h =
    record {
      small = omega arith;
      first = let e = tree.count in omega arith;
      second = let e = tree.count in omega arith;
      weights = let e = t.count in let p = place_below n n N h (omega arith) in omega arith;
    }

pub loop-n-preserved : goal.loop-n-preserved
loop-n-preserved g c =
    let m = g.R.Ring.meaning c.args.self.now.ring in
    let q = c.args.self.now.q in
    let n = c.loop-n.n in
    let row = vec_items c.loop-n.row in
    let cells = vec_items c.in_ok-weights.weights in
    let made = c.in_ok-weights.ensures.answer in
    let ok = admits m q c.args.self.now.length made.0 in
    let tree = c.loop-n.invariant.0 in
    let inside : n < c.args.self.now.length = omega arith in
    let term : c.summed-term.result ≡ weighted m (standing cells) (listed row) (listed row) n =
    rw (c.deref.ensures.value, c.deref-in-loop-n.ensures.value, c.deref-in-loop-n-2.ensures.value) at c.summed-term.ensures in
    let is : c.summed-term.result ≡ times m q (listed row) (listed row) n =
    term ∙ weighted_times m q c.args.self.now.length cells row row n inside made.1 (enough m q c.args.self.now.length n cells row ok made.1 tree inside) (listed row) (listed row) (λ i h. refl) (λ i h. refl) in (
      subst (IsTreeRow m q (n + 1 + 1)) (sym c.push_reserved-in-loop-n.ensures.items) (tree_more m q (g.met.R.Ring.lawful c.args.self.now.ring) ok.on n row c.summed-term.result is tree),
      (let e = c.push_reserved-in-loop-n.ensures.capacity in let r = c.loop-n.invariant.1 in omega arith),
    )
