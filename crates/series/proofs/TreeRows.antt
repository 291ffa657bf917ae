-- Rows that satisfy B = 1 + [B × B], term after term.
use Rattle.std.proofs.Common.{◌≡◌, ℕ, zero, suc, ◌+◌, ◌<◌, ◌≤◌, List, [], ◌∷◌, ◌++◌, sym, refl, ap, ◌∙◌, subst, arith}
use Rattle.std.proofs.Math.Decide.{dec_le}
use Rattle.std.proofs.lemmas.List.{get_or_append_left, get_or_push, length_push}
use Rattle.rings.specs.Model.{RingModel, Lawful, in_order, code, size_of, one_of}
use Rattle.rings.specs.Total.{Total}
use Rattle.rings.specs.Lemmas.Total.{total, one_below, code_size}
use Rattle.rings.specs.Lemmas.Rules.{sum_zero}
use Rattle.series.specs.Series.{Series, times, plus, ones, number, bracket}
use Rattle.series.specs.Terms.{listed}
use Rattle.series.specs.Trees.{HoldsAt, IsTreeRow}
use Rattle.series.proofs.Sums.{times_cong, times_code}

module _ (m : RingModel) (q : ℕ) where
  module _ (t : Total m) where
    -- the right side at index 0, and at a later one
    right_first : (A : Series) → plus m (number m 1) (bracket A) 0 ≡ one_of m
    unfolding plus number bracket ones
    right_first A = sum_zero t _ ∙ ap (code m) (sum_zero t (one_of m) ∙ t.code_one) ∙ t.code_one

    right_later : (A : Series) (n : ℕ) → plus m (number m 1) (bracket A) (suc n) ≡ code m (A n)
    unfolding plus number bracket
    right_later A n = t.zero_sum (A n)

    -- the equation at an index needs no later terms
    holds_same : (A B : Series) (n : ℕ) → ((i : ℕ) → i ≤ n → A i ≡ B i) → HoldsAt m q A n → HoldsAt m q B n
    holds_same A B zero h e = sym (h 0 (omega arith)) ∙ e ∙ right_first (times m q A A) ∙ sym (right_first (times m q B B))
    holds_same A B (suc n) h e =
        sym (h (suc n) (omega arith)) ∙ e ∙ right_later (times m q A A) n
        ∙ ap (code m) (times_cong m q A B A B n (λ i le. h i (omega arith)) (λ i le. h i (omega arith))) ∙ sym (right_later (times m q B B) n)

  module _ (lawful : Lawful m) (on : m.order ≡ in_order) where
    -- B_0 = 1
    pub tree_first : IsTreeRow m q (0 + 1) (one_of m ∷ [])
    tree_first = record {
      count = refl;
      codes = λ n h. let e : n ≡ 0 = omega arith in rw e (one_below m on (lawful on));
      holds = λ n h. let e : n ≡ 0 = omega arith in rw e (sym (right_first (total m lawful) _));
    }

    -- B_(n+1) is term n of B × B
    pub tree_more : (n : ℕ) (row : List ℕ) (b : ℕ) → b ≡ times m q (listed row) (listed row) n → IsTreeRow m q (n + 1) row → IsTreeRow m q (n + 1 + 1) (row ++ b ∷ [])
    tree_more n row b is tree =
        let t = total m lawful in
        let old : (i : ℕ) → i ≤ n → listed row i ≡ listed (row ++ b ∷ []) i =
        λ i le. sym (get_or_append_left row (b ∷ []) 0 i (let e = tree.count in omega arith)) in
        let new : listed (row ++ b ∷ []) (n + 1) ≡ b = get_or_push row b 0 (n + 1) tree.count in
        let coded : code m b ≡ b = subst (λ (x : ℕ). code m x ≡ x) (sym is) (times_code m t q (listed row) (listed row) n) in
        record {
          count = length_push row b ∙ ap (λ (x : ℕ). x + 1) tree.count;
          codes = λ i h.
              elim (dec_le i n) [
                | yes le ↦ subst (λ (x : ℕ). x < size_of m) (old i le) (tree.codes i (omega arith))
                | no gt ↦
                    let e : i ≡ n + 1 = omega (arith, gt) in
                    rw e (subst (λ (x : ℕ). x < size_of m) (coded ∙ sym new) (code_size m on (lawful on) b))
              ];
          holds = λ i h.
              elim (dec_le i n) [
                | yes le ↦ holds_same t (listed row) (listed (row ++ b ∷ [])) i (λ j l. old j (omega arith)) (tree.holds i (omega arith))
                | no gt ↦
                    let e : i ≡ suc n = omega (arith, gt) in
                    let s : n + 1 ≡ suc n = omega arith in
                    rw e (ap (listed (row ++ b ∷ [])) (sym s) ∙ new ∙ is ∙ times_cong m q (listed row) (listed (row ++ b ∷ [])) (listed row) (listed (row ++ b ∷ [])) n old old
                    ∙ sym (right_later t (times m q (listed (row ++ b ∷ [])) (listed (row ++ b ∷ []))) n ∙ times_code m t q _ _ n))
              ];
        }
