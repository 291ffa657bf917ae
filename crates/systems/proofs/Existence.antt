-- A solvable system has a solution: the right sides are evaluated again and again, from zeros on.
use Rattle.std.proofs.Common.{◌≡◌, ℕ, zero, suc, ◌+◌, ◌-◌, ◌*◌, ◌<◌, ◌≤◌, cond, eqb, [], ◌∷◌, ◌++◌, length, sym, refl, ap, ◌∙◌, subst, inl, inr, le_refl, mul-le-mul_right, suc-mul, suc-add, zero-add, arith}
use Rattle.std.proofs.lemmas.Bool.{eq-eqb, ne_eqb}
use Rattle.rings.specs.Model.{RingModel}
use Rattle.systems.specs.Families.{Family}
use Rattle.systems.specs.Trees.{Equation, System, UnknownOf}
use Rattle.systems.specs.Values.{value, Satisfies}
use Rattle.systems.specs.Solving.{Solvable, Stands}
use Rattle.systems.proofs.Standing.{is_equation, placed, found, moved_on, place_below, still_unknown}
use Rattle.systems.proofs.Causal.{near}

module _ (m : RingModel) (q : ℕ) (I : Family) where
  -- each right side evaluated once; a letter without an equation gets zeros
  unfoldable pub next : System → Family → Family
  next [] F a n = 0
  next (e ∷ S) F a n = cond (eqb a e.left) (value m q I F e.right n) (next S F a n)

  next_at : (before after : System) (e : Equation) (F : Family) (n : ℕ) → ¬ (UnknownOf e.left before)
      → next (before ++ (e ∷ after)) F e.left n ≡ value m q I F e.right n
  unfolding next
  next_at [] after e F n no_other = rw (eq-eqb e.left e.left refl)
  next_at (d ∷ before) after e F n no_other =
      rw (ne_eqb e.left d.left (λ p. no_other (inl p))) (next_at before after e F n (λ h. no_other (inr h)))

  unfoldable pub rounds : System → ℕ → Family
  rounds S zero a n = 0
  rounds S (suc k) a n = next S (rounds S k) a n

  module _ (S : System) (ok : Solvable S) where
    round_at : (k : ℕ) (before after : System) (e : Equation) (n : ℕ) → Stands before e after S
        → rounds S (suc k) e.left n ≡ value m q I (rounds S k) e.right n
    unfolding rounds
    round_at k before after e n p =
        ap (λ (X : System). next X (rounds S k) e.left n) p ∙ next_at before after e (rounds S k) n (ok.one_each before after e p)

    row : (i n : ℕ) → i < n → i * length S + length S ≤ n * length S
    row i n h = let w : suc i * length S ≤ n * length S = mul-le-mul_right (length S) h in rw (← suc-mul i (length S)) w

    row_le : (i n : ℕ) → i ≤ n → i * length S ≤ n * length S
    row_le i n h = mul-le-mul_right (length S) h

    -- term n of the equation behind j others stays the same from round n × E + j + 1 on, with E equations in all
    stable : (k : ℕ) (before after : System) (e : Equation) (n : ℕ) → Stands before e after S
        → n * length S + length before < k → rounds S (suc k) e.left n ≡ rounds S k e.left n
    stable zero before after e n p h = absurd (omega arith)
    stable (suc k) before after e n p h =
        round_at (suc k) before after e n p
        ∙ near m q I I (rounds S (suc k)) (rounds S k) e.right n (
          (λ a b i l.
              let w = found (λ d. a ≡ d.left) before (ok.earlier before after e p a b) in
              let s = place_below w.before w.after w.equation w.stands in
              let r = row_le i n l in
              subst (λ (c : ℕ). rounds S (suc k) c i ≡ rounds S k c i) (sym w.has)
              (stable k w.before _ w.equation i (moved_on before after e p w.before w.after w.equation w.stands) (omega arith))),
          (λ a b i l.
              let w = found (λ d. a ≡ d.left) S (ok.complete e (is_equation before after e p) a b) in
              let s = place_below w.before w.after w.equation w.stands in
              let r = row i n l in
              subst (λ (c : ℕ). rounds S (suc k) c i ≡ rounds S k c i) (sym w.has)
              (stable k w.before w.after w.equation i w.stands (omega arith))),
          (λ x b i l. refl),
        )
        ∙ sym (round_at k before after e n p)

    stays : (d k a n : ℕ) → UnknownOf a S → suc n * length S ≤ k → rounds S (d + k) a n ≡ rounds S k a n
    stays zero k a n u h = ap (λ (j : ℕ). rounds S j a n) (zero-add k)
    stays (suc d) k a n u h =
        let w = found (λ d. a ≡ d.left) S u in
        let s = place_below w.before w.after w.equation w.stands in
        let r = suc-mul n (length S) in
        ap (λ (j : ℕ). rounds S j a n) (suc-add d k)
        ∙ subst (λ (c : ℕ). rounds S (suc (d + k)) c n ≡ rounds S (d + k) c n) (sym w.has)
        (stable (d + k) w.before w.after w.equation n w.stands (omega arith))
        ∙ stays d k a n u h

    unfoldable pub solution : Family
    solution a n = rounds S (suc n * length S) a n

    late : (a i n : ℕ) → UnknownOf a S → i ≤ n → rounds S (suc n * length S) a i ≡ solution a i
    unfolding solution
    late a i n u h =
        let r : suc i * length S ≤ suc n * length S = row_le (suc i) (suc n) (omega arith) in
        let z : suc n * length S ≡ (suc n * length S - suc i * length S) + suc i * length S = omega arith in
        ap (λ (j : ℕ). rounds S j a i) z ∙ stays (suc n * length S - suc i * length S) (suc i * length S) a i u (le_refl _)

    pub solves : Satisfies m q S I solution
    unfolding solution
    solves e h n =
        let w = placed S e h in
        let s = place_below w.before w.after e w.stands in
        let r = suc-mul n (length S) in
        sym (stable (suc n * length S) w.before w.after e n w.stands (omega arith))
        ∙ round_at (suc n * length S) w.before w.after e n w.stands
        ∙ near m q I I (rounds S (suc n * length S)) solution e.right n (
          (λ a b i l. late a i n (still_unknown w.before w.after e w.stands a (ok.earlier w.before w.after e w.stands a b)) l),
          (λ a b i l. late a i n (ok.complete e h a b) (omega arith)),
          (λ x b i l. refl),
        )
