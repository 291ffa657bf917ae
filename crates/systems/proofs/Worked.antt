-- The examples, worked out.
use Rattle.std.proofs.Common.{◌≡◌, ℕ, zero, suc, ◌<◌, Bool, true, cond, ◌&&◌, eqb, leb, List, [], ◌∷◌, length, sym, refl, subst, inl, inr, arith}
use Rattle.std.proofs.Math.Decide.{dec_le}
use Rattle.std.proofs.lemmas.Bool.{and_parts, both_ways, eq-eqb, eqb-true, leb-true}
use Rattle.rings.specs.Model as Model
use Rattle.rings.specs.Model.{RingModel}
use Rattle.rings.specs.Modular.{residues}
use Rattle.rings.specs.Polynomials.{polynomials, product_modulo}
use Rattle.rings.specs.Duals.{dual}
use Rattle.series.specs.Weights.{weight}
use Rattle.series.specs.Series.{times, plus, bracket}
use Rattle.series.specs.Series as Series
use Rattle.systems.specs.Families.{Family}
use Rattle.systems.specs.Trees.{number, difference, Equation, System}
use Rattle.systems.specs.Rearranging.{
  less_is,
  less_itself,
  number_of_sum,
  sum_associates,
  sum_commutes,
  zero_and,
  Rearranged,
  by_rule,
  unchanged,
  backward,
  onward,
  in_sum,
  none,
  right_side,
}
use Rattle.systems.specs.Values.{value, HoldsAt, SatisfiesBelow}
use Rattle.systems.specs.Solutions.{A, B, E, T, equals}
use Rattle.systems.specs.Examples.{Question, question, answer, Answers, WorkedOut}
use Rattle.systems.specs.declared.examples.Example.{Example}
use Rattle.systems.specs.declared.examples.Example.TheVariants.{Catalan, Factorials, AtTwo, OverPolynomials, Marked, Tangents, Secants, Bell, Zeros, Copied}
use Rattle.systems.proofs.Scanned.{known, known_is, scan, solvable, tested}
use Rattle.systems.proofs.Solved.{rowed, row_is}

-- a test at the indices below k
abbrev below : (ℕ → Bool) → ℕ → Bool
below f zero = true
below f (suc k) = below f k && f k

at : (f : ℕ → Bool) (k i : ℕ) → below f k ≡ true → i < k → f i ≡ true
at f zero i h l = absurd (omega arith)
at f (suc k) i h l =
    let p : (below f k ≡ true) × (f k ≡ true) = and_parts _ _ h in
    elim (dec_le k i) [ yes le ↦ let e : k ≡ i = omega arith in subst (λ (j : ℕ). f j ≡ true) e p.1 | no gt ↦ at f k i p.0 (omega (arith, gt)) ]

-- whether every equation holds at the indices below N
abbrev equations : RingModel → ℕ → ℕ → Family → Family → System → Bool
equations m q N I F [] = true
equations m q N I F (e ∷ X) = below (λ i. eqb (F e.left i) (value m q I F e.right i)) N && equations m q N I F X

holding : (m : RingModel) (q N : ℕ) (I F : Family) (X : System) → equations m q N I F X ≡ true → SatisfiesBelow m q N X I F
holding m q N I F [] h e w i l = absurd w
holding m q N I F (d ∷ X) h e (inl p) i l =
    subst (λ (c : Equation). HoldsAt m q I F c i) (sym p) (eqb-true _ _ (at (λ j. eqb (F d.left j) (value m q I F d.right j)) N i (and_parts _ _ h).0 l))
holding m q N I F (d ∷ X) h e (inr w) i l = holding m q N I F X (and_parts _ _ h).1 e w i l

-- rows answer an example if the system meets the side conditions, each input was fed eight coefficients, the letter is an unknown, its
-- row has eight terms, and the equations hold below 8: all of it decided by computation
abbrev right : Question → (ℕ → List ℕ) → Bool
right p rows =
    scan (λ x. leb 8 (length (p.fed x))) p.system [] p.system
    && (known p.letter p.system && (eqb (length (rows p.letter)) 8 && equations p.ring p.base 8 (rowed p.fed) (rowed rows) p.system))

by_rows : (p : Question) (rows : ℕ → List ℕ) → right p rows ≡ true → Answers p (rows p.letter)
by_rows p rows h =
    let fed : ℕ → Bool = λ x. leb 8 (length (p.fed x)) in
    let first = and_parts _ _ h in
    let second = and_parts _ _ first.1 in
    let third = and_parts _ _ second.1 in
    row_is p.ring p.base 8 p.system p.fed rows p.letter (solvable fed p.system first.0) (known_is p.letter p.system second.0)
    (eqb-true _ 8 third.0) (λ x w. leb-true 8 _ (tested fed p.system first.0 x w))
    (holding p.ring p.base 8 (rowed p.fed) (rowed rows) p.system third.1)

-- the rows of systems with two unknowns
tangent_rows : ℕ → List ℕ
tangent_rows letter = cond (eqb letter T) (answer Tangents) (answer Secants)

partition_rows : ℕ → List ℕ
partition_rows letter = cond (eqb letter E) (1 ∷ 1 ∷ 1 ∷ 1 ∷ 1 ∷ 1 ∷ 1 ∷ 1 ∷ []) (answer Bell)

answered : (example : Example) → Answers (question example) (answer example)
unfolding tangent_rows partition_rows value times plus Series.number bracket weight residues polynomials product_modulo dual Model.size_of Model.one_of Model.code Model.sum Model.product
answered Catalan = by_rows (question Catalan) (λ _. answer Catalan) refl
answered Factorials = by_rows (question Factorials) (λ _. answer Factorials) refl
answered AtTwo = by_rows (question AtTwo) (λ _. answer AtTwo) refl
answered OverPolynomials = by_rows (question OverPolynomials) (λ _. answer OverPolynomials) refl
answered Marked = by_rows (question Marked) (λ _. answer Marked) refl
answered Tangents = by_rows (question Tangents) tangent_rows refl
answered Secants = by_rows (question Secants) tangent_rows refl
answered Bell = by_rows (question Bell) partition_rows refl
answered Zeros = by_rows (question Zeros) (λ _. answer Zeros) refl
answered Copied = by_rows (question Copied) (λ _. answer Copied) refl

-- 2 − 1 = 2 + (0 − 1) = (1 + 1) + (0 − 1) = 1 + (1 + (0 − 1)) = 1 + (1 − 1) = 1 + 0 = 0 + 1 = 1
two_less_one : Rearranged (difference (number 2) (number 1)) (number 1)
two_less_one =
    onward (by_rule (less_is _ _))
    (onward (in_sum (by_rule (number_of_sum 1 1)) (unchanged _))
    (onward (by_rule (sum_associates _ _ _))
    (onward (in_sum (unchanged _) (onward (backward (by_rule (less_is _ _))) (by_rule (less_itself _))))
    (onward (by_rule (sum_commutes _ _)) (by_rule (zero_and _))))))

pub worked_out : WorkedOut
worked_out = record {
  answers = answered;
  rearranged = right_side B (onward (by_rule (sum_commutes _ _)) (in_sum (unchanged _) (backward two_less_one))) none;
  by_itself = λ ok. ok.earlier [] _ _ refl A refl;
  too_early = λ ok. ok.earlier [] _ _ refl A refl;
  missing = λ ok. elim (ok.complete _ (inl refl) B refl) [ inl p ↦ both_ways (eqb B A) refl (eq-eqb B A p) | inr h ↦ h ];
  twice = λ ok. ok.one_each (equals A (number 1) ∷ []) _ _ refl (inl refl);
}
