-- The relations of the grammar hold of exactly the tokens and trees of derivations.
use Rattle.std.proofs.Common.{◌≡◌, List, [], ◌∷◌, ◌++◌, refl, ap}
use Rattle.systems.specs.Trees as Trees
use Rattle.systems.specs.Trees.{Tree, Equation, System}
use Rattle.tokens.specs.declared.token.Group.TheVariants.{Round, Square}
use Rattle.tokens.specs.Kinds.{Kind, capital, equals, semicolon, plus, minus, star, opens, closes}
use Rattle.reader.specs.Grammar.{IsFactor, a_number, a_capital, a_small, in_round, in_square, IsTerm, one_factor, times, IsSum, one_term, added, subtracted, IsEquation, equation, AreEquations, no_more, one_more, IsSystem, one_or_more}
use Rattle.reader.proofs.Derivations.{Factor, f_number, f_capital, f_small, f_group, Term, t_one, t_times, Sum, s_one, s_plus, s_minus, Line, factor_tokens, term_tokens, sum_tokens, line_tokens, tokens_of, factor_tree, term_tree, sum_tree, line_equation, system_of}

-- ---- a derivation's tokens are related to its tree

mutual
  pub factor_is : (f : Factor) → IsFactor (factor_tokens f) (factor_tree f)
  factor_is (f_number ds) = a_number ds
  factor_is (f_capital a) = a_capital a
  factor_is (f_small x) = a_small x
  factor_is (f_group Round s) = in_round _ _ (sum_is s)
  factor_is (f_group Square s) = in_square _ _ (sum_is s)

  pub term_is : (t : Term) → IsTerm (term_tokens t) (term_tree t)
  term_is (t_one f) = one_factor _ _ (factor_is f)
  term_is (t_times t f) = times _ _ _ _ (term_is t) (factor_is f)

  pub sum_is : (s : Sum) → IsSum (sum_tokens s) (sum_tree s)
  sum_is (s_one t) = one_term _ _ (term_is t)
  sum_is (s_plus s t) = added _ _ _ _ (sum_is s) (term_is t)
  sum_is (s_minus s t) = subtracted _ _ _ _ (sum_is s) (term_is t)

line_is : (q : Line) → IsEquation (line_tokens q) (line_equation q)
line_is q = equation q.left _ _ (sum_is q.right)

pub lines_are : (qs : List Line) → AreEquations (tokens_of qs) (system_of qs)
lines_are [] = no_more
lines_are (q ∷ qs) = one_more _ _ _ _ (line_is q) (lines_are qs)

pub system_is : (q : Line) (qs : List Line) → IsSystem (tokens_of (q ∷ qs)) (system_of (q ∷ qs))
system_is q qs = one_or_more _ _ _ _ (line_is q) (lines_are qs)

-- ---- what is related has a derivation

mutual
  pub factor_from : {ts : List Kind} {x : Tree} → IsFactor ts x → (f : Factor) × (factor_tokens f ≡ ts) × (factor_tree f ≡ x)
  factor_from (a_number ds) = (f_number ds, refl, refl)
  factor_from (a_capital a) = (f_capital a, refl, refl)
  factor_from (a_small x) = (f_small x, refl, refl)
  factor_from (in_round ts x h) = let s = sum_from h in (f_group Round s.0, ap (λ l. opens Round ∷ (l ++ (closes Round ∷ []))) s.1, s.2)
  factor_from (in_square ts x h) = let s = sum_from h in (f_group Square s.0, ap (λ l. opens Square ∷ (l ++ (closes Square ∷ []))) s.1, ap Trees.bracket s.2)

  pub term_from : {ts : List Kind} {x : Tree} → IsTerm ts x → (t : Term) × (term_tokens t ≡ ts) × (term_tree t ≡ x)
  term_from (one_factor ts x h) = let f = factor_from h in (t_one f.0, f.1, f.2)
  term_from (times ts us x y h k) = let t = term_from h in let f = factor_from k in (t_times t.0 f.0, (λ i. t.1 i ++ (star ∷ f.1 i)), (λ i. Trees.product (t.2 i) (f.2 i)))

  pub sum_from : {ts : List Kind} {x : Tree} → IsSum ts x → (s : Sum) × (sum_tokens s ≡ ts) × (sum_tree s ≡ x)
  sum_from (one_term ts x h) = let t = term_from h in (s_one t.0, t.1, t.2)
  sum_from (added ts us x y h k) = let s = sum_from h in let t = term_from k in (s_plus s.0 t.0, (λ i. s.1 i ++ (plus ∷ t.1 i)), (λ i. Trees.sum (s.2 i) (t.2 i)))
  sum_from (subtracted ts us x y h k) = let s = sum_from h in let t = term_from k in (s_minus s.0 t.0, (λ i. s.1 i ++ (minus ∷ t.1 i)), (λ i. Trees.difference (s.2 i) (t.2 i)))

line_from : {ts : List Kind} {e : Equation} → IsEquation ts e → (q : Line) × (line_tokens q ≡ ts) × (line_equation q ≡ e)
line_from (equation a ts x h) =
    let s = sum_from h in
    (record { left = a; right = s.0 }, (λ i. capital a ∷ equals ∷ (s.1 i ++ (semicolon ∷ []))), (λ i. record { left = a; right = s.2 i }))

pub lines_from : {ts : List Kind} {S : System} → AreEquations ts S → (qs : List Line) × (tokens_of qs ≡ ts) × (system_of qs ≡ S)
lines_from no_more = ([], refl, refl)
lines_from (one_more ts us e S h k) = let q = line_from h in let qs = lines_from k in (q.0 ∷ qs.0, (λ i. q.1 i ++ qs.1 i), (λ i. q.2 i ∷ qs.2 i))

pub system_from : {ts : List Kind} {S : System} → IsSystem ts S → (q : Line) × (qs : List Line) × (tokens_of (q ∷ qs) ≡ ts) × (system_of (q ∷ qs) ≡ S)
system_from (one_or_more ts us e S h k) = let q = line_from h in let qs = lines_from k in (q.0, qs.0, (λ i. q.1 i ++ qs.1 i), (λ i. q.2 i ∷ qs.2 i))
