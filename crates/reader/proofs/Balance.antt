-- In a finished part of a right side every group that is opened is closed.
use Rattle.std.proofs.Common.{◌≡◌, List, [], ◌∷◌, ◌++◌, refl, arith}
use Rattle.tokens.specs.declared.token.Group.{Group}
use Rattle.tokens.specs.declared.token.Group.TheVariants.{Round, Square}
use Rattle.tokens.specs.Kinds.{Kind, plus, minus, star, opens, closes}
use Rattle.reader.specs.Sorts.{count, is_opening, is_closing, opens_square, closes_square}
use Rattle.reader.proofs.Derivations.{Factor, f_number, f_capital, f_small, f_group, Term, t_one, t_times, Sum, s_one, s_plus, s_minus, factor_tokens, term_tokens, sum_tokens}
use Rattle.reader.proofs.Sides.{count-++}

-- as many opening signs as closing ones; as many square opening signs as square closing ones
pub record Balanced (ts : List Kind) : Type 0 where
  pub groups : count is_opening ts ≡ count is_closing ts
  pub squares : count opens_square ts ≡ count closes_square ts

joined : (ts us : List Kind) → Balanced ts → Balanced us → Balanced (ts ++ us)
joined ts us h k = record {
  groups = omega (arith, count-++ is_opening ts us, count-++ is_closing ts us, h.groups, k.groups);
  squares = omega (arith, count-++ opens_square ts us, count-++ closes_square ts us, h.squares, k.squares);
}

in_group : (g : Group) (ts : List Kind) → Balanced ts → Balanced (opens g ∷ (ts ++ (closes g ∷ [])))
in_group Round ts h = record {
  groups = omega (arith, count-++ is_opening ts (closes Round ∷ []), count-++ is_closing ts (closes Round ∷ []), h.groups);
  squares = omega (arith, count-++ opens_square ts (closes Round ∷ []), count-++ closes_square ts (closes Round ∷ []), h.squares);
}
in_group Square ts h = record {
  groups = omega (arith, count-++ is_opening ts (closes Square ∷ []), count-++ is_closing ts (closes Square ∷ []), h.groups);
  squares = omega (arith, count-++ opens_square ts (closes Square ∷ []), count-++ closes_square ts (closes Square ∷ []), h.squares);
}

abbrev plain : {t : Kind} {ts : List Kind} → Balanced ts → count is_opening (t ∷ []) ≡ 0 → count is_closing (t ∷ []) ≡ 0 → count opens_square (t ∷ []) ≡ 0 → count closes_square (t ∷ []) ≡ 0 → Balanced (t ∷ ts)
plain h a b c d = record { groups = omega (arith, h.groups, a, b); squares = omega (arith, h.squares, c, d) }

mutual
  pub factor_balanced : (f : Factor) → Balanced (factor_tokens f)
  factor_balanced (f_number ds) = record { groups = refl; squares = refl }
  factor_balanced (f_capital a) = record { groups = refl; squares = refl }
  factor_balanced (f_small x) = record { groups = refl; squares = refl }
  factor_balanced (f_group g s) = in_group g (sum_tokens s) (sum_balanced s)

  pub term_balanced : (t : Term) → Balanced (term_tokens t)
  term_balanced (t_one f) = factor_balanced f
  term_balanced (t_times t f) = joined (term_tokens t) (star ∷ factor_tokens f) (term_balanced t) (plain (factor_balanced f) refl refl refl refl)

  pub sum_balanced : (s : Sum) → Balanced (sum_tokens s)
  sum_balanced (s_one t) = term_balanced t
  sum_balanced (s_plus s t) = joined (sum_tokens s) (plus ∷ term_tokens t) (sum_balanced s) (plain (term_balanced t) refl refl refl refl)
  sum_balanced (s_minus s t) = joined (sum_tokens s) (minus ∷ term_tokens t) (sum_balanced s) (plain (term_balanced t) refl refl refl refl)
