-- An unknown that stands in a tree has its token, and outside all brackets if it stands outside all brackets.
use Rattle.std.proofs.Common.{◌≡◌, ℕ, Bool, true, false, T, ◌⊎◌, List, [], ◌∷◌, ◌++◌, sym, refl, ap, ◌∙◌, inl, inr, append_assoc, arith}
use Rattle.systems.specs.Trees as Trees
use Rattle.systems.specs.Trees.{Tree, UnknownIn, BareIn}
use Rattle.tokens.specs.declared.token.Group.TheVariants.{Round, Square}
use Rattle.tokens.specs.Kinds.{Kind, capital, plus, minus, star, opens, closes}
use Rattle.reader.specs.Sorts.{count, opens_square, closes_square}
use Rattle.reader.proofs.Derivations.{Factor, f_number, f_capital, f_small, f_group, Term, t_one, t_times, Sum, s_one, s_plus, s_minus, factor_tokens, term_tokens, sum_tokens, factor_tree, term_tree, sum_tree}
use Rattle.reader.proofs.Balance.{term_balanced, sum_balanced}
use Rattle.reader.proofs.Sides.{count-++}

-- the unknown stands in the tree; if bare, outside all brackets
abbrev pub Stands : Bool → ℕ → Tree → Type 0
Stands true a t = BareIn a t
Stands false a t = UnknownIn a t

-- its token among the tokens; if bare, no square group is open before it
pub record Occurs (bare : Bool) (a : ℕ) (ts : List Kind) : Type 0 where
  pub before : List Kind
  pub after : List Kind
  pub split : ts ≡ before ++ (capital a ∷ after)
  pub outside : T bare → count opens_square before ≡ count closes_square before

-- in a longer list of tokens
in_front : (bare : Bool) (a : ℕ) (ts us : List Kind) → Occurs bare a ts → Occurs bare a (ts ++ us)
in_front bare a ts us h = record { before = h.before; after = h.after ++ us; split = ap (λ l. l ++ us) h.split ∙ append_assoc h.before (capital a ∷ h.after) us; outside = h.outside }

behind : (bare : Bool) (a : ℕ) (ts us : List Kind) → (T bare → count opens_square ts ≡ count closes_square ts) → Occurs bare a us → Occurs bare a (ts ++ us)
behind bare a ts us b h = record {
  before = ts ++ h.before;
  after = h.after;
  split = ap (λ l. ts ++ l) h.split ∙ sym (append_assoc ts h.before (capital a ∷ h.after));
  outside = λ so. omega (arith, count-++ opens_square ts h.before, count-++ closes_square ts h.before, b so, h.outside so);
}

in_sum : (bare : Bool) (a : ℕ) (s t : Tree) → Stands bare a (Trees.sum s t) → Stands bare a s ⊎ Stands bare a t
in_sum true a s t h = h
in_sum false a s t h = h

in_difference : (bare : Bool) (a : ℕ) (s t : Tree) → Stands bare a (Trees.difference s t) → Stands bare a s ⊎ Stands bare a t
in_difference true a s t h = h
in_difference false a s t h = h

in_product : (bare : Bool) (a : ℕ) (s t : Tree) → Stands bare a (Trees.product s t) → Stands bare a s ⊎ Stands bare a t
in_product true a s t h = h
in_product false a s t h = h

-- of two parts with an operator between them
either : (bare : Bool) (a : ℕ) (ts us : List Kind) (op : Kind) → count opens_square (op ∷ []) ≡ 0 → count closes_square (op ∷ []) ≡ 0 → count opens_square ts ≡ count closes_square ts
    → Occurs bare a ts ⊎ Occurs bare a us → Occurs bare a (ts ++ (op ∷ us))
either bare a ts us op o c b (inl h) = in_front bare a ts (op ∷ us) h
either bare a ts us op o c b (inr h) = behind bare a ts (op ∷ us) (λ _. b) (behind bare a (op ∷ []) us (λ _. o ∙ sym c) h)

mutual
  pub factor_occurs : (bare : Bool) (a : ℕ) (f : Factor) → Stands bare a (factor_tree f) → Occurs bare a (factor_tokens f)
  factor_occurs true a (f_number ds) h = absurd h
  factor_occurs false a (f_number ds) h = absurd h
  factor_occurs true a (f_capital b) h = record { before = []; after = []; split = ap (λ x. capital x ∷ []) (sym h); outside = λ _. refl }
  factor_occurs false a (f_capital b) h = record { before = []; after = []; split = ap (λ x. capital x ∷ []) (sym h); outside = λ _. refl }
  factor_occurs true a (f_small x) h = absurd h
  factor_occurs false a (f_small x) h = absurd h
  factor_occurs bare a (f_group Round s) h = behind bare a (opens Round ∷ []) _ (λ _. refl) (in_front bare a (sum_tokens s) (closes Round ∷ []) (sum_occurs bare a s h))
  factor_occurs true a (f_group Square s) h = absurd h
  factor_occurs false a (f_group Square s) h = behind false a (opens Square ∷ []) _ (λ so. absurd so) (in_front false a (sum_tokens s) (closes Square ∷ []) (sum_occurs false a s h))

  pub term_occurs : (bare : Bool) (a : ℕ) (t : Term) → Stands bare a (term_tree t) → Occurs bare a (term_tokens t)
  term_occurs bare a (t_one f) h = factor_occurs bare a f h
  term_occurs bare a (t_times t f) h =
      either bare a (term_tokens t) (factor_tokens f) star refl refl (term_balanced t).squares
      (elim (in_product bare a (term_tree t) (factor_tree f) h) [ inl k ↦ inl (term_occurs bare a t k) | inr k ↦ inr (factor_occurs bare a f k) ])

  pub sum_occurs : (bare : Bool) (a : ℕ) (s : Sum) → Stands bare a (sum_tree s) → Occurs bare a (sum_tokens s)
  sum_occurs bare a (s_one t) h = term_occurs bare a t h
  sum_occurs bare a (s_plus s t) h =
      either bare a (sum_tokens s) (term_tokens t) plus refl refl (sum_balanced s).squares
      (elim (in_sum bare a (sum_tree s) (term_tree t) h) [ inl k ↦ inl (sum_occurs bare a s k) | inr k ↦ inr (term_occurs bare a t k) ])
  sum_occurs bare a (s_minus s t) h =
      either bare a (sum_tokens s) (term_tokens t) minus refl refl (sum_balanced s).squares
      (elim (in_difference bare a (sum_tree s) (term_tree t) h) [ inl k ↦ inl (sum_occurs bare a s k) | inr k ↦ inr (term_occurs bare a t k) ])
