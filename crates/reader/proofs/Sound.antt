-- What the machine has read is what its derivation so far is written with.
use Rattle.std.proofs.Common.{◌≡◌, List, [], ◌∷◌, ◌++◌, sym, refl, ap, ◌∙◌, subst, append_assoc, append-nil, Some, None, Option}
use Rattle.tokens.specs.declared.token.Group.{Group}
use Rattle.tokens.specs.declared.token.Group.TheVariants.{Round as round, Square as square}
use Rattle.tokens.specs.Kinds.{Kind, number, capital, small, equals, semicolon, plus, minus, star, opens, closes, stray}
use Rattle.reader.proofs.Derivations.{Factor, f_number, f_capital, f_small, f_group, Term, Line, factor_tokens, term_tokens, sum_tokens, line_tokens, tokens_of}
use Rattle.reader.proofs.Machine.{Pre, p_none, p_plus, p_minus, Mul, m_none, m_star, with_factor, with_term, Place, side, within, State, at, after_left, need, have, close, finish_eq, step, next, run}

abbrev pub pre_tokens : Pre → List Kind
pre_tokens p_none = []
pre_tokens (p_plus s) = sum_tokens s ++ (plus ∷ [])
pre_tokens (p_minus s) = sum_tokens s ++ (minus ∷ [])

abbrev pub mul_tokens : Mul → List Kind
mul_tokens m_none = []
mul_tokens (m_star t) = term_tokens t ++ (star ∷ [])

abbrev pub place_tokens : Place → List Kind
place_tokens (side es c) = tokens_of es ++ (capital c ∷ equals ∷ [])
place_tokens (within g b p m) = place_tokens b ++ (pre_tokens p ++ (mul_tokens m ++ (opens g ∷ [])))

abbrev pub read : State → List Kind
read (at es) = tokens_of es
read (after_left es c) = tokens_of es ++ (capital c ∷ [])
read (need b p m) = place_tokens b ++ (pre_tokens p ++ mul_tokens m)
read (have b p t) = place_tokens b ++ (pre_tokens p ++ term_tokens t)

with_factor_tokens : (m : Mul) (f : Factor) → term_tokens (with_factor m f) ≡ mul_tokens m ++ factor_tokens f
with_factor_tokens m_none f = refl
with_factor_tokens (m_star t) f = sym (append_assoc (term_tokens t) (star ∷ []) (factor_tokens f))

pub with_term_tokens : (p : Pre) (t : Term) → sum_tokens (with_term p t) ≡ pre_tokens p ++ term_tokens t
with_term_tokens p_none t = refl
with_term_tokens (p_plus s) t = sym (append_assoc (sum_tokens s) (plus ∷ []) (term_tokens t))
with_term_tokens (p_minus s) t = sym (append_assoc (sum_tokens s) (minus ∷ []) (term_tokens t))

tokens_of_more : (es : List Line) (q : Line) → tokens_of (es ++ (q ∷ [])) ≡ tokens_of es ++ line_tokens q
tokens_of_more [] q = append-nil (line_tokens q)
tokens_of_more (e ∷ es) q = ap (λ l. line_tokens e ++ l) (tokens_of_more es q) ∙ sym (append_assoc (line_tokens e) (tokens_of es) (line_tokens q))

-- where a step is made, the token is read
abbrev pub Reads : State → Kind → Option State → Type 0
Reads st t None = Unit {0}
Reads st t (Some to) = read to ≡ read st ++ (t ∷ [])

leaf : (b : Place) (p : Pre) (m : Mul) (f : Factor) (t : Kind) → factor_tokens f ≡ t ∷ [] → read (have b p (with_factor m f)) ≡ read (need b p m) ++ (t ∷ [])
leaf b p m f t e = simp (with_factor_tokens, e, append_assoc)

closed : (b : Place) (p : Pre) (m : Mul) (g : Group) (q : Pre) (t : Term) → read (have b p (with_factor m (f_group g (with_term q t)))) ≡ read (have (within g b p m) q t) ++ (closes g ∷ [])
closed b p m g q t = simp (with_factor_tokens, with_term_tokens, append_assoc)

shuts : (g : Group) (b : Place) (q : Pre) (t : Term) → Reads (have b q t) (closes g) (close g b (with_term q t))
shuts g (side es c) q t = tt
shuts round (within round b p m) q t = closed b p m round q t
shuts round (within square b p m) q t = tt
shuts square (within round b p m) q t = tt
shuts square (within square b p m) q t = closed b p m square q t

ends : (b : Place) (q : Pre) (t : Term) → Reads (have b q t) semicolon (finish_eq b (with_term q t))
ends (side es c) q t = simp (tokens_of_more, with_term_tokens, append_assoc)
ends (within g b p m) q t = tt

pub reads : (st : State) (t : Kind) → Reads st t (step st t)
reads (at es) (number ds) = tt
reads (at es) (capital c) = refl
reads (at es) (small c) = tt
reads (at es) equals = tt
reads (at es) semicolon = tt
reads (at es) plus = tt
reads (at es) minus = tt
reads (at es) star = tt
reads (at es) (opens g) = tt
reads (at es) (closes g) = tt
reads (at es) (stray b) = tt
reads (after_left es c) (number ds) = tt
reads (after_left es c) (capital d) = tt
reads (after_left es c) (small d) = tt
reads (after_left es c) equals = simp (append_assoc, append-nil)
reads (after_left es c) semicolon = tt
reads (after_left es c) plus = tt
reads (after_left es c) minus = tt
reads (after_left es c) star = tt
reads (after_left es c) (opens g) = tt
reads (after_left es c) (closes g) = tt
reads (after_left es c) (stray b) = tt
reads (need b p m) (number ds) = leaf b p m (f_number ds) (number ds) refl
reads (need b p m) (capital c) = leaf b p m (f_capital c) (capital c) refl
reads (need b p m) (small c) = leaf b p m (f_small c) (small c) refl
reads (need b p m) equals = tt
reads (need b p m) semicolon = tt
reads (need b p m) plus = tt
reads (need b p m) minus = tt
reads (need b p m) star = tt
reads (need b p m) (opens g) = simp (append_assoc, append-nil)
reads (need b p m) (closes g) = tt
reads (need b p m) (stray x) = tt
reads (have b p t) (number ds) = tt
reads (have b p t) (capital c) = tt
reads (have b p t) (small c) = tt
reads (have b p t) equals = tt
reads (have b p t) semicolon = ends b p t
reads (have b p t) plus = simp (with_term_tokens, append_assoc, append-nil)
reads (have b p t) minus = simp (with_term_tokens, append_assoc, append-nil)
reads (have b p t) star = simp append_assoc
reads (have b p t) (opens g) = tt
reads (have b p t) (closes g) = shuts g b p t
reads (have b p t) (stray x) = tt

abbrev Told : List Kind → Option State → Type 0
Told ts None = Unit {0}
Told ts (Some to) = read to ≡ ts

-- over a whole run
abbrev pub ReadAll : List Kind → List Kind → Option State → Type 0
ReadAll before ts None = Unit {0}
ReadAll before ts (Some to) = read to ≡ before ++ ts

pub run_reads : (ts : List Kind) (o : Option State) (before : List Kind) → Told before o → Told (before ++ ts) (run o ts)
run_reads [] o before h = subst (λ l. Told l o) (sym (append-nil before)) h
run_reads (t ∷ ts) o before h = subst (λ l. Told l (run (next o t) ts)) (append_assoc before (t ∷ []) ts) (run_reads ts (next o t) (before ++ (t ∷ [])) (one o before h))
  where
    one : (o : Option State) (before : List Kind) → Told before o → Told (before ++ (t ∷ [])) (next o t)
    one None before h = tt
    one (Some st) before h = more (step st t) (reads st t)
      where
        more : (p : Option State) → Reads st t p → Told (before ++ (t ∷ [])) p
        more None r = tt
        more (Some to) r = r ∙ ap (λ l. l ++ (t ∷ [])) h

abbrev pub start : Option State
start = Some (at [])

-- SOUND: what the machine has read is written with its derivation so far
pub sound : (ts : List Kind) (st : State) → run start ts ≡ Some st → read st ≡ ts
sound ts st e = subst (Told ts) e (run_reads ts start [] refl)
