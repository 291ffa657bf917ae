-- Where a state stands: the whole equations before, and the part of a right side that is read.
use Rattle.std.proofs.Common.{◌≡◌, ℕ, ◌+◌, Bool, true, false, cond, T, List, [], ◌∷◌, ◌++◌, sym, refl, ap, ◌∙◌, subst, append_assoc, arith, Some, None, Option}
use Rattle.std.proofs.lemmas.List.{append_cancel_left}
use mathlib.Core.List.{tail-eq_of_cons-eq}
use Rattle.tokens.specs.declared.token.Group.{Group}
use Rattle.tokens.specs.declared.token.Group.TheVariants.{Round as round, Square as square}
use Rattle.tokens.specs.Kinds.{Kind, number, capital, small, equals, semicolon, plus, minus, star, opens, closes}
use Rattle.reader.proofs.Derivations.{Factor, f_number, f_capital, f_small, f_group, Term, t_one, t_times, Sum, s_one, s_plus, s_minus, Line, factor_tokens, term_tokens, sum_tokens, tokens_of}
use Rattle.reader.specs.Sorts.{count, is_semicolon}
use Rattle.reader.proofs.Derivations.{Side}
use Rattle.reader.proofs.Machine.{Pre, p_none, p_plus, p_minus, Mul, m_none, m_star, Place, side, within, State, at, after_left, need, have, close, next, run, run-++, reads_all}
use Rattle.reader.proofs.Sound.{pre_tokens, mul_tokens, place_tokens, read, start, sound}

abbrev pub home : Place → List Line
home (side es c) = es
home (within g b p m) = home b

abbrev pub left_of : Place → ℕ
left_of (side es c) = c
left_of (within g b p m) = left_of b

abbrev pub place_right : Place → List Kind
place_right (side es c) = []
place_right (within g b p m) = place_right b ++ (pre_tokens p ++ (mul_tokens m ++ (opens g ∷ [])))

pub place_split : (b : Place) → place_tokens b ≡ tokens_of (home b) ++ (capital (left_of b) ∷ equals ∷ place_right b)
place_split (side es c) = refl
place_split (within g b p m) = simp (place_split b, append_assoc)

pub count-++ : (f : Kind → Bool) (xs ys : List Kind) → count f (xs ++ ys) ≡ count f xs + count f ys
count-++ f [] ys = omega arith
count-++ f (x ∷ xs) ys = omega (arith, count-++ f xs ys)

mutual
  pub free_factor : (f : Factor) → count is_semicolon (factor_tokens f) ≡ 0
  free_factor (f_number ds) = refl
  free_factor (f_capital c) = refl
  free_factor (f_small c) = refl
  free_factor (f_group g s) = omega (arith, count-++ is_semicolon (sum_tokens s) (closes g ∷ []), free_sum s)

  pub free_term : (t : Term) → count is_semicolon (term_tokens t) ≡ 0
  free_term (t_one f) = free_factor f
  free_term (t_times t f) = omega (arith, count-++ is_semicolon (term_tokens t) (star ∷ factor_tokens f), free_term t, free_factor f)

  pub free_sum : (s : Sum) → count is_semicolon (sum_tokens s) ≡ 0
  free_sum (s_one t) = free_term t
  free_sum (s_plus s t) = omega (arith, count-++ is_semicolon (sum_tokens s) (plus ∷ term_tokens t), free_sum s, free_term t)
  free_sum (s_minus s t) = omega (arith, count-++ is_semicolon (sum_tokens s) (minus ∷ term_tokens t), free_sum s, free_term t)

pub free_pre : (p : Pre) → count is_semicolon (pre_tokens p) ≡ 0
free_pre p_none = refl
free_pre (p_plus s) = omega (arith, count-++ is_semicolon (sum_tokens s) (plus ∷ []), free_sum s)
free_pre (p_minus s) = omega (arith, count-++ is_semicolon (sum_tokens s) (minus ∷ []), free_sum s)

pub free_mul : (m : Mul) → count is_semicolon (mul_tokens m) ≡ 0
free_mul m_none = refl
free_mul (m_star t) = omega (arith, count-++ is_semicolon (term_tokens t) (star ∷ []), free_term t)

pub free_place : (b : Place) → count is_semicolon (place_right b) ≡ 0
free_place (side es c) = refl
free_place (within g b p m) = simp count-++ (omega (arith, free_place b, free_pre p, free_mul m))

-- a test of the equations before and the part of the right side; false where no right side is open
abbrev pub over_right : State → (List Line → List Kind → Bool) → Bool
over_right (at es) f = false
over_right (after_left es c) f = false
over_right (need b p m) f = f (home b) (place_right b ++ (pre_tokens p ++ mul_tokens m))
over_right (have b p t) f = f (home b) (place_right b ++ (pre_tokens p ++ term_tokens t))

abbrev pub at_start : State → (List Line → Bool) → Bool
at_start (at es) f = f es
at_start (after_left es c) f = false
at_start (need b p m) f = false
at_start (have b p t) f = false

unfoldable pub side_need : (b : Place) (p : Pre) (m : Mul) → Side (read (need b p m))
side_need b p m = record {
  whole = home b;
  left = left_of b;
  right = place_right b ++ (pre_tokens p ++ mul_tokens m);
  split = simp (place_split b, append_assoc);
  unended = simp count-++ (omega (arith, free_place b, free_pre p, free_mul m));
}

unfoldable pub side_have : (b : Place) (p : Pre) (t : Term) → Side (read (have b p t))
side_have b p t = record {
  whole = home b;
  left = left_of b;
  right = place_right b ++ (pre_tokens p ++ term_tokens t);
  split = simp (place_split b, append_assoc);
  unended = simp count-++ (omega (arith, free_place b, free_pre p, free_term t));
}

-- what holds of a state's right side holds of what is read
pub right_read : (st : State) (f : List Line → List Kind → Bool) → T (over_right st f) → (s : Side (read st)) × T (f s.whole s.right)
unfolding side_need side_have
right_read (at es) f h = absurd h
right_read (after_left es c) f h = absurd h
right_read (need b p m) f h = (side_need b p m, h)
right_read (have b p t) f h = (side_have b p t, h)

-- a run inside a right side stays there until a semicolon
abbrev Inside : List Line → ℕ → Option State → Type 0
Inside es d None = Unit {0}
Inside es d (Some (at fs)) = ⊥
Inside es d (Some (after_left fs c)) = ⊥
Inside es d (Some (need b p m)) = (home b ≡ es) × (left_of b ≡ d)
Inside es d (Some (have b p t)) = (home b ≡ es) × (left_of b ≡ d)

shut_stays : (es : List Line) (d : ℕ) (g : Group) (b : Place) (s : Sum) → (home b ≡ es) × (left_of b ≡ d) → Inside es d (close g b s)
shut_stays es d g (side fs c) s h = tt
shut_stays es d round (within round b p m) s h = h
shut_stays es d round (within square b p m) s h = tt
shut_stays es d square (within round b p m) s h = tt
shut_stays es d square (within square b p m) s h = h

stays : (es : List Line) (d : ℕ) (o : Option State) (t : Kind) → is_semicolon t ≡ false → Inside es d o → Inside es d (next o t)
stays es d None t n h = tt
stays es d (Some (at fs)) t n h = absurd h
stays es d (Some (after_left fs c)) t n h = absurd h
stays es d (Some (need b p m)) (number ds) n h = h
stays es d (Some (need b p m)) (capital c) n h = h
stays es d (Some (need b p m)) (small c) n h = h
stays es d (Some (need b p m)) (opens g) n h = h
stays es d (Some (need b p m)) _ n h = tt
stays es d (Some (have b p t)) semicolon n h = absurd (subst T n tt)
stays es d (Some (have b p t)) plus n h = h
stays es d (Some (have b p t)) minus n h = h
stays es d (Some (have b p t)) star n h = h
stays es d (Some (have b p t)) (closes g) n h = shut_stays es d g b _ h
stays es d (Some (have b p t)) _ n h = tt

none_first : (t : Kind) (ts : List Kind) → count is_semicolon (t ∷ ts) ≡ 0 → is_semicolon t ≡ false
none_first t ts e = go (is_semicolon t) e
  where
    go : (x : Bool) → cond x 1 0 + count is_semicolon ts ≡ 0 → x ≡ false
    go true h = absurd (omega arith)
    go false h = refl

run_stays : (es : List Line) (d : ℕ) (ts : List Kind) (o : Option State) → count is_semicolon ts ≡ 0 → Inside es d o → Inside es d (run o ts)
run_stays es d [] o e h = h
run_stays es d (t ∷ ts) o e h = run_stays es d ts (next o t) (omega arith) (stays es d o t (none_first t ts e) h)

-- where the tokens read are split so, the state stands there
pub inside : (before : List Kind) (st : State) → run start before ≡ Some st → (s : Side before) → Inside s.whole s.left (Some st)
inside before st e s =
    subst (Inside s.whole s.left)
    (sym (ap (run start) s.split ∙ run-++ start (tokens_of s.whole) _ ∙ ap (λ o. run o (capital s.left ∷ equals ∷ s.right)) (reads_all [] s.whole)) ∙ e)
    (run_stays s.whole s.left s.right (Some (need (side s.whole s.left) p_none m_none)) s.unended (refl, refl))

pub same_right : (whole whole' : List Line) (l l' : ℕ) (r r' : List Kind) → whole ≡ whole' → tokens_of whole ++ (capital l ∷ equals ∷ r) ≡ tokens_of whole' ++ (capital l' ∷ equals ∷ r') → r ≡ r'
same_right whole whole' l l' r r' e h =
    tail-eq_of_cons-eq (tail-eq_of_cons-eq (append_cancel_left (tokens_of whole) _ _ (h ∙ ap (λ w. tokens_of w ++ (capital l' ∷ equals ∷ r')) (sym e))))

pub read_right : (before : List Kind) (st : State) → run start before ≡ Some st → (f : List Line → List Kind → Bool) (s : Side before) → T (f s.whole s.right) → T (over_right st f)
unfolding side_need side_have
read_right before st e f s h = go st (sound before st e) (inside before st e s)
  where
    moved : (l : List Kind) (t : Side l) → l ≡ before → t.whole ≡ s.whole → T (f t.whole t.right)
    moved l t same w = subst (λ (r : List Kind). T (f t.whole r)) (sym (same_right _ _ _ _ _ _ w (sym t.split ∙ same ∙ s.split))) (subst (λ (w : List Line). T (f w s.right)) (sym w) h)

    go : (to : State) → read to ≡ before → Inside s.whole s.left (Some to) → T (over_right to f)
    go (at es) same i = absurd i
    go (after_left es c) same i = absurd i
    go (need b p m) same i = moved (read (need b p m)) (side_need b p m) same i.0
    go (have b p t) same i = moved (read (have b p t)) (side_have b p t) same i.0
