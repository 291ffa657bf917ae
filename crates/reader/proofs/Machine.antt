-- The reader as a machine that takes one token at a time and keeps the derivation so far.
use Rattle.std.proofs.Common.{◌≡◌, ℕ, List, [], ◌∷◌, ◌++◌, sym, refl, ap, ◌∙◌, append_assoc, append-nil, Some, None, Option}
use Rattle.tokens.specs.declared.token.Group.{Group}
use Rattle.tokens.specs.declared.token.Group.TheVariants.{Round as round, Square as square}
use Rattle.tokens.specs.Kinds.{Kind, number, capital, small, equals, semicolon, plus, minus, star, opens, closes}
use Rattle.reader.proofs.Derivations.{Factor, f_number, f_capital, f_small, f_group, Term, t_one, t_times, Sum, s_one, s_plus, s_minus, Line, factor_tokens, term_tokens, sum_tokens, line_tokens, tokens_of}

-- the sum before a term, with its sign, if any
pub data Pre : Type 0 where
  p_none : Pre
  p_plus : Sum → Pre
  p_minus : Sum → Pre

-- the term before a factor, with its star, if any
pub data Mul : Type 0 where
  m_none : Mul
  m_star : Term → Mul

abbrev pub with_factor : Mul → Factor → Term
with_factor m_none f = t_one f
with_factor (m_star t) f = t_times t f

abbrev pub with_term : Pre → Term → Sum
with_term p_none t = s_one t
with_term (p_plus s) t = s_plus s t
with_term (p_minus s) t = s_minus s t

-- where a sum stands: at a right side, or in a group that stands for a factor
pub data Place : Type 0 where
  side : List Line → ℕ → Place
  within : Group → Place → Pre → Mul → Place

pub data State : Type 0 where
  at : List Line → State
  after_left : List Line → ℕ → State
  need : Place → Pre → Mul → State
  have : Place → Pre → Term → State

abbrev pub close : Group → Place → Sum → Option State
close g (side es c) s = None
close round (within round b p m) s = Some (have b p (with_factor m (f_group round s)))
close round (within square b p m) s = None
close square (within round b p m) s = None
close square (within square b p m) s = Some (have b p (with_factor m (f_group square s)))

abbrev pub finish_eq : Place → Sum → Option State
finish_eq (side es c) s = Some (at (es ++ (record { left = c; right = s } ∷ [])))
finish_eq (within g b p m) s = None

abbrev pub step : State → Kind → Option State
step (at es) (capital c) = Some (after_left es c)
step (at es) _ = None
step (after_left es c) equals = Some (need (side es c) p_none m_none)
step (after_left es c) _ = None
step (need b p m) (number ds) = Some (have b p (with_factor m (f_number ds)))
step (need b p m) (capital c) = Some (have b p (with_factor m (f_capital c)))
step (need b p m) (small c) = Some (have b p (with_factor m (f_small c)))
step (need b p m) (opens g) = Some (need (within g b p m) p_none m_none)
step (need b p m) _ = None
step (have b p t) semicolon = finish_eq b (with_term p t)
step (have b p t) plus = Some (need b (p_plus (with_term p t)) m_none)
step (have b p t) minus = Some (need b (p_minus (with_term p t)) m_none)
step (have b p t) star = Some (need b p (m_star t))
step (have b p t) (closes g) = close g b (with_term p t)
step (have b p t) _ = None

-- one token more; what was refused stays refused
abbrev pub next : Option State → Kind → Option State
next None t = None
next (Some st) t = step st t

abbrev pub run : Option State → List Kind → Option State
run o [] = o
run o (t ∷ ts) = run (next o t) ts

pub run-++ : (o : Option State) (xs ys : List Kind) → run o (xs ++ ys) ≡ run (run o xs) ys
run-++ o [] ys = refl
run-++ o (x ∷ xs) ys = run-++ (next o x) xs ys

pub run_none : (ts : List Kind) → run None ts ≡ None
run_none [] = refl
run_none (t ∷ ts) = run_none ts

-- a sum as the sum before its last term, and that term
abbrev pub pre : Sum → Pre
pre (s_one t) = p_none
pre (s_plus s t) = p_plus s
pre (s_minus s t) = p_minus s

abbrev pub last : Sum → Term
last (s_one t) = t
last (s_plus s t) = t
last (s_minus s t) = t

pub again : (s : Sum) → with_term (pre s) (last s) ≡ s
again (s_one t) = refl
again (s_plus s t) = refl
again (s_minus s t) = refl

pub close_same : (g : Group) (b : Place) (p : Pre) (m : Mul) (s : Sum) → close g (within g b p m) s ≡ Some (have b p (with_factor m (f_group g s)))
close_same round b p m s = refl
close_same square b p m s = refl

mutual
  pub reads_factor : (f : Factor) (b : Place) (p : Pre) (m : Mul) (rest : List Kind) → run (Some (need b p m)) (factor_tokens f ++ rest) ≡ run (Some (have b p (with_factor m f))) rest
  reads_factor (f_number ds) b p m rest = refl
  reads_factor (f_capital c) b p m rest = refl
  reads_factor (f_small c) b p m rest = refl
  reads_factor (f_group g s) b p m rest =
      ap (run (Some (need (within g b p m) p_none m_none))) (append_assoc (sum_tokens s) (closes g ∷ []) rest) ∙ reads_sum s (within g b p m) (closes g ∷ rest) ∙ ap (λ x. run (close g (within g b p m) x) rest) (again s) ∙ ap (λ o. run o rest) (close_same g b p m s)

  pub reads_term : (t : Term) (b : Place) (p : Pre) (rest : List Kind) → run (Some (need b p m_none)) (term_tokens t ++ rest) ≡ run (Some (have b p t)) rest
  reads_term (t_one f) b p rest = reads_factor f b p m_none rest
  reads_term (t_times t f) b p rest =
      ap (run (Some (need b p m_none))) (append_assoc (term_tokens t) (star ∷ factor_tokens f) rest) ∙ reads_term t b p (star ∷ (factor_tokens f ++ rest)) ∙ reads_factor f b p (m_star t) rest

  pub reads_sum : (s : Sum) (b : Place) (rest : List Kind) → run (Some (need b p_none m_none)) (sum_tokens s ++ rest) ≡ run (Some (have b (pre s) (last s))) rest
  reads_sum (s_one t) b rest = reads_term t b p_none rest
  reads_sum (s_plus s t) b rest =
      ap (run (Some (need b p_none m_none))) (append_assoc (sum_tokens s) (plus ∷ term_tokens t) rest) ∙ reads_sum s b (plus ∷ (term_tokens t ++ rest)) ∙ ap (λ x. run (Some (need b (p_plus x) m_none)) (term_tokens t ++ rest)) (again s) ∙ reads_term t b (p_plus s) rest
  reads_sum (s_minus s t) b rest =
      ap (run (Some (need b p_none m_none))) (append_assoc (sum_tokens s) (minus ∷ term_tokens t) rest) ∙ reads_sum s b (minus ∷ (term_tokens t ++ rest)) ∙ ap (λ x. run (Some (need b (p_minus x) m_none)) (term_tokens t ++ rest)) (again s) ∙ reads_term t b (p_minus s) rest

pub reads_equation : (es : List Line) (q : Line) (rest : List Kind) → run (Some (at es)) (line_tokens q ++ rest) ≡ run (Some (at (es ++ (q ∷ [])))) rest
reads_equation es q rest =
    ap (run (Some (need (side es q.left) p_none m_none))) (append_assoc (sum_tokens q.right) (semicolon ∷ []) rest) ∙ reads_sum q.right (side es q.left) (semicolon ∷ rest) ∙ ap (λ x. run (Some (at (es ++ (record { left = q.left; right = x } ∷ [])))) rest) (again q.right)

pub reads_all : (es qs : List Line) → run (Some (at es)) (tokens_of qs) ≡ Some (at (es ++ qs))
reads_all es [] = ap (λ l. Some (at l)) (sym (append-nil es))
reads_all es (q ∷ qs) = reads_equation es q (tokens_of qs) ∙ reads_all (es ++ (q ∷ [])) qs ∙ ap (λ l. Some (at l)) (append_assoc es (q ∷ []) qs)

-- COMPLETE: the machine ends, on the tokens of a system, with that system
pub complete : (qs : List Line) → run (Some (at [])) (tokens_of qs) ≡ Some (at qs)
complete qs = reads_all [] qs
