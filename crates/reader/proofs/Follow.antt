-- The reader's fields follow the machine.
use Rattle.std.specs.List.{list_any, count_by}
use Rattle.std.specs.Prelude.{slice_get}
use Rattle.std.proofs.Math.Seq.{get_or-append_seam, take-append_seam}
use Rattle.std.proofs.lemmas.List.Sums.{sum_by-append, sum_by-cons}
use Rattle.std.proofs.lemmas.Option.{slice_get_read}
use Rattle.std.proofs.Common.{◌≡◌, ℕ, ◌+◌, ◌-◌, ◌<◌, ◌≤◌, Bool, true, false, cond, not, ◌&&◌, ◌||◌, T, eqb, ltb, leb, List, [], ◌∷◌, ◌++◌, length, take, get_or, set, sym, refl, ap, ◌∙◌, subst, append_assoc, arith, length-append, length-set, get_or-set_other, get_or-set_same, eq-eqb, ne_eqb, leb-false, Some, None, Option}
use Rattle.std.proofs.Math.Bool.{or-false, or-true}
use Rattle.std.proofs.Math.Decide.{ℕ_discrete}
use Rattle.std.proofs.lemmas.Bool.{eqb-false}
use Rattle.tokens.specs.declared.token.Group.{Group}
use Rattle.tokens.specs.declared.token.Group.TheVariants.{Round as round, Square as square}
use Rattle.reader.specs.declared.progress.Phase.{Phase}
use Rattle.reader.specs.declared.progress.Phase.TheVariants.{Start, Between, Left, Operand, Operator}
use Rattle.reader.specs.declared.progress.Progress.{Progress}
use Rattle.tokens.specs.Kinds.{Kind, number, capital, small, equals, semicolon, plus, minus, star, opens, closes}
use Rattle.reader.proofs.Derivations.{Term, Line, term_tokens, sum_tokens, tokens_of}
use Rattle.reader.specs.Sorts.{count, is_opening, is_closing, is_square, opens_square, closes_square, is_stray, is_node, digits_of}
use Rattle.reader.specs.declared.fault.Rule.{Rule}
use Rattle.reader.specs.declared.fault.Rule.TheVariants.{NoToken, LongNumber, NotAllowed, TooDeep, Repeated, TooEarly, TooManyNodes}
use Rattle.reader.specs.Rules.{groups, brackets}
use Rattle.reader.proofs.Derivations.{has, nodes_of}
use Rattle.reader.specs.Inner.Progress.{allowed, next_phase, between, in_right, next_left, next_open, with_letter, next_defined, innermost, after, if_capital, defined_again, named_early, breaks}
use Rattle.reader.proofs.Machine.{Pre, p_none, Mul, m_none, with_term, Place, side, within, State, at, after_left, need, have, step}
use Rattle.reader.proofs.Sound.{pre_tokens, mul_tokens, read, Reads, reads, with_term_tokens}
use Rattle.reader.proofs.Sides.{home, left_of, place_right, count-++, over_right, at_start, side_need, side_have, same_right}
use Rattle.reader.proofs.Signs.{Letter}
use Rattle.reader.proofs.Faults.{is_none, name_test, test, first, rules}

abbrev pub phase_of : State → Phase
phase_of (at []) = Start
phase_of (at (q ∷ qs)) = Between
phase_of (after_left es c) = Left
phase_of (need b p m) = Operand
phase_of (have b p t) = Operator

abbrev pub whole_of : State → List Line
whole_of (at es) = es
whole_of (after_left es c) = es
whole_of (need b p m) = home b
whole_of (have b p t) = home b

abbrev pub right_of : State → List Kind
right_of (at es) = []
right_of (after_left es c) = []
right_of (need b p m) = place_right b ++ (pre_tokens p ++ mul_tokens m)
right_of (have b p t) = place_right b ++ (pre_tokens p ++ term_tokens t)

-- the groups around a place, the innermost last
abbrev pub stack_of : Place → List Group
stack_of (side es c) = []
stack_of (within g b p m) = stack_of b ++ (g ∷ [])

abbrev pub groups_of : State → List Group
groups_of (at es) = []
groups_of (after_left es c) = []
groups_of (need b p m) = stack_of b
groups_of (have b p t) = stack_of b

abbrev pub LeftIs : State → Option ℕ → Type 0
LeftIs (at es) l = l ≡ None
LeftIs (after_left es c) l = l ≡ Some c
LeftIs (need b p m) l = l ≡ Some (left_of b)
LeftIs (have b p t) l = l ≡ Some (left_of b)

pub record Code (st : State) (s : Progress) : Type 0 where
  pub phase : s.phase ≡ phase_of st
  pub left : LeftIs st s.left
  pub byte : (c : ℕ) → s.left ≡ Some c → c < 256
  pub enclosing : s.enclosing.items ≡ groups_of st
  pub deep : length (groups_of st) ≤ 16
  pub opened : count is_opening (right_of st) ≡ count is_closing (right_of st) + length (groups_of st)
  pub squared : count opens_square (right_of st) ≡ count closes_square (right_of st) + count_by is_square (groups_of st)
  pub nodes : s.nodes ≡ nodes_of (whole_of st) + count is_node (right_of st)
  pub few : s.nodes ≤ 64
  pub size : length s.defined ≡ 256
  pub defined : (c : ℕ) → get_or s.defined c false ≡ has (whole_of st) c

-- the reader's tests are the machine's

abbrev top_at : Place → Option Group
top_at (side es c) = None
top_at (within g b p m) = Some g

abbrev top_of : State → Option Group
top_of (at es) = None
top_of (after_left es c) = None
top_of (need b p m) = top_at b
top_of (have b p t) = top_at b

top_at_is : (b : Place) → slice_get (stack_of b) (length (stack_of b) - 1) ≡ top_at b
top_at_is (side es c) = refl
top_at_is (within g b p m) =
    let gs = stack_of b in
    let long = length-append gs (g ∷ []) in
    ap (slice_get (gs ++ (g ∷ []))) (omega (arith, long))
    ∙ slice_get_read (gs ++ (g ∷ [])) _ (length gs) g refl (omega (arith, long)) (sym (get_or-append_seam gs g [] g))

top_is : (st : State) → slice_get (groups_of st) (length (groups_of st) - 1) ≡ top_of st
top_is (at es) = refl
top_is (after_left es c) = refl
top_is (need b p m) = top_at_is b
top_is (have b p t) = top_at_is b

allow : (st : State) (t : Kind) → not (allowed (phase_of st) (top_of st) t) ≡ is_none (step st t)
allow (at []) (capital d) = refl
allow (at []) _ = refl
allow (at (q ∷ qs)) (capital d) = refl
allow (at (q ∷ qs)) _ = refl
allow (after_left es c) equals = refl
allow (after_left es c) _ = refl
allow (need b p m) equals = refl
allow (need b p m) _ = refl
allow (have (side es c) p t) semicolon = refl
allow (have (within g b q m) p t) semicolon = refl
allow (have (side es c) p t) (closes g) = refl
allow (have (within round b q m) p t) (closes round) = refl
allow (have (within round b q m) p t) (closes square) = refl
allow (have (within square b q m) p t) (closes round) = refl
allow (have (within square b q m) p t) (closes square) = refl
allow (have b p t) _ = refl

pub same_name : (f k : ℕ → Bool) → ((c : ℕ) → f c ≡ k c) → (t : Kind) → if_capital f t ≡ name_test t k
same_name f k h (capital d) = h d
same_name f k h _ = refl

over : (st : State) (s : Progress) → Code st s → (f : List Line → List Kind → Bool) (x : Bool) → (in_right (phase_of st) ≡ true → x ≡ f (whole_of st) (right_of st)) → (in_right s.phase && x) ≡ over_right st f
over (at []) s c f x h = ap (λ p. in_right p && x) c.phase
over (at (q ∷ qs)) s c f x h = ap (λ p. in_right p && x) c.phase
over (after_left es d) s c f x h = ap (λ p. in_right p && x) c.phase
over (need b p m) s c f x h = ap (λ p. in_right p && x) c.phase ∙ h refl
over (have b p t) s c f x h = ap (λ p. in_right p && x) c.phase ∙ h refl

deep_is : (st : State) (s : Progress) → Code st s → leb 16 (length s.enclosing.items) ≡ over_right st (λ es r. leb 16 (groups r))
deep_is st s c = ap (λ gs. leb 16 (length gs)) c.enclosing ∙ go st c
  where
    go : (st : State) → Code st s → leb 16 (length (groups_of st)) ≡ over_right st (λ es r. leb 16 (groups r))
    go (at es) c = refl
    go (after_left es d) c = refl
    go (need b p m) c = ap (leb 16) (omega (arith, c.opened))
    go (have b p t) c = ap (leb 16) (omega (arith, c.opened))

start_is : (st : State) (s : Progress) → Code st s → (d : ℕ) → (between s.phase && get_or s.defined d false) ≡ at_start st (λ es. has es d)
start_is (at []) s c d = ap (λ p. between p && get_or s.defined d false) c.phase ∙ c.defined d
start_is (at (q ∷ qs)) s c d = ap (λ p. between p && get_or s.defined d false) c.phase ∙ c.defined d
start_is (after_left es e) s c d = ap (λ p. between p && get_or s.defined d false) c.phase
start_is (need b p m) s c d = ap (λ p. between p && get_or s.defined d false) c.phase
start_is (have b p t) s c d = ap (λ p. between p && get_or s.defined d false) c.phase

no_square : (gs : List Group) → not (list_any is_square gs) ≡ eqb (count_by is_square gs) 0
no_square [] = refl
no_square (round ∷ gs) = no_square gs ∙ sym (ap (λ n. eqb n 0) (sum_by-cons (λ (x : Group). cond {A = ℕ} (is_square x) 1 0) round gs ∙ omega arith))
no_square (square ∷ gs) = sym (ap (λ n. eqb n 0) (sum_by-cons (λ (x : Group). cond {A = ℕ} (is_square x) 1 0) square gs) ∙ ne_eqb (1 + count_by is_square gs) 0 (λ e. omega arith))

early_is : (st : State) (s : Progress) → Code st s → (d : ℕ) → (in_right s.phase && (not (list_any is_square s.enclosing.items) && not (get_or s.defined d false))) ≡ over_right st (λ es r. eqb (brackets r) 0 && not (has es d))
early_is st s c d =
    over st s c (λ es r. eqb (brackets r) 0 && not (has es d)) _
    (λ _. λ i. alike i && not (c.defined d i))
  where
    alike : not (list_any is_square s.enclosing.items) ≡ eqb (brackets (right_of st)) 0
    alike = ap (λ gs. not (list_any is_square gs)) c.enclosing ∙ no_square (groups_of st) ∙ ap (λ n. eqb n 0) (omega (arith, c.squared))

many_is : (st : State) (s : Progress) → Code st s → (in_right s.phase && eqb s.nodes 64) ≡ over_right st (λ es r. eqb (nodes_of es + count is_node r) 64)
many_is st s c = over st s c (λ es r. eqb (nodes_of es + count is_node r) 64) _ (λ _. ap (λ n. eqb n 64) c.nodes)

pub same_tests : (st : State) (s : Progress) (t : Kind) → Code st s → breaks s t ≡ first (test st t) rules
same_tests st s t c =
    (λ i. cond (is_stray t) (Some NoToken) (cond (ltb 9 (length (digits_of t))) (Some LongNumber) (cond (permit i) (Some NotAllowed) (cond (is_opening t && deep_is st s c i) (Some TooDeep) (cond (anew i) (Some Repeated) (cond (soon i) (Some TooEarly) (cond (is_node t && many_is st s c i) (Some TooManyNodes) None)))))))
  where
    top : innermost s ≡ top_of st
    top = ap (λ gs. slice_get gs (length gs - 1)) c.enclosing ∙ top_is st

    permit : not (allowed s.phase (innermost s) t) ≡ is_none (step st t)
    permit = (λ i. not (allowed (c.phase i) (top i) t)) ∙ allow st t

    anew : defined_again s t ≡ name_test t (λ d. at_start st (λ es. has es d))
    anew = same_name _ _ (start_is st s c) t

    soon : named_early s t ≡ name_test t (λ d. over_right st (λ es r. eqb (brackets r) 0 && not (has es d)))
    soon = same_name _ _ (early_is st s c) t

-- what holds where no rule is broken

cond_none : (b : Bool) (k : Rule) (o : Option Rule) → cond b (Some k) o ≡ None → (b ≡ false) × (o ≡ None)
cond_none true k o e = absurd (cc)
cond_none false k o e = (refl, e)

pub record Whole (s : Progress) (t : Kind) : Type 0 where
  pub brief : ltb 9 (length (digits_of t)) ≡ false
  pub fresh : defined_again s t ≡ false
  pub shallow : (is_opening t && leb 16 (length s.enclosing.items)) ≡ false
  pub room : (is_node t && (in_right s.phase && eqb s.nodes 64)) ≡ false

pub unbroken : (s : Progress) (t : Kind) → breaks s t ≡ None → Whole s t
unbroken s t e =
    let a = cond_none (is_stray t) NoToken _ e in
    let b = cond_none (ltb 9 (length (digits_of t))) LongNumber _ a.1 in
    let c = cond_none _ NotAllowed _ b.1 in
    let d = cond_none _ TooDeep _ c.1 in
    let f = cond_none (defined_again s t) Repeated _ d.1 in
    let g = cond_none (named_early s t) TooEarly _ f.1 in
    let h = cond_none (is_node t && (in_right s.phase && eqb s.nodes 64)) TooManyNodes None g.1 in
    record { brief = b.0; fresh = f.0; shallow = d.0; room = h.0 }

less : (n : ℕ) → n ≤ 64 → eqb n 64 ≡ false → n < 64
less n h e = omega (arith, eqb-false n 64 e)

-- a node more
node_room : (s : Progress) (t : Kind) → is_node t ≡ true → in_right s.phase ≡ true → s.nodes ≤ 64 → Whole s t → s.nodes < 64
node_room s t n i few w = less s.nodes few (sym (λ k. n k && (i k && eqb s.nodes 64)) ∙ w.room)

-- the right side grows by the token

split_of : (st : State) → in_right (phase_of st) ≡ true → (l : ℕ) × (read st ≡ tokens_of (whole_of st) ++ (capital l ∷ equals ∷ right_of st))
unfolding side_need side_have
split_of (at []) e = absurd (subst T (sym e) tt)
split_of (at (q ∷ qs)) e = absurd (subst T (sym e) tt)
split_of (after_left es c) e = absurd (subst T (sym e) tt)
split_of (need b p m) e = (left_of b, (side_need b p m).split)
split_of (have b p t) e = (left_of b, (side_have b p t).split)

grow : (st to : State) (t : Kind) → in_right (phase_of st) ≡ true → in_right (phase_of to) ≡ true → whole_of to ≡ whole_of st → read to ≡ read st ++ (t ∷ []) → right_of to ≡ right_of st ++ (t ∷ [])
grow st to t i j w e =
    let a = split_of st i in
    let b = split_of to j in
    same_right (whole_of to) (whole_of st) b.0 a.0 (right_of to) (right_of st ++ (t ∷ [])) w
    (sym b.1 ∙ e ∙ ap (λ l. l ++ (t ∷ [])) a.1 ∙ append_assoc (tokens_of (whole_of st)) (capital a.0 ∷ equals ∷ right_of st) (t ∷ []))

one_count : (f : Kind → Bool) (r r' : List Kind) (t : Kind) → r' ≡ r ++ (t ∷ []) → count f r' ≡ count f r + cond (f t) 1 0
one_count f r r' t e = ap (count f) e ∙ count-++ f r (t ∷ []) ∙ (omega arith)

-- a test counts one or nothing
one_of : {b : Bool} → b ≡ true → cond {A = ℕ} b 1 0 ≡ 1
one_of h = ap (λ v. cond {A = ℕ} v 1 0) h

none_of : {b : Bool} → b ≡ false → cond {A = ℕ} b 1 0 ≡ 0
none_of h = ap (λ v. cond {A = ℕ} v 1 0) h

-- a token within a right side that opens and closes nothing
keep : (st to : State) (s : Progress) (t : Kind) → Code st s → Whole s t → read to ≡ read st ++ (t ∷ [])
    → in_right (phase_of st) ≡ true → in_right (phase_of to) ≡ true → whole_of to ≡ whole_of st → groups_of to ≡ groups_of st → (LeftIs st s.left → LeftIs to s.left)
    → next_phase (phase_of st) t ≡ phase_of to → next_left (phase_of st) s.left t ≡ s.left → next_open s.enclosing.items t ≡ s.enclosing.items → next_defined s.left s.defined t ≡ s.defined
    → is_opening t ≡ false → is_closing t ≡ false → opens_square t ≡ false → closes_square t ≡ false → is_node t ≡ true → Code to (after s t)
keep st to s t c w e i j same gs left ph el eo edf o0 c0 os0 cs0 n1 =
    let r = grow st to t i j same e in
    let ins : in_right s.phase ≡ true = ap in_right c.phase ∙ i in
    let lt = node_room s t n1 ins c.few w in
    let el' : next_left s.phase s.left t ≡ s.left = ap (λ p. next_left p s.left t) c.phase ∙ el in
    let nn = one_of (λ k. n1 k && ins k) in
    record {
      phase = ap (λ p. next_phase p t) c.phase ∙ ph;
      left = subst (LeftIs to) (sym el') (left c.left);
      byte = λ d k. c.byte d (sym el' ∙ k);
      enclosing = eo ∙ c.enclosing ∙ sym gs;
      deep = omega (arith, ap length gs, c.deep);
      opened = omega (arith, one_count is_opening (right_of st) (right_of to) t r, one_count is_closing (right_of st) (right_of to) t r, none_of o0, none_of c0, ap length gs, c.opened);
      squared = omega (arith, one_count opens_square (right_of st) (right_of to) t r, one_count closes_square (right_of st) (right_of to) t r, none_of os0, none_of cs0, ap (count_by is_square) gs, c.squared);
      nodes = omega (arith, nn, one_count is_node (right_of st) (right_of to) t r, one_of n1, c.nodes, ap nodes_of same);
      few = omega (arith, nn, lt);
      size = ap length edf ∙ c.size;
      defined = λ d. ap (λ l. get_or l d false) edf ∙ c.defined d ∙ ap (λ es. has es d) (sym same);
    }

enter : (es : List Line) (d : ℕ) (s : Progress) → Code (at es) s → in_right (phase_of (at es)) ≡ false → between (phase_of (at es)) ≡ true → next_phase (phase_of (at es)) (capital d) ≡ Left → d < 256 → Code (after_left es d) (after s (capital d))
enter es d s c i b ph lt =
    let el : next_left s.phase s.left (capital d) ≡ Some d = ap (λ p. cond (between p) (Some d) s.left) c.phase ∙ ap (λ v. cond v (Some d) s.left) b in
    let nn = none_of (ap in_right c.phase ∙ i) in
    record {
      phase = ap (λ p. next_phase p (capital d)) c.phase ∙ ph;
      left = el;
      byte = λ a k. let same : d ≡ a = cc in subst (λ n. n < 256) same lt;
      enclosing = c.enclosing;
      deep = c.deep;
      opened = c.opened;
      squared = c.squared;
      nodes = omega (arith, nn, c.nodes);
      few = omega (arith, nn, c.few);
      size = c.size;
      defined = c.defined;
    }

equal : (es : List Line) (d : ℕ) (s : Progress) → Code (after_left es d) s → Code (need (side es d) p_none m_none) (after s equals)
equal es d s c = record {
  phase = refl;
  left = c.left;
  byte = c.byte;
  enclosing = c.enclosing;
  deep = c.deep;
  opened = c.opened;
  squared = c.squared;
  nodes = omega (arith, c.nodes);
  few = omega (arith, c.few);
  size = c.size;
  defined = c.defined;
}

nodes_more : (es : List Line) (q : Line) → nodes_of (es ++ (q ∷ [])) ≡ nodes_of es + count is_node (sum_tokens q.right)
nodes_more [] q = omega arith
nodes_more (e ∷ es) q = omega (arith, nodes_more es q)

has_more : (es : List Line) (q : Line) (d : ℕ) → has (es ++ (q ∷ [])) d ≡ (has es d || eqb q.left d)
has_more [] q d = go (eqb q.left d)
  where
    go : (x : Bool) → (x || false) ≡ (false || x)
    go true = refl
    go false = refl
has_more (e ∷ es) q d = ap (λ x. eqb e.left d || x) (has_more es q d) ∙ go (eqb e.left d)
  where
    go : (x : Bool) → (x || (has es d || eqb q.left d)) ≡ (x || has es d || eqb q.left d)
    go true = refl
    go false = refl

now_next : (es : List Line) (q : Line) → Between ≡ phase_of (at (es ++ (q ∷ [])))
now_next [] q = refl
now_next (e ∷ es) q = refl

finish : (es : List Line) (d : ℕ) (p : Pre) (t : Term) (s : Progress) → Code (have (side es d) p t) s → Code (at (es ++ (record { left = d; right = with_term p t } ∷ []))) (after s semicolon)
finish es d p t s c =
    let ed = ap (with_letter s.defined) c.left in
    record {
      phase = now_next es q;
      left = refl;
      byte = λ a k. absurd (cc);
      enclosing = c.enclosing;
      deep = c.deep;
      opened = refl;
      squared = refl;
      nodes = omega (arith, c.nodes, nodes_more es q, ap (count is_node) (with_term_tokens p t));
      few = omega (arith, c.few);
      size = ap length ed ∙ length-set s.defined d true ∙ c.size;
      defined = λ k. ap (λ l. get_or l k false) ed ∙ look k (ℕ_discrete k d) ∙ sym (has_more es q k);
    }
  where
    q : Line
    q = record { left = d; right = with_term p t }

    look : (k : ℕ) → Dec (k ≡ d) → get_or (set s.defined d true) k false ≡ (has es k || eqb d k)
    look k (yes h) =
        ap (λ j. get_or (set s.defined d true) j false) h ∙ get_or-set_same s.defined d true false (omega (arith, c.size, c.byte d c.left)) ∙ sym (ap (λ x. has es k || x) (eq-eqb d k (sym h)) ∙ or-true (has es k))
    look k (no h) =
        get_or-set_other s.defined d k true false h ∙ c.defined k ∙ sym (ap (λ x. has es k || x) (ne_eqb d k (λ same. h (sym same))) ∙ or-false (has es k))

-- one group more
count_more : (gs : List Group) (g : Group) → count_by is_square (gs ++ (g ∷ [])) ≡ count_by is_square gs + cond (is_square g) 1 0
count_more gs g = sum_by-append (λ (x : Group). cond {A = ℕ} (is_square x) 1 0) gs (g ∷ []) ∙ omega arith

-- where an opening sign breaks no rule, there is room for it
pub room_to_open : (b : Place) (p : Pre) (m : Mul) (g : Group) (s : Progress) → Code (need b p m) s → Whole s (opens g) → length (stack_of b) < 16
room_to_open b p m g s c w = omega (arith, c.deep, ap length c.enclosing, leb-false 16 (length s.enclosing.items) w.shallow)

open_code : (b : Place) (p : Pre) (m : Mul) (g : Group) (s : Progress) → Code (need b p m) s → Whole s (opens g) → read (need (within g b p m) p_none m_none) ≡ read (need b p m) ++ (opens g ∷ []) → Code (need (within g b p m) p_none m_none) (after s (opens g))
open_code b p m g s c w e =
    let r = grow (need b p m) (need (within g b p m) p_none m_none) (opens g) refl refl refl e in
    let long = length-append (stack_of b) (g ∷ []) in
    let ins : in_right s.phase ≡ true = ap in_right c.phase in
    let nn = node_more g refl w.room ins in
    record {
      phase = refl;
      left = c.left;
      byte = c.byte;
      enclosing = ap (λ gs. gs ++ (g ∷ [])) c.enclosing;
      deep = omega (arith, long, room_to_open b p m g s c w);
      opened = omega (arith, one_count is_opening _ _ (opens g) r, one_count is_closing _ _ (opens g) r, long, c.opened);
      squared = omega (arith, one_count opens_square _ _ (opens g) r, one_count closes_square _ _ (opens g) r, count_more (stack_of b) g, c.squared);
      nodes = omega (arith, nn.0, c.nodes, one_count is_node _ _ (opens g) r);
      few = nn.1;
      size = c.size;
      defined = c.defined;
    }
  where
    node_more : (x : Group) → x ≡ g → (is_square x && (in_right s.phase && eqb s.nodes 64)) ≡ false → in_right s.phase ≡ true
        → (cond {A = ℕ} (is_square x && in_right s.phase) 1 0 ≡ cond (is_square x) 1 0) × (s.nodes + cond (is_square x && in_right s.phase) 1 0 ≤ 64)
    node_more round same room ins = (refl, omega (arith, c.few))
    node_more square same room ins =
        let lt = less s.nodes c.few (sym (ap (λ v. v && eqb s.nodes 64) ins) ∙ room) in
        let up = one_of ins in
        (up, omega (arith, up, lt))

close_code : (g : Group) (b : Place) (p : Pre) (m : Mul) (q : Pre) (t x : Term) (s : Progress) → Code (have (within g b p m) q t) s → read (have b p x) ≡ read (have (within g b p m) q t) ++ (closes g ∷ []) → Code (have b p x) (after s (closes g))
close_code g b p m q t x s c e =
    let st = have (within g b p m) q t in
    let r = grow st (have b p x) (closes g) refl refl refl e in
    let long = length-append (stack_of b) (g ∷ []) in
    record {
      phase = refl;
      left = c.left;
      byte = c.byte;
      enclosing = ap (λ gs. take (length gs - 1) gs) c.enclosing ∙ ap (λ n. take n (stack_of b ++ (g ∷ []))) (omega (arith, long)) ∙ take-append_seam (stack_of b) (g ∷ []);
      deep = omega (arith, long, c.deep);
      opened = omega (arith, one_count is_opening _ _ (closes g) r, one_count is_closing _ _ (closes g) r, long, c.opened);
      squared = omega (arith, one_count opens_square _ _ (closes g) r, one_count closes_square _ _ (closes g) r, count_more (stack_of b) g, c.squared);
      nodes = omega (arith, c.nodes, one_count is_node _ _ (closes g) r);
      few = omega (arith, c.few);
      size = c.size;
      defined = c.defined;
    }

-- where the machine steps, the fields follow
abbrev Follows : State → Kind → Option State → Type 0
Follows st t None = Unit {0}
Follows st t (Some to) = (s : Progress) → Code st s → Whole s t → Letter t → read to ≡ read st ++ (t ∷ []) → Code to (after s t)

follow : (st : State) (t : Kind) → Follows st t (step st t)
follow (at []) (capital d) = λ s c w l e. enter [] d s c refl refl refl l
follow (at []) _ = tt
follow (at (f ∷ es)) (capital d) = λ s c w l e. enter (f ∷ es) d s c refl refl refl l
follow (at (f ∷ es)) _ = tt
follow (after_left es c) equals = λ s k w l e. equal es c s k
follow (after_left es c) _ = tt
follow (need b p m) (number ds) = λ s c w l e. keep (need b p m) (have b p _) s (number ds) c w e refl refl refl refl (λ h. h) refl refl refl refl refl refl refl refl refl
follow (need b p m) (capital d) = λ s c w l e. keep (need b p m) (have b p _) s (capital d) c w e refl refl refl refl (λ h. h) refl refl refl refl refl refl refl refl refl
follow (need b p m) (small d) = λ s c w l e. keep (need b p m) (have b p _) s (small d) c w e refl refl refl refl (λ h. h) refl refl refl refl refl refl refl refl refl
follow (need b p m) (opens g) = λ s c w l e. open_code b p m g s c w e
follow (need b p m) _ = tt
follow (have (side es c) p t) semicolon = λ s k w l e. finish es c p t s k
follow (have (within g b q m) p t) semicolon = tt
follow (have b p t) plus = λ s c w l e. keep (have b p t) (need b _ _) s plus c w e refl refl refl refl (λ h. h) refl refl refl refl refl refl refl refl refl
follow (have b p t) minus = λ s c w l e. keep (have b p t) (need b _ _) s minus c w e refl refl refl refl (λ h. h) refl refl refl refl refl refl refl refl refl
follow (have b p t) star = λ s c w l e. keep (have b p t) (need b _ _) s star c w e refl refl refl refl (λ h. h) refl refl refl refl refl refl refl refl refl
follow (have (side es c) p t) (closes g) = tt
follow (have (within round b q m) p t) (closes round) = λ s c w l e. close_code round b q m p t _ s c e
follow (have (within round b q m) p t) (closes square) = tt
follow (have (within square b q m) p t) (closes round) = tt
follow (have (within square b q m) p t) (closes square) = λ s c w l e. close_code square b q m p t _ s c e
follow (have b p t) _ = tt

pub follows : (st to : State) (s : Progress) (t : Kind) → step st t ≡ Some to → Code st s → Whole s t → Letter t → Code to (after s t)
follows st to s t h c w l = subst (Follows st t) h (follow st t) s c w l (subst (Reads st t) h (reads st t))
