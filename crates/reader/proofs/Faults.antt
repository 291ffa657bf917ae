-- The machine's tests are the rules, and its first failed test is the text's fault.
use Rattle.std.proofs.Common.{◌≡◌, ℕ, ◌+◌, ◌≤◌, Bool, true, false, cond, not, ◌&&◌, ◌||◌, T, eqb, ltb, leb, ◌⊎◌, ◌↔◌, List, [], ◌∷◌, ◌++◌, length, sym, refl, ap, ◌∙◌, subst, inl, inr, append_assoc, append-nil, arith, le→leb, eqb→eq, ltb→lt, lt→ltb, leb→le, T_not, eq-eqb, Some, None, Option}
use mathlib.Core.List.{nil≢cons, head-eq_of_cons-eq, tail-eq_of_cons-eq}
use Rattle.std.proofs.Math.Dec.{not_T}
use Rattle.std.proofs.lemmas.List.{map-append}
use Rattle.systems.specs.Trees.{System, UnknownOf}
use Rattle.tokens.specs.Kinds.{Kind, capital, equals}
use Rattle.tokens.specs.Tokens.{Token}
use Rattle.reader.specs.declared.fault.Rule.{Rule}
use Rattle.reader.specs.declared.fault.Rule.TheVariants.{TooLong, NoToken, LongNumber, NotAllowed, TooDeep, Repeated, TooEarly, NoEquation, TooManyNodes}
use Rattle.reader.specs.Sorts.{count, is_stray, is_opening, is_node, digits_of}
use Rattle.reader.specs.Grammar.{AreEquations, Viable}
use Rattle.reader.specs.Nodes.{nodes}
use Rattle.reader.specs.Rules.{groups, brackets, Within, number_of, Breaks, kinds, Clean, First, Known, FirstUnknown}
use Rattle.reader.proofs.Derivations.{Line, tokens_of, system_of, has, nodes_of, Side}
use Rattle.reader.proofs.Related.{lines_are, lines_from}
use Rattle.reader.proofs.Machine.{State, at, after_left, need, have, step, next, run, run-++, complete}
use Rattle.reader.proofs.Sound.{read, start, sound}
use Rattle.reader.proofs.Exact.{viable}
use Rattle.reader.proofs.Sides.{over_right, at_start, right_read, read_right}
use Rattle.reader.proofs.Sizes.{same_nodes}

both : (a b : Bool) → T (a && b) ↔ (T a × T b)
both true true = (λ h. (tt, tt), λ h. tt)
both true false = (λ h. absurd h, λ h. h.1)
both false true = (λ h. absurd h, λ h. h.0)
both false false = (λ h. absurd h, λ h. h.1)

eq_T : (a b : ℕ) → a ≡ b → T (eqb a b)
eq_T a b e = subst T (sym (eq-eqb a b e)) tt

abbrev pub is_none : Option State → Bool
is_none None = true
is_none (Some st) = false

abbrev pub name_test : Kind → (ℕ → Bool) → Bool
name_test (capital c) f = f c
name_test _ f = false

named : (t : Kind) (f : ℕ → Bool) → T (name_test t f) ↔ ((c : ℕ) × (t ≡ capital c) × T (f c))
named t f = (go t, λ h. subst (λ (u : Kind). T (name_test u f)) (sym h.1) h.2)
  where
    go : (u : Kind) → T (name_test u f) → (c : ℕ) × (u ≡ capital c) × T (f c)
    go (capital c) h = (c, refl, h)
    go _ h = absurd h

-- whether the token t breaks a rule in this state
abbrev pub test : State → Kind → Rule → Bool
test st t TooLong = false
test st t NoToken = is_stray t
test st t LongNumber = ltb 9 (length (digits_of t))
test st t NotAllowed = is_none (step st t)
test st t TooDeep = is_opening t && over_right st (λ es r. leb 16 (groups r))
test st t Repeated = name_test t (λ c. at_start st (λ es. has es c))
test st t TooEarly = name_test t (λ c. over_right st (λ es r. eqb (brackets r) 0 && not (has es c)))
test st t NoEquation = false
test st t TooManyNodes = is_node t && over_right st (λ es r. eqb (nodes_of es + count is_node r) 64)

-- ---- whole lines, and the equations that they stand for

or_fact : (x y : Bool) {P Q : Type 0} → (T x ↔ P) → (T y ↔ Q) → T (x || y) ↔ (P ⊎ Q)
or_fact true y a b = (λ h. inl (a.0 tt), λ h. tt)
or_fact false y a b = (λ h. inr (b.0 h), λ h. elim h [ inl p ↦ absurd (a.1 p) | inr q ↦ b.1 q ])

pub has_unknown : (es : List Line) (a : ℕ) → T (has es a) ↔ UnknownOf a (system_of es)
has_unknown [] a = (λ h. absurd h, λ h. absurd h)
has_unknown (q ∷ es) a = or_fact (eqb q.left a) (has es a) (λ h. sym (eqb→eq q.left a h), λ e. eq_T q.left a (sym e)) (has_unknown es a)

pub not_unknown : (es : List Line) (a : ℕ) → T (not (has es a)) ↔ ¬ (UnknownOf a (system_of es))
not_unknown es a = (λ h w. T_not _ h ((has_unknown es a).1 w), λ n. not_T _ (λ h. n ((has_unknown es a).0 h)))

-- a fact about where the tokens stand, by lines and by equations
abbrev within_of : (before : List Kind) → Side before → Within before
within_of before s = record { whole = system_of s.whole; written = tokens_of s.whole; left = s.left; part = s.right; equations = lines_are s.whole; split = s.split; unended = s.unended }

module _ (before : List Kind) (P : System → List Kind → Type 0) where
  pub to_within : (s : Side before) × P (system_of s.whole) s.right → (w : Within before) × P w.whole w.part
  to_within h = (within_of before h.0, h.1)

  pub from_within : (w : Within before) × P w.whole w.part → (s : Side before) × P (system_of s.whole) s.right
  from_within h =
      let w = h.0 in
      let l = lines_from w.equations in (
        record { whole = l.0; left = w.left; right = w.part; split = w.split ∙ ap (λ x. x ++ (capital w.left ∷ equals ∷ w.part)) (sym l.1); unended = w.unended },
        subst (λ (S : System). P S w.part) (sym l.2) h.1,
      )

start_read : (before : List Kind) (st : State) → run start before ≡ Some st → (a : ℕ) → T (at_start st (λ es. has es a)) ↔ ((S : System) × AreEquations before S × UnknownOf a S)
start_read before st e a = (go st (sound before st e), back)
  where
    over : Option State → Bool
    over None = false
    over (Some to) = at_start to (λ es. has es a)

    go : (to : State) → read to ≡ before → T (at_start to (λ es. has es a)) → (S : System) × AreEquations before S × UnknownOf a S
    go (at es) same h = (system_of es, subst (λ (l : List Kind). AreEquations l (system_of es)) same (lines_are es), (has_unknown es a).0 h)
    go (after_left es c) same h = absurd h
    go (need b p m) same h = absurd h
    go (have b p t) same h = absurd h

    back : (S : System) × AreEquations before S × UnknownOf a S → T (at_start st (λ es. has es a))
    back h =
        let l = lines_from h.1 in
        subst (λ (o : Option State). T (over o)) (sym (complete l.0) ∙ ap (run start) l.1 ∙ e) ((has_unknown l.0 a).1 (subst (UnknownOf a) (sym l.2) h.2))

module _ (before : List Kind) (st : State) (e : run start before ≡ Some st) where
  -- a test of lines and of the part of a right side, and the fact that it decides
  sides : (f : List Line → List Kind → Bool) (P : System → List Kind → Type 0) → ((es : List Line) (r : List Kind) → T (f es r) ↔ P (system_of es) r)
      → T (over_right st f) ↔ ((w : Within before) × P w.whole w.part)
  sides f P same = (
    λ h. let s = subst (λ (l : List Kind). (s : Side l) × T (f s.whole s.right)) (sound before st e) (right_read st f h) in to_within before P (s.0, (same s.0.whole s.0.right).0 s.1),
    λ h. let s = from_within before P h in read_right before st e f s.0 ((same s.0.whole s.0.right).1 s.1),
  )

  goes : (t : Kind) → run start (before ++ (t ∷ [])) ≡ step st t
  goes t = run-++ start before (t ∷ []) ∙ ap (λ o. next o t) e

  stuck : (t : Kind) → T (is_none (step st t)) → Viable (before ++ (t ∷ [])) → ⊥
  stuck t h v = let g = (viable (before ++ (t ∷ []))).0 v in subst (λ (o : Option State). T (is_none o)) (sym (goes t) ∙ g.1) h

  moves : (t : Kind) → (Viable (before ++ (t ∷ [])) → ⊥) → T (is_none (step st t))
  moves t n = go (step st t) refl
    where
      go : (o : Option State) → step st t ≡ o → T (is_none o)
      go None h = tt
      go (Some to) h = n ((viable (before ++ (t ∷ []))).1 (to, goes t ∙ h))

  deep : T (over_right st (λ es r. leb 16 (groups r))) ↔ ((w : Within before) × (16 ≤ groups w.part))
  deep = sides _ (λ S r. 16 ≤ groups r) (λ es r. (leb→le 16 _, le→leb 16 _))

  early : (a : ℕ) → T (over_right st (λ es r. eqb (brackets r) 0 && not (has es a))) ↔ ((w : Within before) × ((brackets w.part ≡ 0) × ¬ (UnknownOf a w.whole)))
  early a = sides _ (λ S r. (brackets r ≡ 0) × ¬ (UnknownOf a S)) (λ es r. (
    λ h. let p = (both (eqb (brackets r) 0) _).0 h in (eqb→eq _ 0 p.0, (not_unknown es a).0 p.1),
    λ h. (both (eqb (brackets r) 0) _).1 (eq_T _ 0 h.0, (not_unknown es a).1 h.1),
  ))

  many : T (over_right st (λ es r. eqb (nodes_of es + count is_node r) 64)) ↔ ((w : Within before) × (nodes w.whole + count is_node w.part ≡ 64))
  many = sides _ (λ S r. nodes S + count is_node r ≡ 64) (λ es r. (
    λ h. ap (λ n. n + count is_node r) (sym (same_nodes es)) ∙ eqb→eq _ 64 h,
    λ h. eq_T _ 64 (ap (λ n. n + count is_node r) (same_nodes es) ∙ h),
  ))

  pub exact : (k : Rule) (t : Kind) → T (test st t k) ↔ Breaks k before t
  exact TooLong t = (λ h. h, λ h. h)
  exact NoToken t = (λ h. h, λ h. h)
  exact LongNumber t = (ltb→lt 9 (length (digits_of t)), lt→ltb 9 (length (digits_of t)))
  exact NotAllowed t = (stuck t, moves t)
  exact TooDeep t = (λ h. let p = (both (is_opening t) _).0 h in (p.0, deep.0 p.1), λ h. (both (is_opening t) _).1 (h.0, deep.1 h.1))
  exact Repeated t = (
    λ h. let n = (named t _).0 h in (n.0, n.1, (start_read before st e n.0).0 n.2),
    λ h. (named t (λ a. at_start st (λ es. has es a))).1 (h.0, h.1, (start_read before st e h.0).1 h.2),
  )
  exact TooEarly t = (
    λ h. let n = (named t _).0 h in let w = (early n.0).0 n.2 in (n.0, n.1, (w.0, w.1.0, w.1.1)),
    λ h. (named t (λ a. over_right st (λ es r. eqb (brackets r) 0 && not (has es a)))).1 (h.0, h.1, (early h.0).1 (h.2.0, (h.2.1, h.2.2))),
  )
  exact NoEquation t = (λ h. h, λ h. h)
  exact TooManyNodes t = (λ h. let p = (both (is_node t) _).0 h in (p.0, many.0 p.1), λ h. (both (is_node t) _).1 (h.0, many.1 h.1))

-- the first rule of a list whose test fails
abbrev pub first : (Rule → Bool) → List Rule → Option Rule
first f [] = None
first f (k ∷ ks) = cond (f k) (Some k) (first f ks)

abbrev pub Among : Rule → List Rule → Type 0
Among j [] = ⊥
Among j (k ∷ ks) = (j ≡ k) ⊎ Among j ks

abbrev pub Ascending : List Rule → Type 0
Ascending [] = Unit {0}
Ascending (k ∷ ks) = ((j : Rule) → Among j ks → number_of k ≤ number_of j) × Ascending ks

abbrev pub Least : (Rule → Bool) → List Rule → Option Rule → Type 0
Least f ks None = (j : Rule) → Among j ks → T (f j) → ⊥
Least f ks (Some k) = T (f k) × ((j : Rule) → Among j ks → T (f j) → number_of k ≤ number_of j)

pub least : (f : Rule → Bool) (ks : List Rule) → Ascending ks → Least f ks (first f ks)
least f [] a = λ j m h. m
least f (k ∷ ks) a = go (f k) refl (first f ks) (least f ks a.1)
  where
    go : (x : Bool) → f k ≡ x → (o : Option Rule) → Least f ks o → Least f (k ∷ ks) (cond x (Some k) o)
    go true e o h = (subst T (sym e) tt, λ j m t. elim m [ inl same ↦ omega (arith, ap number_of same) | inr more ↦ a.0 j more ])
    go false e None h = λ j m t. elim m [ inl same ↦ subst T (ap f same ∙ e) t | inr more ↦ h j more t ]
    go false e (Some i) h = (h.0, λ j m t. elim m [ inl same ↦ absurd (subst T (ap f same ∙ e) t) | inr more ↦ h.1 j more t ])

abbrev pub rules : List Rule
rules = TooLong ∷ NoToken ∷ LongNumber ∷ NotAllowed ∷ TooDeep ∷ Repeated ∷ TooEarly ∷ NoEquation ∷ TooManyNodes ∷ []

pub among_all : (j : Rule) → Among j rules
among_all TooLong = inl refl
among_all NoToken = inr (inl refl)
among_all LongNumber = inr (inr (inl refl))
among_all NotAllowed = inr (inr (inr (inl refl)))
among_all TooDeep = inr (inr (inr (inr (inl refl))))
among_all Repeated = inr (inr (inr (inr (inr (inl refl)))))
among_all TooEarly = inr (inr (inr (inr (inr (inr (inl refl))))))
among_all NoEquation = inr (inr (inr (inr (inr (inr (inr (inl refl)))))))
among_all TooManyNodes = inr (inr (inr (inr (inr (inr (inr (inr (inl refl))))))))

low : (n : ℕ) (ks : List Rule) → Type 0
low n [] = Unit {0}
low n (k ∷ ks) = (n ≤ number_of k) × low n ks

low_among : (n : ℕ) (ks : List Rule) → low n ks → (j : Rule) → Among j ks → n ≤ number_of j
unfolding low
low_among n [] h j m = absurd m
low_among n (k ∷ ks) h j (inl same) = omega (arith, h.0, ap number_of same)
low_among n (k ∷ ks) h j (inr more) = low_among n ks h.1 j more

abbrev Lows : List Rule → Type 0
Lows [] = Unit {0}
Lows (k ∷ ks) = low (number_of k) ks × Lows ks

ascends : (ks : List Rule) → Lows ks → Ascending ks
ascends [] h = tt
ascends (k ∷ ks) h = (low_among (number_of k) ks h.0, ascends ks h.1)

pub ascending : Ascending rules
unfolding low
ascending = ascends rules (omega arith, (omega arith, (omega arith, (omega arith, (omega arith, (omega arith, (omega arith, (omega arith, (tt, tt)))))))))

pub data Scan : Type 0 where
  stop : Rule → ℕ → Scan
  end : State → Scan

abbrev pub stepped : State → Kind → State
stepped st t = elim (step st t) [ None ↦ st | Some to ↦ to ]

-- the machine over the tokens of a text, with every rule
abbrev pub scan : State → List Token → Scan
scan st [] = end st
scan st (t ∷ ts) = elim (first (test st t.kind) rules) [ None ↦ scan (stepped st t.kind) ts | Some k ↦ stop k t.place ]

-- the tokens before the last one, or the last one
snoc_split : (before : List Token) (t : Token) (b : List Token) (u : Token) (a : List Token) → before ++ (t ∷ []) ≡ b ++ (u ∷ a) → ((b ≡ before) × (u ≡ t)) ⊎ ((a' : List Token) × (before ≡ b ++ (u ∷ a')))
snoc_split [] t [] u a e = inl (refl, sym (head-eq_of_cons-eq e))
snoc_split [] t (x ∷ []) u a e = absurd (nil≢cons (tail-eq_of_cons-eq e))
snoc_split [] t (x ∷ y ∷ b) u a e = absurd (nil≢cons (tail-eq_of_cons-eq e))
snoc_split (y ∷ ys) t [] u a e = inr (ys, ap (λ z. z ∷ ys) (head-eq_of_cons-eq e))
snoc_split (y ∷ ys) t (x ∷ b) u a e =
    elim (snoc_split ys t b u a (tail-eq_of_cons-eq e)) [
      | inl h ↦ inl ((λ i. sym (head-eq_of_cons-eq e) i ∷ h.0 i), h.1)
      | inr h ↦ inr (h.0, λ i. head-eq_of_cons-eq e i ∷ h.1 i)
    ]

pub not_none : (b : List Token) (u : Token) (a : List Token) → [] ≡ b ++ (u ∷ a) → ⊥
not_none [] u a e = nil≢cons e
not_none (x ∷ b) u a e = nil≢cons e

clean_more : (before : List Token) (t : Token) → Clean before → ((k : Rule) → Breaks k (kinds before) t.kind → ⊥) → Clean (before ++ (t ∷ []))
clean_more before t c n b u a e k h =
    elim (snoc_split before t b u a e) [
      | inl same ↦ n k (subst (λ (v : Token). Breaks k (kinds before) v.kind) same.1 (subst (λ (l : List Token). Breaks k (kinds l) u.kind) same.0 h))
      | inr more ↦ c b u more.0 more.1 k h
    ]

-- tokens with kinds of their own before a kind
pub record KindsSplit (ts : List Token) (before_kinds : List Kind) (k : Kind) : Type 0 where
  pub before : List Token
  pub at : Token
  pub after : List Token
  pub split : ts ≡ before ++ (at ∷ after)
  pub before_is : kinds before ≡ before_kinds
  pub at_is : at.kind ≡ k

pub kinds_split : (ts : List Token) (before : List Kind) (k : Kind) (after : List Kind) → kinds ts ≡ before ++ (k ∷ after) → KindsSplit ts before k
kinds_split [] [] k after e = absurd (nil≢cons e)
kinds_split [] (j ∷ before) k after e = absurd (nil≢cons e)
kinds_split (t ∷ ts) [] k after e = record { before = []; at = t; after = ts; split = refl; before_is = refl; at_is = head-eq_of_cons-eq e }
kinds_split (t ∷ ts) (j ∷ before) k after e =
    let s = kinds_split ts before k after (tail-eq_of_cons-eq e) in
    record { before = t ∷ s.before; at = s.at; after = s.after; split = ap (λ l. t ∷ l) s.split; before_is = (λ i. head-eq_of_cons-eq e i ∷ s.before_is i); at_is = s.at_is }

pub steps : (o : Option State) (st : State) → (T (is_none o) → ⊥) → o ≡ Some (elim o [ None ↦ st | Some to ↦ to ])
steps None st n = absurd (n tt)
steps (Some to) st n = refl

abbrev pub Scanned : List Token → Scan → Type 0
Scanned all (stop k p) = First all k p
Scanned all (end st) = Clean all × (run start (kinds all) ≡ Some st)

pub scanned : (ts before : List Token) (st : State) → run start (kinds before) ≡ Some st → Clean before → Scanned (before ++ ts) (scan st ts)
scanned [] before st e c = subst (λ (l : List Token). Clean l × (run start (kinds l) ≡ Some st)) (sym (append-nil before)) (c, e)
scanned (t ∷ ts) before st e c = go (scanned ts (before ++ (t ∷ [])) (stepped st t.kind)) (first (test st t.kind) rules) (least (test st t.kind) rules ascending)
  where
    go : (run start (kinds (before ++ (t ∷ []))) ≡ Some (stepped st t.kind) → Clean (before ++ (t ∷ [])) → Scanned (before ++ (t ∷ []) ++ ts) (scan (stepped st t.kind) ts)) → (o : Option Rule) → Least (test st t.kind) rules o → Scanned (before ++ (t ∷ ts)) (elim o [ None ↦ scan (stepped st t.kind) ts | Some k ↦ stop k t.place ])
    go more None h =
        subst (λ (l : List Token). Scanned l (scan (stepped st t.kind) ts)) (append_assoc before (t ∷ []) ts)
        (more
        (ap (run start) (map-append (λ (t : Token). t.kind) before (t ∷ [])) ∙ goes (kinds before) st e t.kind ∙ steps (step st t.kind) st (h NotAllowed (among_all NotAllowed)))
        (clean_more before t c (λ k b. h k (among_all k) ((exact (kinds before) st e k t.kind).1 b))))
    go more (Some k) h = record {
      before = before;
      at = t;
      after = ts;
      split = refl;
      clean = c;
      breaks = (exact (kinds before) st e k t.kind).0 h.0;
      lowest = λ j b. h.1 j (among_all j) ((exact (kinds before) st e j t.kind).1 b);
      placed = refl;
    }

-- ---- capitals without an equation

-- the place of the first
abbrev pub unknown : List Line → List Token → Option ℕ
unknown es [] = None
unknown es (t ∷ ts) = cond (name_test t.kind (λ a. not (has es a))) (Some t.place) (unknown es ts)

abbrev pub Looked : List Line → List Token → Option ℕ → Type 0
Looked es ts None = Known (system_of es) ts
Looked es ts (Some p) = FirstUnknown (system_of es) ts p

known_more : (S : System) (before : List Token) (t : Token) → Known S before → ((a : ℕ) → t.kind ≡ capital a → UnknownOf a S) → Known S (before ++ (t ∷ []))
known_more S before t k n b u a e c same =
    elim (snoc_split before t b u a e) [
      | inl h ↦ n c (sym (ap (λ (v : Token). v.kind) h.1) ∙ same)
      | inr h ↦ k b u h.0 h.1 c same
    ]

looked : (es : List Line) (ts before : List Token) → Known (system_of es) before → Looked es (before ++ ts) (unknown es ts)
looked es [] before k = subst (Known (system_of es)) (sym (append-nil before)) k
looked es (t ∷ ts) before k = go (looked es ts (before ++ (t ∷ []))) (name_test t.kind (λ a. not (has es a))) refl
  where
    sure : (a : ℕ) (x : Bool) → has es a ≡ x → (T (not x) → ⊥) → UnknownOf a (system_of es)
    sure a true e n = (has_unknown es a).0 (subst T (sym e) tt)
    sure a false e n = absurd (n tt)

    go : (Known (system_of es) (before ++ (t ∷ [])) → Looked es (before ++ (t ∷ []) ++ ts) (unknown es ts)) → (x : Bool) → name_test t.kind (λ a. not (has es a)) ≡ x → Looked es (before ++ (t ∷ ts)) (cond x (Some t.place) (unknown es ts))
    go more true e =
        let n = (named t.kind (λ a. not (has es a))).0 (subst T (sym e) tt) in
        record { before = before; at = t; after = ts; split = refl; known = k; name = n.0; capital_at = n.1; without = (not_unknown es n.0).0 n.2; placed = refl }
    go more false e =
        subst (λ (l : List Token). Looked es l (unknown es ts)) (append_assoc before (t ∷ []) ts)
        (more (known_more (system_of es) before t k (λ a same. sure a (has es a) refl (λ h. subst T e ((named t.kind (λ a. not (has es a))).1 (a, same, h))))))

pub all_looked : (es : List Line) (ts : List Token) → Looked es ts (unknown es ts)
all_looked es ts = looked es ts [] (λ b u a h. absurd (not_none b u a h))
