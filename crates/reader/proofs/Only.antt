-- A text has one outcome.
use Rattle.std.proofs.Common.{◌≡◌, ℕ, ◌<◌, ◌≤◌, cond, eqb, ◌⊎◌, List, [], ◌∷◌, ◌++◌, length, Ok, Err, Result, sym, refl, ap, ◌∙◌, subst, inl, inr, arith}
use mathlib.Core.List.{head-eq_of_cons-eq, tail-eq_of_cons-eq}
use Rattle.systems.specs.Trees.{System}
use Rattle.tokens.specs.Tokens.{Token, Tokens}
use Rattle.tokens.proofs.Listing.{tokens_from, only_tokens}
use Rattle.reader.specs.declared.fault.Rule.{Rule}
use Rattle.reader.specs.declared.fault.Rule.TheVariants.{TooLong, NoToken, LongNumber, NotAllowed, TooDeep, Repeated, TooEarly, NoEquation, TooManyNodes}
use Rattle.reader.specs.declared.fault.TextFault.{TextFault}
use Rattle.reader.specs.Grammar.{IsSystem}
use Rattle.reader.specs.Rules.{number_of, Breaks, kinds, Clean, First, Known, FirstUnknown}
use Rattle.reader.specs.Examining.{Accepts, fault, Faulty, of_bytes, of_token, of_end, of_name, Examined}
use Rattle.reader.specs.Nodes.{nodes}
use Rattle.reader.specs.Outcomes.{TextLaws}
use Rattle.reader.proofs.Accepted.{solvable}
use Rattle.reader.proofs.Answering.{answer, examined}
use Rattle.reader.proofs.Exact.{one_reading}
use Rattle.reader.proofs.Reading.{accepted_ends, few_nodes}

-- a rule is known by its number
rule_of : ℕ → Rule
rule_of n =
    cond (eqb n 10) TooLong (cond (eqb n 11) NoToken (cond (eqb n 12) LongNumber (cond (eqb n 13) NotAllowed (cond (eqb n 14) TooDeep
    (cond (eqb n 15) Repeated (cond (eqb n 16) TooEarly (cond (eqb n 17) NoEquation TooManyNodes)))))))

numbered : (k : Rule) → rule_of (number_of k) ≡ k
unfolding rule_of
numbered TooLong = refl
numbered NoToken = refl
numbered LongNumber = refl
numbered NotAllowed = refl
numbered TooDeep = refl
numbered Repeated = refl
numbered TooEarly = refl
numbered NoEquation = refl
numbered TooManyNodes = refl

-- two tokens of one list: the same, or one before the other
abbrev Ways : List Token → Token → List Token → Token → Type 0
Ways b u c v = ((b ≡ c) × (u ≡ v)) ⊎ (((x : List Token) × (b ≡ c ++ (v ∷ x))) ⊎ ((x : List Token) × (c ≡ b ++ (u ∷ x))))

ways : (b : List Token) (u : Token) (a c : List Token) (v : Token) (d : List Token) → b ++ (u ∷ a) ≡ c ++ (v ∷ d) → Ways b u c v
ways [] u a [] v d e = inl (refl, head-eq_of_cons-eq e)
ways [] u a (y ∷ c) v d e = inr (inr (c, ap (λ z. z ∷ c) (sym (head-eq_of_cons-eq e))))
ways (x ∷ b) u a [] v d e = inr (inl (b, ap (λ z. z ∷ b) (head-eq_of_cons-eq e)))
ways (x ∷ b) u a (y ∷ c) v d e = go (ways b u a c v d (tail-eq_of_cons-eq e))
  where
    h : x ≡ y
    h = head-eq_of_cons-eq e

    go : Ways b u c v → Ways (x ∷ b) u (y ∷ c) v
    go (inl w) = inl ((λ i. h i ∷ w.0 i), w.1)
    go (inr (inl w)) = inr (inl (w.0, λ i. h i ∷ w.1 i))
    go (inr (inr w)) = inr (inr (w.0, λ i. sym h i ∷ w.1 i))

first_first : (ts : List Token) (k j : Rule) (p q : ℕ) → First ts k p → First ts j q → fault k p ≡ fault j q
first_first ts k j p q f g = go (ways _ _ _ _ _ _ (sym f.split ∙ g.split))
  where
    go : Ways f.before f.at g.before g.at → fault k p ≡ fault j q
    go (inl w) =
        let over : Breaks k (kinds g.before) g.at.kind = subst (λ (u : Token). Breaks k (kinds g.before) u.kind) w.1 (subst (λ (l : List Token). Breaks k (kinds l) f.at.kind) w.0 f.breaks) in
        let back : Breaks j (kinds f.before) f.at.kind = subst (λ (u : Token). Breaks j (kinds f.before) u.kind) (sym w.1) (subst (λ (l : List Token). Breaks j (kinds l) g.at.kind) (sym w.0) g.breaks) in
        let same : number_of k ≡ number_of j = omega (arith, f.lowest j back, g.lowest k over) in
        let rule : k ≡ j = sym (numbered k) ∙ ap rule_of same ∙ numbered j in
        let there : p ≡ q = f.placed ∙ ap (λ (u : Token). u.place) w.1 ∙ sym g.placed in
        λ i. fault (rule i) (there i)
    go (inr (inl w)) = absurd (f.clean g.before g.at w.0 w.1 j g.breaks)
    go (inr (inr w)) = absurd (g.clean f.before f.at w.0 w.1 k f.breaks)

not_clean : (ts : List Token) (k : Rule) (p : ℕ) → First ts k p → Clean ts → ⊥
not_clean ts k p f c = c f.before f.at f.after f.split k f.breaks

unknown_unknown : (S : System) (ts : List Token) (p q : ℕ) → FirstUnknown S ts p → FirstUnknown S ts q → p ≡ q
unknown_unknown S ts p q f g = go (ways _ _ _ _ _ _ (sym f.split ∙ g.split))
  where
    go : Ways f.before f.at g.before g.at → p ≡ q
    go (inl w) = f.placed ∙ ap (λ (u : Token). u.place) w.1 ∙ sym g.placed
    go (inr (inl w)) = absurd (g.without (f.known g.before g.at w.0 w.1 g.name g.capital_at))
    go (inr (inr w)) = absurd (f.without (g.known f.before f.at w.0 w.1 f.name f.capital_at))

not_known : (S : System) (ts : List Token) (p : ℕ) → FirstUnknown S ts p → Known S ts → ⊥
not_known S ts p f k = f.without (k f.before f.at f.after f.split f.name f.capital_at)

-- ---- why a text has a fault, over the list of its tokens

abbrev AtToken : List ℕ → TextFault → Type 0
AtToken bs f = (k : Rule) × (p : ℕ) × First (tokens_from 0 bs) k p × (f ≡ fault k p)

abbrev AtEnd : List ℕ → TextFault → Type 0
AtEnd bs f = Clean (tokens_from 0 bs) × ((S : System) → ¬ (IsSystem (kinds (tokens_from 0 bs)) S)) × (f ≡ fault NotAllowed (length bs))

abbrev AtName : List ℕ → TextFault → Type 0
AtName bs f = Clean (tokens_from 0 bs) × (S : System) × IsSystem (kinds (tokens_from 0 bs)) S × (p : ℕ) × FirstUnknown S (tokens_from 0 bs) p × (f ≡ fault NoEquation p)

abbrev Why : List ℕ → TextFault → Type 0
Why bs f = ((4096 < length bs) × (f ≡ fault TooLong 4096)) ⊎ ((length bs ≤ 4096) × (AtToken bs f ⊎ (AtEnd bs f ⊎ AtName bs f)))

-- a fact about the tokens, said of the list that is worked out
of_list : {bs : List ℕ} {ts : List Token} (P : List Token → Type 0) → Tokens 0 bs ts → P ts → P (tokens_from 0 bs)
of_list P w h = subst P (sym (only_tokens w)) h

why : (bs : List ℕ) (f : TextFault) → Faulty bs f → Why bs f
why bs f (of_bytes h) = inl (h, refl)
why bs f (of_token h ts w k p first) = inr (h, inl (k, p, of_list (λ l. First l k p) w first, refl))
why bs f (of_end h ts w clean none) = inr (h, inr (inl (of_list Clean w clean, of_list (λ l. (S : System) → ¬ (IsSystem (kinds l) S)) w none, refl)))
why bs f (of_name h ts w clean S system p first) =
    inr (h, inr (inr (of_list Clean w clean, S, of_list (λ l. IsSystem (kinds l) S) w system, p, of_list (λ l. FirstUnknown S l p) w first, refl)))

one_why : (bs : List ℕ) (f g : TextFault) → Why bs f → Why bs g → f ≡ g
one_why bs f g (inl a) (inl b) = a.1 ∙ sym b.1
one_why bs f g (inl a) (inr b) = absurd (omega (arith, a.0, b.0))
one_why bs f g (inr a) (inl b) = absurd (omega (arith, a.0, b.0))
one_why bs f g (inr a) (inr b) = go a.1 b.1
  where
    all : List Token
    all = tokens_from 0 bs

    go : AtToken bs f ⊎ (AtEnd bs f ⊎ AtName bs f) → AtToken bs g ⊎ (AtEnd bs g ⊎ AtName bs g) → f ≡ g
    go (inl u) (inl v) = u.3 ∙ first_first (tokens_from 0 bs) u.0 v.0 u.1 v.1 u.2 v.2 ∙ sym v.3
    go (inl u) (inr (inl v)) = absurd (not_clean (tokens_from 0 bs) u.0 u.1 u.2 v.0)
    go (inl u) (inr (inr v)) = absurd (not_clean (tokens_from 0 bs) u.0 u.1 u.2 v.0)
    go (inr (inl u)) (inl v) = absurd (not_clean (tokens_from 0 bs) v.0 v.1 v.2 u.0)
    go (inr (inr u)) (inl v) = absurd (not_clean (tokens_from 0 bs) v.0 v.1 v.2 u.0)
    go (inr (inl u)) (inr (inl v)) = u.2 ∙ sym v.2
    go (inr (inl u)) (inr (inr v)) = absurd (u.1 v.1 v.2)
    go (inr (inr u)) (inr (inl v)) = absurd (v.1 u.1 u.2)
    go (inr (inr u)) (inr (inr v)) =
        let same = one_reading (kinds (tokens_from 0 bs)) u.1 v.1 u.2 v.2 in
        u.5 ∙ ap (fault NoEquation) (unknown_unknown v.1 (tokens_from 0 bs) u.3 v.3 (subst (λ (S : System). FirstUnknown S (tokens_from 0 bs) u.3) same u.4) v.4) ∙ sym v.5

not_why : (bs : List ℕ) (S : System) (f : TextFault) → Accepts bs S → Why bs f → ⊥
not_why bs S f h (inl a) = omega (arith, h.short, a.0)
not_why bs S f h (inr a) = go a.1
  where
    go : AtToken bs f ⊎ (AtEnd bs f ⊎ AtName bs f) → ⊥
    go (inl u) = not_clean (tokens_from 0 bs) u.0 u.1 u.2 (of_list Clean h.listed h.clean)
    go (inr (inl u)) = u.1 S (of_list (λ l. IsSystem (kinds l) S) h.listed h.system)
    go (inr (inr u)) =
        let same = one_reading (kinds (tokens_from 0 bs)) S u.1 (of_list (λ l. IsSystem (kinds l) S) h.listed h.system) u.2 in
        not_known u.1 (tokens_from 0 bs) u.3 u.4 (subst (λ (R : System). Known R (tokens_from 0 bs)) same (of_list (Known S) h.listed h.known))

decided : (bs : List ℕ) (r : Result (ℕ × ℕ) TextFault) → Examined bs r → ((S : System) × Accepts bs S) ⊎ ((f : TextFault) × Faulty bs f)
decided bs (Ok counts) h = inl (h.0, h.1)
decided bs (Err f) h = inr (f, h)

pub text_laws : TextLaws
text_laws = record {
  either = λ bs. decided bs (answer bs) (examined bs);
  never_both = λ bs S f h k. not_why bs S f h (why bs f k);
  one_reading = one_reading;
  one_system = λ bs S R h k.
      one_reading (kinds (tokens_from 0 bs)) S R (of_list (λ l. IsSystem (kinds l) S) h.listed h.system) (of_list (λ l. IsSystem (kinds l) R) k.listed k.system);
  one_fault = λ bs f g h k. one_why bs f g (why bs f h) (why bs g k);
  solvable = solvable;
  few = λ bs S h. let d = accepted_ends bs S h in subst (λ (R : System). nodes R ≤ 64) d.system (few_nodes bs d.lines d.scans);
}
