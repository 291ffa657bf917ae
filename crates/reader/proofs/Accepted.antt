-- The systems of accepted texts are solvable.
use Rattle.std.proofs.Common.{◌≡◌, ℕ, Bool, true, false, not, T, List, [], ◌∷◌, ◌++◌, sym, refl, ap, ◌∙◌, subst, append_assoc, arith}
use mathlib.Core.List.{nil≢cons, head-eq_of_cons-eq, tail-eq_of_cons-eq}
use Rattle.systems.specs.Solving.{Solvable, Stands}
use Rattle.systems.specs.Trees.{Equation, System, UnknownIn, BareIn, UnknownOf}
use Rattle.systems.proofs.Standing.{placed}
use Rattle.tokens.specs.Kinds.{Kind, capital, equals, semicolon}
use Rattle.tokens.specs.Tokens.{Token}
use Rattle.reader.specs.declared.fault.Rule.{Rule}
use Rattle.reader.specs.declared.fault.Rule.TheVariants.{Repeated, TooEarly}
use Rattle.reader.specs.Examining.{Accepts}
use Rattle.reader.specs.Rules.{Within, Breaks, kinds, Clean, Known}
use Rattle.reader.specs.Sorts.{count, is_semicolon}
use Rattle.reader.proofs.Derivations.{Line, sum_tokens, line_tokens, tokens_of, line_equation, system_of, has}
use Rattle.reader.proofs.Related.{lines_are, system_from}
use Rattle.reader.proofs.Faults.{has_unknown, not_unknown, kinds_split}
use Rattle.reader.proofs.Occurrences.{Occurs, sum_occurs}
use Rattle.reader.proofs.Sides.{count-++, free_sum}

-- an equation of the system and the line that it comes from
record Found (es : List Line) (before : System) (e : Equation) : Type 0 where
  earlier : List Line
  line : Line
  later : List Line
  split : es ≡ earlier ++ (line ∷ later)
  earlier_is : system_of earlier ≡ before
  line_is : line_equation line ≡ e

found : (es : List Line) (before after : System) (e : Equation) → system_of es ≡ before ++ (e ∷ after) → Found es before e
found [] [] after e h = absurd (nil≢cons h)
found [] (d ∷ before) after e h = absurd (nil≢cons h)
found (q ∷ es) [] after e h = record { earlier = []; line = q; later = es; split = refl; earlier_is = refl; line_is = head-eq_of_cons-eq h }
found (q ∷ es) (d ∷ before) after e h =
    let f = found es before after e (tail-eq_of_cons-eq h) in
    record { earlier = q ∷ f.earlier; line = f.line; later = f.later; split = ap (λ l. q ∷ l) f.split; earlier_is = (λ i. head-eq_of_cons-eq h i ∷ f.earlier_is i); line_is = f.line_is }

tokens_split : (xs ys : List Line) → tokens_of (xs ++ ys) ≡ tokens_of xs ++ tokens_of ys
tokens_split [] ys = refl
tokens_split (x ∷ xs) ys = ap (λ l. line_tokens x ++ l) (tokens_split xs ys) ∙ sym (append_assoc (line_tokens x) (tokens_of xs) (tokens_of ys))

-- no semicolon before a capital of a right side
no_semicolon : (a : ℕ) (ts before after : List Kind) → count is_semicolon ts ≡ 0 → ts ≡ before ++ (capital a ∷ after) → count is_semicolon before ≡ 0
no_semicolon a ts before after h e = omega (arith, ap (count is_semicolon) e, count-++ is_semicolon before (capital a ∷ after))

module _ (ts : List Token) (es : List Line) (clean : Clean ts) (same : kinds ts ≡ tokens_of es) (known : Known (system_of es) ts) where
  -- what holds of a token, told by the kinds of those before it
  clean_at : (before : List Kind) (k : Kind) (after : List Kind) → tokens_of es ≡ before ++ (k ∷ after) → (j : Rule) → Breaks j before k → ⊥
  clean_at before k after e j w =
      let s = kinds_split ts before k after (same ∙ e) in
      clean s.before s.at s.after s.split j
      (subst (λ (x : Kind). Breaks j (kinds s.before) x) (sym s.at_is) (subst (λ (l : List Kind). Breaks j l k) (sym s.before_is) w))

  known_at : (before : List Kind) (a : ℕ) (after : List Kind) → tokens_of es ≡ before ++ (capital a ∷ after) → UnknownOf a (system_of es)
  known_at before a after e = let s = kinds_split ts before (capital a) after (same ∙ e) in known s.before s.at s.after s.split a s.at_is

  module _ (before after : System) (e : Equation) (h : Stands before e after (system_of es)) where
    f : Found es before e
    f = found es before after e h

    -- the tokens, from the equation's left capital on
    from_left : tokens_of es ≡ tokens_of f.earlier ++ (capital f.line.left ∷ equals ∷ ((sum_tokens f.line.right ++ (semicolon ∷ [])) ++ tokens_of f.later))
    from_left = ap tokens_of f.split ∙ tokens_split f.earlier (f.line ∷ f.later)

    once : ¬ (UnknownOf e.left before)
    once w =
        clean_at (tokens_of f.earlier) (capital f.line.left) _ from_left Repeated
        (f.line.left, refl, (system_of f.earlier, lines_are f.earlier, subst (UnknownOf f.line.left) (sym f.earlier_is) (subst (λ (d : Equation). UnknownOf d.left before) (sym f.line_is) w)))

    -- the tokens, from a capital of the right side on
    from_name : (bare : Bool) (a : ℕ) (o : Occurs bare a (sum_tokens f.line.right))
        → tokens_of es ≡ (tokens_of f.earlier ++ (capital f.line.left ∷ equals ∷ o.before)) ++ (capital a ∷ (o.after ++ (semicolon ∷ tokens_of f.later)))
    from_name bare a o =
        from_left ∙ (λ i. tokens_of f.earlier ++ (capital f.line.left ∷ equals ∷ ((o.split i ++ (semicolon ∷ [])) ++ tokens_of f.later))) ∙ simp append_assoc

    before_it : (a : ℕ) → BareIn a e.right → UnknownOf a before
    before_it a w = subst (UnknownOf a) f.earlier_is (go (has f.earlier a) refl (sum_occurs true a f.line.right (subst (λ (d : Equation). BareIn a d.right) (sym f.line_is) w)))
      where
        go : (x : Bool) → has f.earlier a ≡ x → Occurs true a (sum_tokens f.line.right) → UnknownOf a (system_of f.earlier)
        go true e o = (has_unknown f.earlier a).0 (subst T (sym e) tt)
        go false e o =
            let within : Within (tokens_of f.earlier ++ (capital f.line.left ∷ equals ∷ o.before)) = record {
              whole = system_of f.earlier;
              written = tokens_of f.earlier;
              left = f.line.left;
              part = o.before;
              equations = lines_are f.earlier;
              split = refl;
              unended = no_semicolon a (sum_tokens f.line.right) o.before o.after (free_sum f.line.right) o.split;
            } in
            absurd (clean_at _ (capital a) _ (from_name true a o) TooEarly
            (a, refl, (within, omega (arith, o.outside tt), (not_unknown f.earlier a).0 (subst (λ (x : Bool). T (not x)) (sym e) tt))))

    has_equation : (a : ℕ) → UnknownIn a e.right → UnknownOf a (system_of es)
    has_equation a w =
        let o = sum_occurs false a f.line.right (subst (λ (d : Equation). UnknownIn a d.right) (sym f.line_is) w) in
        known_at _ a _ (from_name false a o)

  lines_solvable : Solvable (system_of es)
  lines_solvable = record {
    one_each = once;
    earlier = before_it;
    complete = λ e w a v. let x = placed (system_of es) e w in has_equation x.before x.after e x.stands a v;
  }

pub solvable : (bs : List ℕ) (S : System) → Accepts bs S → Solvable S
solvable bs S h =
    let d = system_from h.system in
    subst Solvable d.3 (lines_solvable h.tokens (d.0 ∷ d.1) h.clean (sym d.2) (subst (λ (R : System). Known R h.tokens) (sym d.3) h.known))
