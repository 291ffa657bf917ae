-- The lexer's answer and the tokens of a text.
use Rattle.std.proofs.Common.{◌≡◌, ℕ, ◌+◌, ◌-◌, ◌≤◌, List, [], ◌∷◌, ◌++◌, length, sym, ap, ◌∙◌, subst, arith, length-append}
use Rattle.tokens.specs.declared.lexer.Lexed.{Lexed}
use Rattle.tokens.specs.Kinds.{Kind, separator}
use Rattle.tokens.specs.Inner.Fronts.{past_separators}
use Rattle.tokens.specs.Lexing.{seen, Front}
use Rattle.tokens.specs.Tokens.{token, Every, Spells, ends, goes_on}
use Rattle.tokens.proofs.Fronts.{gap, gap_split, gap_separators}
use Rattle.tokens.proofs.Listing.{tokens_from, tokens_listed, only_tokens}

-- a token past the separators is the text's first
pub fronted : (bs s word after : List ℕ) (k : Kind) (l : Lexed) → s ≡ past_separators bs → s ≡ word ++ after → Spells k word after → seen l.token ≡ k → l.left ≡ length s → l.rest.now ≡ after → Front bs l
fronted bs s word after k l past split spelled is_kind is_left is_rest =
    let here : s ≡ word ++ l.rest.now = split ∙ ap (λ x. word ++ x) (sym is_rest) in
    record {
      gap = gap bs;
      word = word;
      split = gap_split bs ∙ ap (λ x. gap bs ++ x) (sym past ∙ here);
      separators = gap_separators bs;
      spelled = subst (λ (x : Kind). Spells x word l.rest.now) (sym is_kind) (subst (Spells k word) (sym is_rest) spelled);
      left = is_left ∙ ap length here;
    }

-- the tokens of the end of a text of n bytes: the first one, and those of the rest
pub first : (bs : List ℕ) (l : Lexed) → Front bs l → (n : ℕ) → length bs ≤ n
    → tokens_from (n - length bs) bs ≡ token (seen l.token) (n - l.left) ∷ tokens_from (n - length l.rest.now) l.rest.now
first bs l f n h =
    ap (tokens_from (n - length bs)) f.split
    ∙ only_tokens (goes_on (n - length bs) f.gap f.word l.rest.now (seen l.token) _ f.separators f.spelled (tokens_listed _ _))
    ∙ (λ i. token (seen l.token) (place i) ∷ tokens_from (next i) l.rest.now)
  where
    long : length bs ≡ length f.gap + (length f.word + length l.rest.now)
    long = ap length f.split ∙ length-append f.gap _ ∙ ap (λ n. length f.gap + n) (length-append f.word l.rest.now)

    place : n - length bs + length f.gap ≡ n - l.left
    place = omega (arith, long, f.left, length-append f.word l.rest.now)

    next : n - length bs + (length f.gap + length f.word) ≡ n - length l.rest.now
    next = omega (arith, long)

-- separators only: no token
pub none_left : (bs : List ℕ) → Every separator bs → (p : ℕ) → tokens_from p bs ≡ []
none_left bs h p = only_tokens (ends p bs h)

-- what follows a token is no longer than the text
pub rest_shorter : (bs : List ℕ) (l : Lexed) → Front bs l → length l.rest.now ≤ length bs
rest_shorter bs l f = omega (arith, ap length f.split, length-append f.gap (f.word ++ l.rest.now), length-append f.word l.rest.now)
