-- Lists of tokens can be told apart, so of one text there is exactly one.
use Rattle.std.proofs.Common.{◌≡◌, ℕ, ◌-◌, ◌<◌, ◌≤◌, List, [], ◌∷◌, length, get_or, refl, sym, ap, ◌∙◌, subst, arith}
use Rattle.std.proofs.Math.Logic.{∥∥₁_elim, ∥∥₁_prop}
use Rattle.std.specs.Coded.{Coded, Coded-set, code_by, coded×, coded_ℕ, coded_list, le_prop}
use std.HLevel.{Σ_prop_path}
use Rattle.tokens.specs.declared.token.Group.TheVariants.{Round, Square}
use Rattle.tokens.specs.declared.iter.Tokens.{Tokens as Going}
use Rattle.tokens.specs.Kinds.{Kind, number, capital, small, equals, semicolon, plus, minus, star, opens, closes, stray}
use Rattle.tokens.specs.Listed.{left_to_give}
use Rattle.tokens.specs.Tokens.{Token, token, Tokens, HasOneList, HasOneList-prop}
use Rattle.tokens.proofs.Listing.{tokens_from, tokens_listed, only_tokens, few_tokens}

-- ---- a token as a number of its kind, the bytes that the kind has, and its place

abbrev parts : Kind → ℕ × List ℕ
parts (number ds) = (0, ds)
parts (capital c) = (1, c ∷ [])
parts (small c) = (2, c ∷ [])
parts equals = (3, [])
parts semicolon = (4, [])
parts plus = (5, [])
parts minus = (6, [])
parts star = (7, [])
parts (opens Round) = (8, [])
parts (opens Square) = (9, [])
parts (closes Round) = (10, [])
parts (closes Square) = (11, [])
parts (stray b) = (12, b ∷ [])

abbrev kind_of : ℕ × List ℕ → Kind
kind_of p =
    let (n, bs) = p in
    let b = get_or bs 0 0 in
    get_or (number bs ∷ capital b ∷ small b ∷ equals ∷ semicolon ∷ plus ∷ minus ∷ star ∷ opens Round ∷ opens Square ∷ closes Round ∷ closes Square ∷ []) n (stray b)

kind_back : (k : Kind) → kind_of (parts k) ≡ k
kind_back (number ds) = refl
kind_back (capital c) = refl
kind_back (small c) = refl
kind_back equals = refl
kind_back semicolon = refl
kind_back plus = refl
kind_back minus = refl
kind_back star = refl
kind_back (opens Round) = refl
kind_back (opens Square) = refl
kind_back (closes Round) = refl
kind_back (closes Square) = refl
kind_back (stray b) = refl

list_code : Coded (List Token)
list_code =
    coded_list (code_by ((ℕ × List ℕ) × ℕ) (coded× (coded× coded_ℕ (coded_list coded_ℕ)) coded_ℕ) (λ t. (parts t.kind, t.place))
    (λ x. token (kind_of x.0) x.1) (λ t. ap (λ (k : Kind). token k t.place) (kind_back t.kind)))

-- ---- the one list

pub one_of : (p : ℕ) (bs : List ℕ) → HasOneList p bs
one_of p bs =
    ((tokens_from p bs, ∣ tokens_listed p bs ∣₁), λ x. Σ_prop_path (λ ts. ∥∥₁_prop) (∥∥₁_elim x.1 (Coded-set list_code _ _) (λ h. sym (only_tokens h))))

pub one_is : {p : ℕ} {bs : List ℕ} (h : HasOneList p bs) → h.0.0 ≡ tokens_from p bs
one_is {p} {bs} h = sym (ap (λ x. x.0) (h.1 (tokens_from p bs, ∣ tokens_listed p bs ∣₁)))

-- ---- an iterator's list

-- the tokens of what is left to it
pub left_is : (it : Going) → left_to_give it ≡ tokens_from (it.whole - length it.rest.now) it.rest.now
unfolding left_to_give
left_is it = one_is it.ahead

pub left_gives : (it next : Going) {t : Token} → tokens_from (it.whole - length it.rest.now) it.rest.now ≡ t ∷ tokens_from (next.whole - length next.rest.now) next.rest.now
    → left_to_give it ≡ t ∷ left_to_give next
left_gives it next {t} e = left_is it ∙ e ∙ ap (λ ts. t ∷ ts) (sym (left_is next))

pub left_fewer : (it next : Going) {t : Token} → tokens_from (it.whole - length it.rest.now) it.rest.now ≡ t ∷ tokens_from (next.whole - length next.rest.now) next.rest.now
    → length (left_to_give next) < length (left_to_give it)
left_fewer it next e = omega (arith, ap length (left_gives it next e))

pub left_listed : (it : Going) → Tokens (it.whole - length it.rest.now) it.rest.now (left_to_give it)
left_listed it = subst (Tokens (it.whole - length it.rest.now) it.rest.now) (sym (left_is it)) (tokens_listed _ _)

-- where all of the text is left
pub all_listed : (it : Going) → it.whole ≡ length it.rest.now → Tokens 0 it.rest.now (left_to_give it)
all_listed it e = subst (λ (p : ℕ). Tokens p it.rest.now (left_to_give it)) (omega (arith, e)) (left_listed it)

pub few_left : (it : Going) → length (left_to_give it) ≤ length it.rest.now
few_left it = few_tokens (left_listed it)

-- two iterators with the same text left to them are the same
pub same : (it : Going) (h : length it.rest.now ≤ it.whole) (one : HasOneList (it.whole - length it.rest.now) it.rest.now)
    → record { rest = it.rest; whole = it.whole; within = h; ahead = one } ≡ it
same it h one = λ i. record { rest = it.rest; whole = it.whole; within = le_prop h it.within i; ahead = HasOneList-prop _ _ one it.ahead i }
