-- What is known of the tokens of a text from its bytes: its product signs, and that its letters are bytes.
use Rattle.std.proofs.Common.{◌≡◌, ℕ, ◌+◌, ◌<◌, Bool, true, false, cond, eqb, leb, List, [], ◌∷◌, sym, refl, ap, ◌∙◌, arith, eqb-true, leb-true}
use Rattle.std.proofs.lemmas.Bool.{both_ways}
use Rattle.std.proofs.lemmas.Bool.{and_parts}
use Rattle.std.proofs.lemmas.List.Sums.{sum_by-cons}
use Rattle.tokens.specs.declared.token.Group.TheVariants.{Round, Square}
use Rattle.tokens.specs.Kinds.{Kind, number, capital, small, equals, semicolon, plus, minus, star, opens, closes, stray, digit, separator, upper, lower, single}
use Rattle.tokens.specs.Tokens.{Token, starts_digit, Every, Spells, run, alone}
use Rattle.tokens.proofs.Singles.{of_single}
use Rattle.tokens.proofs.Listing.{longer, join, shape, tokens_from}
use Rattle.reader.specs.Examining.{product_signs}
use Rattle.reader.specs.Rules.{kinds}
use Rattle.reader.specs.Sorts.{count, is_star, digits_of}

-- ---- the tokens * are the bytes *

-- no byte but * passes for it
off : (f : ℕ → Bool) → f 42 ≡ false → (b : ℕ) → f b ≡ true → eqb b 42 ≡ false
off f not_star b h = go (eqb b 42) refl
  where
    go : (x : Bool) → eqb b 42 ≡ x → x ≡ false
    go true e = absurd (both_ways (f b) (ap f (eqb-true b 42 e) ∙ not_star) h)
    go false e = refl

single_star : (b : ℕ) → is_star (single b) ≡ eqb b 42
single_star b = of_single (λ k. is_star k ≡ eqb b 42) b (record {
  of_equals = λ e. sym (off (λ n. eqb n 61) refl b e);
  of_semicolon = λ e. sym (off (λ n. eqb n 59) refl b e);
  of_plus = λ e. sym (off (λ n. eqb n 43) refl b e);
  of_minus = λ e. sym (off (λ n. eqb n 45) refl b e);
  of_star = λ e. sym e;
  of_opening = λ e. sym (off (λ n. eqb n 40) refl b e);
  of_closing = λ e. sym (off (λ n. eqb n 41) refl b e);
  of_square_opening = λ e. sym (off (λ n. eqb n 91) refl b e);
  of_square_closing = λ e. sym (off (λ n. eqb n 93) refl b e);
  of_capital = λ e. sym (off upper refl b e);
  of_small = λ e. sym (off lower refl b e);
  of_stray = λ e. sym e;
})

longer_star : (d : ℕ) (k : Kind) → is_star (longer d k) ≡ is_star k
longer_star d (number ds) = refl
longer_star d _ = refl

abbrev stars : List Token → ℕ
stars ts = count is_star (kinds ts)

join_stars : (p b : ℕ) (ts : List Token) → stars (join p b ts) ≡ stars ts
join_stars p b [] = refl
join_stars p b (t ∷ ts) = ap (λ x. cond {A = ℕ} x 1 0 + stars ts) (longer_star b t.kind)

pub star_signs : (p : ℕ) (bs : List ℕ) → count is_star (kinds (tokens_from p bs)) ≡ product_signs bs
star_signs p [] = refl
star_signs p (b ∷ bs) =
    go (separator b) (digit b) (starts_digit bs) refl refl (tokens_from (p + 1) bs) (star_signs (p + 1) bs)
    ∙ sym (sum_by-cons (λ (c : ℕ). cond {A = ℕ} (eqb c 42) 1 0) b bs)
  where
    none : eqb b 42 ≡ false → (n : ℕ) → n ≡ cond (eqb b 42) 1 0 + n
    none e n = sym (ap (λ x. cond {A = ℕ} x 1 0 + n) e ∙ omega arith)

    go : (s d n : Bool) → separator b ≡ s → digit b ≡ d → (ts : List Token) → stars ts ≡ product_signs bs → stars (shape s d n p b ts) ≡ cond (eqb b 42) 1 0 + product_signs bs
    go true d n es ed ts h = h ∙ none (off separator refl b es) (product_signs bs)
    go false true true es ed ts h = join_stars p b ts ∙ h ∙ none (off digit refl b ed) (product_signs bs)
    go false true false es ed ts h = omega (arith, h, none (off digit refl b ed) (product_signs bs))
    go false false n es ed ts h = λ i. cond {A = ℕ} (single_star b i) 1 0 + h i

-- ---- a capital is a byte from A to Z

abbrev pub Letter : Kind → Type 0
Letter = elim [ capital a ↦ a < 256 | _ ↦ Unit {0} ]

abbrev pub Letters : List Token → Type 0
Letters [] = Unit {0}
Letters (t ∷ ts) = Letter t.kind × Letters ts

-- what holds of every kind but a number and a capital
abbrev trivially : (P : Kind → Type 0) (b : ℕ) → P equals → P semicolon → P plus → P minus → P star → P (opens Round) → P (closes Round) → P (opens Square) → P (closes Square) → (upper b ≡ true → P (capital b)) → P (small b) → P (stray b) → P (single b)
trivially P b a c d e f g h i j u l s = of_single P b (record { of_equals = λ _. a; of_semicolon = λ _. c; of_plus = λ _. d; of_minus = λ _. e; of_star = λ _. f; of_opening = λ _. g; of_closing = λ _. h; of_square_opening = λ _. i; of_square_closing = λ _. j; of_capital = u; of_small = λ _. l; of_stray = λ _. s })

single_letter : (b : ℕ) → Letter (single b)
single_letter b = trivially Letter b tt tt tt tt tt tt tt tt tt (λ e. omega (arith, leb-true b 90 (and_parts (leb 65 b) (leb b 90) e).1)) tt tt

-- the digits of a token are digits
pub spelled_digits : {k : Kind} {word rest : List ℕ} → Spells k word rest → Every digit (digits_of k)
spelled_digits (run ds rest some all stops) = all
spelled_digits (alone b rest es ed) = trivially (λ k. Every digit (digits_of k)) b tt tt tt tt tt tt tt tt tt (λ _. tt) tt tt

longer_letter : (d : ℕ) (k : Kind) → Letter k → Letter (longer d k)
longer_letter d (number ds) h = h
longer_letter d _ h = h

pub all_letters : (bs : List ℕ) (p : ℕ) → Letters (tokens_from p bs)
all_letters [] p = tt
all_letters (b ∷ bs) p = go (separator b) (digit b) (starts_digit bs) (tokens_from (p + 1) bs) (all_letters bs (p + 1))
  where
    joined : (ts : List Token) → Letters ts → Letters (join p b ts)
    joined [] h = tt
    joined (t ∷ ts) h = (longer_letter b t.kind h.0, h.1)

    go : (s d n : Bool) (ts : List Token) → Letters ts → Letters (shape s d n p b ts)
    go true d n ts h = h
    go false true true ts h = joined ts h
    go false true false ts h = (tt, h)
    go false false n ts h = (single_letter b, h)
