-- What a text begins with, byte by byte.
use Rattle.std.proofs.Common.{◌≡◌, ℕ, ◌+◌, ◌-◌, ◌<◌, ◌≤◌, Bool, true, false, cond, ◌&&◌, ◌||◌, leb, List, [], ◌∷◌, ◌++◌, length, get_or, take, drop, sym, refl, ap, ◌∙◌, subst, one-add, arith, length-drop, take_all, drop-cons, ne_eqb, leb-true}
use Rattle.std.proofs.lemmas.Bool.{both_ways}
use Rattle.tokens.specs.Kinds.{digit, separator}
use Rattle.std.specs.List.{prefix_len}
use Rattle.tokens.specs.Inner.Fronts.{past_separators}
use Rattle.tokens.specs.Tokens.{starts_digit, Every}

-- ---- a text as its first byte and the rest

abbrev pub rest : List ℕ → List ℕ
rest s = take (length s - 1) (drop 1 s)

pub apart : (s : List ℕ) → 0 < length s → s ≡ get_or s 0 0 ∷ rest s
apart s h = drop-cons s 0 0 h ∙ ap (λ (r : List ℕ). get_or s 0 0 ∷ r) (sym (take_all (length s - 1) (drop 1 s) (omega (arith, length-drop 1 s))))

-- ---- separators

-- the separators that a text begins with
abbrev pub gap : List ℕ → List ℕ
gap [] = []
gap (b ∷ bs) = cond (separator b) (b ∷ gap bs) []

pub gap_split : (bs : List ℕ) → bs ≡ gap bs ++ past_separators bs
gap_split [] = refl
gap_split (b ∷ bs) = go (separator b) (gap_split bs)
  where
    go : (v : Bool) → bs ≡ gap bs ++ past_separators bs → b ∷ bs ≡ cond v (b ∷ gap bs) [] ++ cond v (past_separators bs) (b ∷ bs)
    go true h = ap (λ l. b ∷ l) h
    go false h = refl

pub gap_separators : (bs : List ℕ) → Every separator (gap bs)
gap_separators [] = tt
gap_separators (b ∷ bs) = go (separator b) refl (gap_separators bs)
  where
    go : (v : Bool) → separator b ≡ v → Every separator (gap bs) → Every separator (cond v (b ∷ gap bs) [])
    go true e h = (e, h)
    go false e h = tt

-- past the separators stands none
pub past_none : (bs : List ℕ) → 0 < length (past_separators bs) → separator (get_or (past_separators bs) 0 0) ≡ false
past_none [] h = absurd (omega arith)
past_none (b ∷ bs) h = go (separator b) refl h (past_none bs)
  where
    go : (v : Bool) → separator b ≡ v → 0 < length (cond v (past_separators bs) (b ∷ bs)) → (0 < length (past_separators bs) → separator (get_or (past_separators bs) 0 0) ≡ false) → separator (get_or (cond v (past_separators bs) (b ∷ bs)) 0 0) ≡ false
    go true e k more = more k
    go false e k more = e

-- a text with nothing past its separators
pub all_separators : (bs : List ℕ) → length (past_separators bs) < 1 → Every separator bs
all_separators [] h = tt
all_separators (b ∷ bs) h = go (separator b) refl h (all_separators bs)
  where
    go : (v : Bool) → separator b ≡ v → length (cond v (past_separators bs) (b ∷ bs)) < 1 → (length (past_separators bs) < 1 → Every separator bs) → (separator b ≡ true) × Every separator bs
    go true e k more = (e, more k)
    go false e k more = absurd (omega arith)

-- ---- runs of digits

pub more_run : (s : List ℕ) → 0 < length s → digit (get_or s 0 0) ≡ true → prefix_len digit s ≡ 1 + prefix_len digit (rest s)
more_run s h e = ap (prefix_len digit) (apart s h) ∙ ap (λ k. cond k (1 + prefix_len digit (rest s)) 0) e

-- a run is digits, and behind it stands none
pub run_digits : (s : List ℕ) → Every digit (take (prefix_len digit s) s) × (starts_digit (drop (prefix_len digit s) s) ≡ false)
run_digits [] = (tt, refl)
run_digits (b ∷ bs) = go (digit b) refl (run_digits bs)
  where
    go : (v : Bool) → digit b ≡ v → Every digit (take (prefix_len digit bs) bs) × (starts_digit (drop (prefix_len digit bs) bs) ≡ false) → Every digit (take (cond v (1 + prefix_len digit bs) 0) (b ∷ bs)) × (starts_digit (drop (cond v (1 + prefix_len digit bs) 0) (b ∷ bs)) ≡ false)
    go true e h = subst (λ (n : ℕ). Every digit (take n (b ∷ bs)) × (starts_digit (drop n (b ∷ bs)) ≡ false)) (sym (one-add (prefix_len digit bs))) ((e, h.0), h.1)
    go false e h = (tt, e)

pub run_all : (ds bs : List ℕ) → Every digit ds → starts_digit bs ≡ false → prefix_len digit (ds ++ bs) ≡ length ds
run_all [] [] h e = refl
run_all [] (b ∷ bs) h e = ap (λ v. cond v (1 + prefix_len digit bs) 0) e
run_all (d ∷ ds) bs h e = ap (λ v. cond v (1 + prefix_len digit (ds ++ bs)) 0) h.0 ∙ omega (arith, run_all ds bs h.1 e)

-- ---- a digit is no separator

digit_low : (b : ℕ) → digit b ≡ true → 48 ≤ b
digit_low b e = go (leb 48 b) (leb b 57) refl e
  where
    go : (x y : Bool) → leb 48 b ≡ x → (x && y) ≡ true → 48 ≤ b
    go true y h k = leb-true 48 b h
    go false true h k = absurd (both_ways false refl k)
    go false false h k = absurd (both_ways false refl k)

pub digit_separator : (b : ℕ) → digit b ≡ true → separator b ≡ false
digit_separator b e =
    let h = digit_low b e in
    λ i. ne_eqb b 32 (λ q. omega arith) i || ne_eqb b 10 (λ q. omega arith) i
