-- The numbers that digits write.
use Rattle.std.proofs.Common.{◌≡◌, ℕ, zero, suc, ◌+◌, ◌-◌, ◌*◌, ◌<◌, ◌≤◌, min, leb, List, [], ◌∷◌, length, fold, sym, ap, ◌∙◌, arith, leb-true}
use Rattle.std.proofs.lemmas.Bool.{and_parts}
use Rattle.tokens.specs.Kinds.{digit}
use Rattle.tokens.specs.Tokens.{Every}
use Rattle.reader.specs.Grammar.{decimal_from, decimal}
use Rattle.records.specs.Inner.Writing.{worth}

-- a number cut off at the largest of 32 bits, before or after further digits
pub cut : (x : ℕ) (ds : List ℕ) → min (decimal_from (min x 4294967295) ds) 4294967295 ≡ min (decimal_from x ds) 4294967295
cut x [] = omega arith
cut x (d ∷ ds) =
    sym (cut (min x 4294967295 * 10 + (d - 48)) ds) ∙ ap (λ (n : ℕ). min (decimal_from n ds) 4294967295) (omega arith) ∙ cut (x * 10 + (d - 48)) ds

-- a number and one digit more
abbrev pub with_digit : ℕ → ℕ → ℕ
with_digit n d = min (min (n * 10) 4294967295 + (d - 48)) 4294967295

-- digit by digit
pub folded : (n : ℕ) (ds : List ℕ) → n ≤ 4294967295 → fold with_digit n ds ≡ min (decimal_from n ds) 4294967295
folded n [] h = omega arith
folded n (d ∷ ds) h =
    folded (with_digit n d) ds (omega arith) ∙ ap (λ m. min (decimal_from m ds) 4294967295) (omega arith) ∙ cut (n * 10 + (d - 48)) ds

-- ---- nine digits write a number below 10^9

tens : ℕ → ℕ → ℕ
tens zero c = c
tens (suc k) c = tens k (c * 10)

le_tens : (k c : ℕ) → c ≤ tens k c
unfolding tens
le_tens zero c = omega arith
le_tens (suc k) c = omega (arith, le_tens k (c * 10))

below_tens : (k n c : ℕ) (ds : List ℕ) → Every digit ds → length ds ≤ k → n < c → decimal_from n ds < tens k c
unfolding tens
below_tens k n c [] h l b = omega (arith, le_tens k c)
below_tens zero n c (d ∷ ds) h l b = absurd (omega arith)
below_tens (suc k) n c (d ∷ ds) h l b =
    let most = leb-true d 57 (and_parts (leb 48 d) (leb d 57) h.0).1 in
    below_tens k (n * 10 + (d - 48)) (c * 10) ds h.1 (omega arith) (omega arith)

pub nine_digits : (ds : List ℕ) → Every digit ds → length ds ≤ 9 → worth ds ≡ decimal ds
unfolding tens
nine_digits ds h k = let b : decimal ds < 1000000000 = below_tens 9 0 1 ds h k (omega arith) in omega arith
