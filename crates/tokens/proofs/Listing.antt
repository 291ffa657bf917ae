-- The tokens of a text as a list that is worked out byte by byte, and that it is the only one.
use Rattle.std.proofs.Common.{◌≡◌, ℕ, zero, suc, ◌+◌, ◌<◌, ◌≤◌, Bool, true, false, cond, List, [], ◌∷◌, ◌++◌, length, get_or, take, drop, sym, refl, ap, ◌∙◌, subst, append-nil, one-add, arith, length-append, take-append-drop, length-take-le}
use Rattle.std.proofs.lemmas.List.{take_at, drop_at}
use Rattle.std.proofs.lemmas.List.Sums.{prefix_len-le-length}
use Rattle.tokens.specs.Kinds.{Kind, number, digit, separator, single}
use Rattle.std.specs.List.{prefix_len}
use Rattle.tokens.specs.Inner.Fronts.{past_separators}
use Rattle.tokens.specs.Tokens.{starts_digit, Token, token, Every, Spells, run, alone, Tokens, ends, goes_on, OneList}
use Rattle.tokens.proofs.Fronts.{gap, gap_split, gap_separators, past_none, all_separators, more_run, run_digits, run_all, digit_separator}

-- a digit in front of a number joins it
abbrev pub longer : ℕ → Kind → Kind
longer d (number ds) = number (d ∷ ds)
longer d k = k

abbrev pub join : ℕ → ℕ → List Token → List Token
join p d [] = []
join p d (t ∷ ts) = token (longer d t.kind) p ∷ ts

-- one byte more, by whether it is a separator or a digit, and whether a digit follows it
abbrev pub shape : Bool → Bool → Bool → ℕ → ℕ → List Token → List Token
shape s d n p b ts = cond s ts (cond d (cond n (join p b ts) (token (number (b ∷ [])) p ∷ ts)) (token (single b) p ∷ ts))

-- the tokens of a part of a text that has p bytes before it
abbrev pub tokens_from : ℕ → List ℕ → List Token
tokens_from p [] = []
tokens_from p (b ∷ bs) = shape (separator b) (digit b) (starts_digit bs) p b (tokens_from (p + 1) bs)

shaped : (p b : ℕ) (bs : List ℕ) (s d n : Bool) → separator b ≡ s → digit b ≡ d → starts_digit bs ≡ n → tokens_from p (b ∷ bs) ≡ shape s d n p b (tokens_from (p + 1) bs)
shaped p b bs s d n es ed en = λ i. shape (es i) (ed i) (en i) p b (tokens_from (p + 1) bs)

-- ---- the tokens behind separators, a run of digits, and a byte by itself

gap_tokens : (gap bs : List ℕ) (p : ℕ) → Every separator gap → tokens_from p (gap ++ bs) ≡ tokens_from (p + length gap) bs
gap_tokens [] bs p h = ap (λ q. tokens_from q bs) (omega arith)
gap_tokens (b ∷ gap) bs p h = shaped p b (gap ++ bs) true _ _ h.0 refl refl ∙ gap_tokens gap bs (p + 1) h.1 ∙ ap (λ q. tokens_from q bs) (omega arith)

abbrev number_at : ℕ → List ℕ → ℕ → List Token
number_at p s n = token (number (take n s)) p ∷ tokens_from (p + n) (drop n s)

number_tokens : (bs : List ℕ) (b p : ℕ) → digit b ≡ true → tokens_from p (b ∷ bs) ≡ number_at p (b ∷ bs) (prefix_len digit (b ∷ bs))
number_tokens [] b p e = shaped p b [] false true false (digit_separator b e) e refl ∙ ap (λ v. number_at p (b ∷ []) (cond v 1 0)) (sym e)
number_tokens (x ∷ xs) b p e = go (digit x) refl (number_tokens xs x (p + 1)) ∙ ap (λ v. number_at p (b ∷ x ∷ xs) (cond v (1 + prefix_len digit (x ∷ xs)) 0)) (sym e)
  where
    away : (n : ℕ) → p + 1 + n ≡ p + (1 + n)
    away n = omega arith

    lengthened : (n : ℕ) → join p b (number_at (p + 1) (x ∷ xs) n) ≡ number_at p (b ∷ x ∷ xs) (1 + n)
    lengthened n =
        λ i. token (number (take (sym (one-add n) i) (b ∷ x ∷ xs))) p ∷ tokens_from (away n i) (drop (sym (one-add n) i) (b ∷ x ∷ xs))

    go : (v : Bool) → digit x ≡ v → (digit x ≡ true → tokens_from (p + 1) (x ∷ xs) ≡ number_at (p + 1) (x ∷ xs) (prefix_len digit (x ∷ xs))) → tokens_from p (b ∷ x ∷ xs) ≡ number_at p (b ∷ x ∷ xs) (1 + prefix_len digit (x ∷ xs))
    go true h more = shaped p b (x ∷ xs) false true true (digit_separator b e) e h ∙ ap (join p b) (more h) ∙ lengthened (prefix_len digit (x ∷ xs))
    go false h more = shaped p b (x ∷ xs) false true false (digit_separator b e) e h ∙ ap (λ v. number_at p (b ∷ x ∷ xs) (1 + cond v (1 + prefix_len digit xs) 0)) (sym h)

spelled_tokens : {k : Kind} {word rest : List ℕ} → Spells k word rest → (p : ℕ) → tokens_from p (word ++ rest) ≡ token k p ∷ tokens_from (p + length word) rest
spelled_tokens (run [] rest some all stops) p = absurd (omega arith)
spelled_tokens (run (b ∷ ds) rest some all stops) p =
    number_tokens (ds ++ rest) b p all.0 ∙ ap (λ (n : ℕ). number_at p (b ∷ ds ++ rest) n) (run_all (b ∷ ds) rest all stops)
    ∙ (λ i. token (number (take_at (b ∷ ds) rest _ refl i)) p ∷ tokens_from (p + length (b ∷ ds)) (drop_at (b ∷ ds) rest _ refl i))
spelled_tokens (alone b rest es ed) p = shaped p b rest false false _ es ed refl

-- a token has a byte of its own
pub some_word : {k : Kind} {word rest : List ℕ} → Spells k word rest → 0 < length word
some_word (run ds rest some all stops) = some
some_word (alone b rest es ed) = omega arith

pub few_tokens : {p : ℕ} {bs : List ℕ} {ts : List Token} → Tokens p bs ts → length ts ≤ length bs
few_tokens (ends p gap h) = omega arith
few_tokens (goes_on p gap word rest k ts h spelled more) =
    omega (arith, few_tokens more, some_word spelled, length-append gap (word ++ rest), length-append word rest)

-- ---- there is no other list of tokens

pub only_tokens : {p : ℕ} {bs : List ℕ} {ts : List Token} → Tokens p bs ts → tokens_from p bs ≡ ts
only_tokens (ends p gap h) = ap (tokens_from p) (sym (append-nil gap)) ∙ gap_tokens gap [] p h
only_tokens (goes_on p gap word rest k ts h spelled more) =
    gap_tokens gap (word ++ rest) p h ∙ spelled_tokens spelled (p + length gap)
    ∙ (λ i. token k (p + length gap) ∷ tokens_from (along i) rest) ∙ ap (λ l. token k (p + length gap) ∷ l) (only_tokens more)
  where
    along : p + length gap + length word ≡ p + (length gap + length word)
    along = omega arith

-- ---- there is one

-- a text that begins with a token
pub record Worded (s : List ℕ) : Type 0 where
  pub kind : Kind
  pub word : List ℕ
  pub rest : List ℕ
  pub split : s ≡ word ++ rest
  pub spelled : Spells kind word rest

pub number_front : (s : List ℕ) → 0 < length s → digit (get_or s 0 0) ≡ true → Spells (number (take (prefix_len digit s) s)) (take (prefix_len digit s) s) (drop (prefix_len digit s) s)
number_front s h e = run _ _ (omega (arith, length-take-le (prefix_len digit s) s (prefix_len-le-length digit s), more_run s h e)) (run_digits s).0 (run_digits s).1

worded : (b : ℕ) (bs : List ℕ) → separator b ≡ false → Worded (b ∷ bs)
worded b bs es = go (digit b) refl
  where
    n : ℕ
    n = prefix_len digit (b ∷ bs)

    go : (d : Bool) → digit b ≡ d → Worded (b ∷ bs)
    go true ed = record { kind = number (take n (b ∷ bs)); word = take n (b ∷ bs); rest = drop n (b ∷ bs); split = sym (take-append-drop n (b ∷ bs)); spelled = number_front (b ∷ bs) (omega arith) ed }
    go false ed = record { kind = single b; word = b ∷ []; rest = bs; split = refl; spelled = alone b bs es ed }

listed : (n : ℕ) (bs : List ℕ) (p : ℕ) → length bs ≤ n → (ts : List Token) × Tokens p bs ts
listed zero bs p h = ([], ends p bs (all_separators bs (omega (arith, ap length (gap_split bs), length-append (gap bs) (past_separators bs)))))
listed (suc n) bs p h = go (past_separators bs) refl (λ cs q k. listed n cs q k)
  where
    go : (s : List ℕ) → past_separators bs ≡ s → ((cs : List ℕ) (q : ℕ) → length cs ≤ n → (ts : List Token) × Tokens q cs ts) → (ts : List Token) × Tokens p bs ts
    go [] e more = ([], ends p bs (all_separators bs (omega (arith, ap length e))))
    go (b ∷ cs) e more =
        let bare : separator b ≡ false = subst (λ (l : List ℕ). separator (get_or l 0 0) ≡ false) e (past_none bs (omega (arith, ap length e))) in
        let w = worded b cs bare in
        let split : bs ≡ gap bs ++ (w.word ++ w.rest) = gap_split bs ∙ ap (λ l. gap bs ++ l) (e ∙ w.split) in
        let long = ap length split ∙ length-append (gap bs) (w.word ++ w.rest) in
        let some = some_word w.spelled in
        let m = more w.rest (p + (length (gap bs) + length w.word)) (omega (arith, length-append w.word w.rest)) in
        (token w.kind (p + length (gap bs)) ∷ m.0, subst (λ (l : List ℕ). Tokens p l (token w.kind (p + length (gap bs)) ∷ m.0)) (sym split) (goes_on p (gap bs) w.word w.rest w.kind m.0 (gap_separators bs) w.spelled m.1))

pub tokens_listed : (p : ℕ) (bs : List ℕ) → Tokens p bs (tokens_from p bs)
tokens_listed p bs = let l = listed (length bs) bs p (omega arith) in subst (Tokens p bs) (sym (only_tokens l.1)) l.1

pub one_list : OneList
one_list = record {
  exists = λ p bs. (tokens_from p bs, tokens_listed p bs);
  only = λ p bs ts us h k. sym (only_tokens h) ∙ only_tokens k;
}
