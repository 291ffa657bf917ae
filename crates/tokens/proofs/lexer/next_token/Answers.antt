use Rattle.std.proofs.Common.{◌≡◌, ℕ, ◌<◌, false, List, [], ◌∷◌, length, get_or, take, drop, sym, refl, ap, ◌∙◌, subst, arith, take-append-drop, rules}
use Rattle.tokens.specs.Kinds.{digit, number, separator, single}
use Rattle.tokens.specs.Tokens.{alone}
use Rattle.std.specs.List.{prefix_len}
use Rattle.std.proofs.lemmas.List.Sums.{prefix_len-le-length}
use Rattle.tokens.specs.Inner.Fronts.{past_separators}
use Rattle.tokens.proofs.Cutting.{fronted}
use Rattle.tokens.proofs.Fronts.{rest, apart, past_none, all_separators}
use Rattle.tokens.proofs.Listing.{number_front}
use Rattle.tokens.proofs.lexer.next_token.Goals as goal

pub split_at-requires : goal.split_at-requires
split_at-requires c = omega (arith, prefix_len-le-length digit c.skip_separators-text.result.now, c.count_digits.ensures)

pub returns-in-empty-clause-answer : goal.returns-in-empty-clause-answer
returns-in-empty-clause-answer c =
    let short : length c.skip_separators-text.result.now < 1 = search rules in
    all_separators c.args.text.now (omega (arith, ap length c.skip_separators-text.ensures))

pub returns-then-is_ascii_digit-clause-answer : goal.returns-then-is_ascii_digit-clause-answer
returns-then-is_ascii_digit-clause-answer c =
    let s = c.skip_separators-text.result.now in
    let some : 0 < length s = search rules in
    let n = c.count_digits.ensures in
    let front = c.split_at.ensures.front ∙ ap (λ m. take m s) n in
    let back = c.split_at.ensures.back ∙ ap (λ m. drop m s) n in
    fronted c.args.text.now s (take (prefix_len digit s) s) (drop (prefix_len digit s) s) (number (take (prefix_len digit s) s)) _ c.skip_separators-text.ensures
    (sym (take-append-drop (prefix_len digit s) s)) (number_front s some (sym c.if-is_ascii_digit.ensures.value)) (ap number front) refl back

pub returns-else-is_ascii_digit-clause-answer : goal.returns-else-is_ascii_digit-clause-answer
returns-else-is_ascii_digit-clause-answer c =
    let s = c.skip_separators-text.result.now in
    let some : 0 < length s = search rules in
    let more : 0 < length (past_separators c.args.text.now) = omega (arith, ap length c.skip_separators-text.ensures) in
    let bare : separator (get_or s 0 0) ≡ false = subst (λ (x : List ℕ). separator (get_or x 0 0) ≡ false) (sym c.skip_separators-text.ensures) (past_none c.args.text.now more) in
    fronted c.args.text.now s (get_or s 0 0 ∷ []) (rest s) (single (get_or s 0 0)) _ c.skip_separators-text.ensures
    (apart s some) (alone (get_or s 0 0) (rest s) bare (sym c.if-is_ascii_digit.ensures.value)) c.sign_or_letter.ensures refl refl
