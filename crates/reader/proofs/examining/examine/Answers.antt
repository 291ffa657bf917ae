use Rattle.std.proofs.Common.{◌≡◌, ℕ, [], ◌∷◌, false, Some, None, Ok, Err, Result, is_ok, Option, refl, sym, subst, rules}
use Rattle.tokens.specs.Tokens.{Tokens}
use Rattle.tokens.specs.Listed.{left_to_give, placed}
use Rattle.reader.specs.declared.fault.Rule.{Rule}
use Rattle.reader.specs.Examining.{fault, Faulty, Examined, product_signs, of_bytes}
use Rattle.reader.specs.Inner.Progress.{after, breaks}
use Rattle.reader.proofs.Reading.{standing, stopped, turned, none_counted, one_counted, all_counted, Counts, cut_short, finished, by_missing}
use Rattle.reader.proofs.examining.examine.Goals as goal

pub returns-then-text-gt-MOST_BYTES-clause-answer : goal.returns-then-text-gt-MOST_BYTES-clause-answer
returns-then-text-gt-MOST_BYTES-clause-answer c = subst (Faulty c.args.text.now) (sym c.at.ensures) (of_bytes c.if-text-gt-MOST_BYTES.true)

pub loop-place-init : goal.loop-place-init
loop-place-init c =
    let it = c.into_iter-place-iterator.result in
    let listed : Tokens 0 c.args.text.now (left_to_give it) = search rules in
    (standing c.if-text-gt-MOST_BYTES.false listed c.new-progress.result c.new-progress.ensures, none_counted listed)

pub loop-place-preserved : goal.loop-place-preserved
loop-place-preserved c =
    let s = c.loop-place.progress in
    let t = placed (c.in-Some.place, c.in-Some.token) in
    let read : (breaks s t.kind ≡ None) × (c.read.new.self ≡ after s t.kind) = search rules in
    let first_is : left_to_give c.loop-place.place-iterator ≡ t ∷ left_to_give c.next.new.self = search rules in (
      turned c.loop-place.invariant.0 t (left_to_give c.next.new.self) first_is read.0 c.read.new.self read.1,
      subst (Counts c.args.text.now (left_to_give c.next.new.self)) (search rules) (one_counted c.args.text.now c.loop-place.products (left_to_give c.loop-place.place-iterator) t (left_to_give c.next.new.self) first_is c.loop-place.invariant.1),
    )

refused : (r : Result (Unit {0}) Rule) → is_ok r ≡ false → (k : Rule) × (r ≡ Err k)
refused (Ok x) e = absurd (cc)
refused (Err k) e = (k, refl)

pub returns-in_err-map_err-clause-answer : goal.returns-in_err-map_err-clause-answer
returns-in_err-map_err-clause-answer c =
    let s = c.loop-place.progress in
    let t = placed (c.in-Some.place, c.in-Some.token) in
    let k = refused c.read.result (search rules) in
    let broken : breaks s t.kind ≡ Some k.0 = search rules in
    let answer : c.from_residual.result ≡ Err (fault k.0 c.in-Some.place) = search rules in
    subst (Examined c.args.text.now) (sym answer) (stopped c.loop-place.invariant.0 t (left_to_give c.next.new.self) (search rules) k.0 broken)

pub returns-then-ne-clause-answer : goal.returns-then-ne-clause-answer
returns-then-ne-clause-answer c =
    subst (Faulty c.args.text.now) (sym c.at-then-ne.ensures) (cut_short c.loop-place.invariant.0 (search rules) (λ e. search rules))

pub returns-in-Some-first_unknown-clause-answer : goal.returns-in-Some-first_unknown-clause-answer
returns-in-Some-first_unknown-clause-answer c =
    let s = c.loop-place.progress in
    subst (Faulty c.args.text.now) (sym c.at-in-Some-first_unknown.ensures)
    (subst (λ (o : Option ℕ). Examined c.args.text.now (by_missing s.nodes (product_signs c.args.text.now) o)) c.in-Some-first_unknown.is
    (finished c.loop-place.invariant.0 (search rules) (search rules) c.first_unknown.result c.first_unknown.ensures))

pub returns-in-None-first_unknown-clause-answer : goal.returns-in-None-first_unknown-clause-answer
returns-in-None-first_unknown-clause-answer c =
    let s = c.loop-place.progress in
    let over : left_to_give c.loop-place.place-iterator ≡ [] = search rules in
    let all : product_signs c.args.text.now ≡ c.loop-place.products = sym (all_counted c.args.text.now (left_to_give c.loop-place.place-iterator) c.loop-place.products over c.loop-place.invariant.1) in
    subst (λ (n : ℕ). Examined c.args.text.now (Ok (s.nodes, n))) all
    (subst (λ (o : Option ℕ). Examined c.args.text.now (by_missing s.nodes (product_signs c.args.text.now) o)) c.in-None-first_unknown.is
    (finished c.loop-place.invariant.0 over (search rules) c.first_unknown.result c.first_unknown.ensures))
