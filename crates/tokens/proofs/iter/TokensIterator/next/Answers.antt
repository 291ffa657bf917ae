use Rattle.std.proofs.Common.{rules, length, arith, ◌-◌, ◌∙◌}
use Rattle.tokens.proofs.Cutting.{first, none_left, rest_shorter}
use Rattle.tokens.proofs.Lists.{one_of, left_is, left_gives, left_fewer}
use Rattle.tokens.proofs.iter.TokensIterator.next.Goals as goal

pub returns-in_err-lexed-clause-steps : goal.returns-in_err-lexed-clause-steps
returns-in_err-lexed-clause-steps c =
    let it = c.args.self.now in
    let none = left_is it ∙ none_left it.rest.now c.in_err-lexed.ensures.answer (it.whole - length it.rest.now) in
    search (rules, none)

pub returns-clause-steps : goal.returns-clause-steps
returns-clause-steps c =
    let it = c.args.self.now in
    left_gives it _ (first it.rest.now c.in_ok-lexed.lexed c.in_ok-lexed.ensures.answer it.whole it.within)

pub returns-clause-goes : goal.returns-clause-goes
returns-clause-goes c =
    let it = c.args.self.now in
    let gives = first it.rest.now c.in_ok-lexed.lexed c.in_ok-lexed.ensures.answer it.whole it.within in
    search (rules, left_fewer, gives)

pub invariant_of-self : goal.invariant_of-self
invariant_of-self c =
    let it = c.args.self.now in
    let shorter = rest_shorter it.rest.now c.in_ok-lexed.lexed c.in_ok-lexed.ensures.answer in
    record { within = omega (arith, shorter, it.within); ahead = one_of _ _ }
