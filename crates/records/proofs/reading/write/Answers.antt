use Rattle.std.proofs.Common.{◌≡◌, fold, sym, ap, ◌∙◌, subst}
use Rattle.tokens.specs.Listed.{left_to_give}
use Rattle.tokens.proofs.Listing.{one_list}
use Rattle.reader.specs.Rules.{kinds}
use Rattle.records.specs.Inner.Writing.{nothing_written, after, Written}
use Rattle.records.proofs.Going.{writes_system}
use Rattle.records.proofs.reading.write.Goals as goal

pub returns : goal.returns
returns c = λ S h.
    let all : left_to_give c.into_iter-token-iterator.result ≡ h.tokens =
    ap left_to_give c.into_iter-token-iterator.ensures.into_iter_gives ∙ one_list.only 0 c.args.text.now _ _ c.tokens-token-items.ensures.listed h.listed in
    let whole : c.loop-token.writer ≡ fold after nothing_written (kinds h.tokens) =
    ap (λ ts. fold after c.loop-token.writer (kinds ts)) (sym c.in-None.ensures.steps.0) ∙ c.loop-token.invariant ∙ ap (λ ts. fold after nothing_written (kinds ts)) all in
    subst (Written S) (sym whole) (writes_system c.args.text.now S h)
