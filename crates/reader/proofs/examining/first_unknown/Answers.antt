use Rattle.std.proofs.Common.{◌≡◌, ℕ, Option, Some, None, refl, sym, ap, ◌∙◌, rules, tests}
use Rattle.std.specs.Option.{option_map}
use Rattle.std.proofs.lemmas.Iterator.Consumers.{YieldsList-from_first}
use Rattle.std.proofs.lemmas.Iterator.Search.{find_from_yields_List}
use Rattle.tokens.specs.Listed.{placed, left_to_give}
use Rattle.tokens.specs.declared.token.Token.{Token as Lent}
use Rattle.tokens.specs.Tokens.{Token}
use Rattle.tokens.proofs.Listing.{one_list}
use Rattle.reader.specs.Inner.Progress.{lacks, missing}
use Rattle.reader.proofs.examining.first_unknown.Goals as goal

places : (r : Option (ℕ × Lent)) → option_map (λ (t : Token). t.place) (option_map placed r) ≡ option_map (λ x. x.0) r
places None = refl
places (Some x) = refl

pub returns : goal.returns
returns c = λ ts w.
    let it = c.tokens.result in
    let found = find_from_yields_List {v = placed} (λ (t : Token). lacks c.args.defined.now t.kind) c.find.new.self _ c.find.result c.find.ensures.ran
    (YieldsList-from_first placed left_to_give (left_to_give it) refl) (λ x b q k. search (rules, tests)) in
    let mapped : c.map.result ≡ option_map (λ x. x.0) c.find.result = search rules in
    mapped ∙ sym (places c.find.result) ∙ ap (option_map (λ (t : Token). t.place)) found
    ∙ ap (missing c.args.defined.now) (one_list.only 0 c.args.text.now (left_to_give it) ts c.tokens.ensures.listed w)
