use Rattle.std.proofs.Common.{◌≡◌, fold, ◌∙◌, rules, arith}
use Rattle.std.proofs.iter.runs.Made.{chains}
use Rattle.records.proofs.Decimals.{with_digit, folded}
use Rattle.records.proofs.writer.value.Goals as goal

pub returns : goal.returns
returns c =
    let e : c.fold.result ≡ fold with_digit 0 c.args.digits.now = search (rules, chains) in
    e ∙ folded 0 c.args.digits.now (omega arith)
