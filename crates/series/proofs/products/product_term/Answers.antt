use Rattle.std.proofs.Common.{◌∙◌, arith}
use Rattle.series.specs.Terms.{Enough}
use Rattle.series.proofs.Sums.{weighted_times}
use Rattle.series.proofs.products.product_term.Goals as goal

pub returns-clause-product : goal.returns-clause-product
returns-clause-product g c q N h t A B p r =
    let enough : Enough c.args.weights.now c.args.a.now c.args.b.now c.args.n = record { small = omega arith; first = omega arith; second = omega arith; weights = omega arith } in
    c.summed.ensures ∙ weighted_times _ q N _ _ _ _ h t enough A B p r
