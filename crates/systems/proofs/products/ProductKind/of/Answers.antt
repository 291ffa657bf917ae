use Rattle.std.proofs.Common.{rules}
use Rattle.rings.specs.Lemmas.Total.{total}
use Rattle.systems.proofs.WeightLaws.{weight_laws}
use Rattle.systems.proofs.Theorems.{series_rings}
use Rattle.systems.proofs.products.ProductKind.of.Goals as goal

pub returns-in_err-admit : goal.returns-in_err-admit
returns-in_err-admit g c =
    let lawful = g.met.R.Ring.lawful c.args.ring.now in
    record { answer = search rules; weights = weight_laws (total _ lawful); series = series_rings _ lawful }

pub returns : goal.returns
returns g c =
    let lawful = g.met.R.Ring.lawful c.args.ring.now in
    record { answer = search rules; weights = weight_laws (total _ lawful); series = series_rings _ lawful }
