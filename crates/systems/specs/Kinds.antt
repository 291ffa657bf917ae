-- Which product of series goes with q.
use Rattle.std.specs.Prelude.{ℕ, cond, List, Result, codes, ◌==◌}
use Rattle.rings.specs.Answers.{through}
use Rattle.rings.specs.Model.{RingModel, one_of}
use Rattle.series.specs.declared.fault.TableFault.{TableFault}
use Rattle.series.specs.Refusals.{admitted}
use Rattle.systems.specs.declared.products.ProductKind.{ProductKind}
use Rattle.systems.specs.declared.products.ProductKind.TheVariants.{Cauchy, Hurwitz, Gauss}

-- Cauchy's at q = 0, Hurwitz's at q = 1, and the one weighted by q at every other q
abbrev pub kind : RingModel → ℕ → ProductKind
kind m q = cond (q == 0) Cauchy (cond (q == one_of m) Hurwitz Gauss)

-- the kind, or the fault that refuses every table over the ring with q, whatever its length
abbrev pub kind_of : RingModel → ℕ → Result ProductKind TableFault
kind_of m q = through (λ _. kind m q) (admitted m q 1)

-- the name that a product is printed by
abbrev pub name_of : ProductKind → List ℕ
name_of Cauchy = codes "Cauchy"
name_of Hurwitz = codes "Hurwitz"
name_of Gauss = codes "Gauss"
