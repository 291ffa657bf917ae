-- Residues modulo m.
use Rattle.std.specs.Prelude.{◌≡◌, ℕ, ◌+◌, ◌-◌, ◌*◌, ◌%◌, ◌^◌, ◌≤◌, Ok, Err, Result}
use Rattle.rings.specs.declared.fault.RingFault.{RingFault}
use Rattle.rings.specs.Faults.{at_depth}
use Rattle.rings.specs.declared.fault.RingRule.TheVariants.{Modulus}
use Rattle.rings.specs.Model.{RingModel, in_order}

-- the sum, the opposite and the product of whole numbers, each with its remainder modulo m taken
unfoldable pub residues : ℕ → RingModel
residues m = record {
  order = in_order;
  size = m;
  one = 1;
  add = λ x y. (x + y) % m;
  neg = λ x. (m - x) % m;
  mul = λ x y. (x * y) % m;
}

-- the moduli that there are residue rings for
abbrev pub IsModulus : ℕ → Type 0
IsModulus m = (2 ≤ m) × (m ≤ 2 ^ 31)

-- what making a residue ring answers: the residues modulo m, or fault 1 with depth 0 for another m
abbrev pub MakesResidues : ℕ → Result RingModel RingFault → Type 0
MakesResidues m (Ok ring) = IsModulus m × (ring ≡ residues m)
MakesResidues m (Err fault) = (¬ (IsModulus m)) × (fault ≡ at_depth Modulus 0)
