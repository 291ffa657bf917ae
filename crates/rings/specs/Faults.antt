-- The faults of rings, by number and place.
use Rattle.std.specs.Prelude.{ℕ, ◌+◌, List, ◌++◌, codes, min}
use Rattle.std.specs.Fmt.{decimal}
use Rattle.rings.specs.declared.fault.RingFault.{RingFault}
use Rattle.rings.specs.declared.fault.RingRule.{RingRule}
use Rattle.rings.specs.declared.fault.RingRule.TheVariants.{Modulus, Polynomial, TooLarge}

-- a rule that is broken, with so many rings above the one at fault
abbrev pub at_depth : RingRule → ℕ → RingFault
at_depth rule depth = record { rule = rule; depth = depth }

-- 1: no residue ring has this modulus. 2: no binary polynomial ring has this f. 3: the ring below a dual ring is too large.
abbrev pub rule_number : RingRule → ℕ
rule_number Modulus = 1
rule_number Polynomial = 2
rule_number TooLarge = 3

-- the number of a ring's fault is that of its rule
abbrev pub number_of : RingFault → ℕ
number_of fault = rule_number fault.rule

-- the place of a ring's fault is its depth: how many rings lie above the one at fault
abbrev pub place_of : RingFault → ℕ
place_of fault = fault.depth

-- the same fault, handed up by the ring above: the depth is raised by 1 and stops at 255
abbrev pub raised : RingFault → RingFault
raised fault = at_depth fault.rule (min (fault.depth + 1) 255)

-- how a fault of this number and place is printed, here and in the layers above: both in decimal digits
abbrev pub fault_text : ℕ → ℕ → List ℕ
fault_text number place = codes "fault " ++ decimal number ++ codes " at " ++ decimal place
