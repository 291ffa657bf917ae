-- A text's fault by number and place.
use Rattle.std.specs.Prelude.{ℕ}
use Rattle.reader.specs.declared.fault.TextFault.{TextFault}
use Rattle.reader.specs.Rules as Rules

abbrev pub number_of : TextFault → ℕ
number_of fault = Rules.number_of fault.rule

abbrev pub place_of : TextFault → ℕ
place_of fault = fault.place
