-- Texts worked out, by the machine.
use Rattle.std.proofs.Common.{◌≡◌, ℕ, List, [], ◌∷◌, map, Result, refl, subst}
use mathlib.Core.List.{head-eq_of_cons-eq, tail-eq_of_cons-eq}
use Rattle.reader.specs.declared.fault.TextFault.{TextFault}
use Rattle.reader.specs.Examining.{Examined}
use Rattle.reader.specs.Examples.{worked, AllExamined, WorkedTexts}
use Rattle.reader.proofs.Answering.{answer, examined}

abbrev Row : Type 0
Row = List ℕ × Result (ℕ × ℕ) TextFault

by_answers : (rows : List Row) → map (λ (r : Row). answer r.0) rows ≡ map (λ (r : Row). r.1) rows → AllExamined rows
by_answers [] e = tt
by_answers (row ∷ rows) e = (subst (Examined row.0) (head-eq_of_cons-eq e) (examined row.0), by_answers rows (tail-eq_of_cons-eq e))

pub worked_texts : WorkedTexts
worked_texts = record { examined = by_answers worked refl }
