-- The laws of the records.
use Rattle.reader.proofs.Accepted.{solvable}
use Rattle.records.specs.Reading.{RecordLaws}
use Rattle.records.proofs.Laying.{laid_all_length}
use Rattle.records.proofs.Products.{signs}
use Rattle.records.proofs.Represented.{represents}

pub record_laws : RecordLaws
record_laws = record {
  count = λ S. laid_all_length _ 0 S;
  signs = signs;
  meaning = λ bs S h. represents S (solvable bs S h);
}
