-- Answers that may be faults.
use Rattle.std.specs.Prelude.{Ok, Err, Result}

-- an answer with the value in its Ok taken through f
abbrev pub through : {A B E : Type 0} → (A → B) → Result A E → Result B E
through f (Ok value) = Ok (f value)
through f (Err fault) = Err fault
