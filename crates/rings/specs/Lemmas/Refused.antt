-- An answer that is a fault is none that is a value.
use Rattle.std.specs.Prelude.{◌≡◌, ℕ, Ok, Err, Result}
use Rattle.std.proofs.Common.{arith}

pub not_ok : {T E A : Type 0} (fault : E) (value : T) → ◌≡◌ {A = Result T E} (Err fault) (Ok value) → A
not_ok fault value e = absurd (let z : ◌≡◌ {A = ℕ} 0 1 = cc in omega arith)
