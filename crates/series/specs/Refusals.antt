-- Why a table is refused, by number and place.
use Rattle.std.specs.Prelude.{◌≡◌, ℕ, cond, ◌&&◌, Ok, Err, Result, nat_le, nat_lt}
use Rattle.rings.specs.Faults.{place_of as ring_place}
use Rattle.rings.specs.Model.{RingModel, Order, size_of}
use Rattle.series.specs.declared.fault.TableFault.{TableFault}
use Rattle.series.specs.declared.fault.TableFault.TheVariants.{Ring, Base, Length, Memory}

-- 20: the ring is not in order. 21: q is not below the size. 22: the length is not 1 to 64. Want of memory has no number of its own: 0.
abbrev pub number_of : TableFault → ℕ
number_of (Ring fault) = 20
number_of Base = 21
number_of Length = 22
number_of Memory = 0

-- the place of 20 is that of the ring's fault
abbrev pub place_of : TableFault → ℕ
place_of (Ring fault) = ring_place fault
place_of Base = 0
place_of Length = 0
place_of Memory = 0

-- nothing refuses the table, or the fault that does
abbrev pub Admission : Type 0
Admission = Result (Unit {0}) TableFault

-- the first reason that holds decides: the ring's order, then q, then the length
abbrev pub admission : Order → ℕ → ℕ → ℕ → Admission
admission (Err fault) size q N = Err (Ring fault)
admission (Ok _) size q N = cond (nat_lt q size) (cond (nat_le 1 N && nat_le N 64) (Ok tt) (Err Length)) (Err Base)

-- whether there is a table of N terms over the ring with q
abbrev pub admitted : RingModel → ℕ → ℕ → Admission
admitted m q N = admission m.order (size_of m) q N

-- the fault of a table that could not be made: the one that decides, or want of memory if there is none
abbrev pub RefusedWith : Admission → TableFault → Type 0
RefusedWith (Err decides) fault = fault ≡ decides
RefusedWith (Ok _) fault = fault ≡ Memory

-- an attempt to make something of N terms over the ring with q: it is made only where nothing refuses it, and else the fault says why
abbrev pub Attempt : {A : Type 0} → RingModel → ℕ → ℕ → (A → Type 0) → Result A TableFault → Type 0
Attempt m q N Made (Ok value) = (admitted m q N ≡ Ok tt) × Made value
Attempt m q N Made (Err fault) = RefusedWith (admitted m q N) fault
