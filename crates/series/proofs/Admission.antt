-- What is known where nothing refuses a table, and where want of memory does.
use Rattle.std.proofs.Common.{◌≡◌, ℕ, ◌<◌, ◌≤◌, Bool, true, false, cond, ◌&&◌, ltb, leb, Ok, Err, Result, sym, refl, subst, ltb-true, leb-true}
use Rattle.rings.specs.Lemmas.Refused.{not_ok}
use Rattle.rings.specs.Model.{RingModel, Order, in_order, size_of}
use Rattle.series.specs.declared.fault.TableFault.{TableFault}
use Rattle.series.specs.declared.fault.TableFault.TheVariants.{Ring, Base, Length, Memory}
use Rattle.series.specs.Refusals.{Admission, admission, admitted, RefusedWith, Attempt}

-- the ring is in order, q is a code, and the length is 1 to 64
pub record Admits (m : RingModel) (q N : ℕ) : Type 0 where
  pub on : m.order ≡ in_order
  pub base : q < size_of m
  pub least : 1 ≤ N
  pub most : N ≤ 64

lengths : (N : ℕ) (a b : Bool) → leb 1 N ≡ a → leb N 64 ≡ b → ◌≡◌ {A = Admission} (cond (a && b) (Ok tt) (Err Length)) (Ok tt) → (1 ≤ N) × (N ≤ 64)
lengths N true true p r e = (leb-true 1 N p, leb-true N 64 r)
lengths N true false p r e = not_ok Length tt e
lengths N false b p r e = not_ok Length tt e

base_at : (size q N : ℕ) (b : Bool) → ltb q size ≡ b → ◌≡◌ {A = Admission} (cond b (cond (leb 1 N && leb N 64) (Ok tt) (Err Length)) (Err Base)) (Ok tt) → (q < size) × (1 ≤ N) × (N ≤ 64)
base_at size q N true p e = let l = lengths N (leb 1 N) (leb N 64) refl refl e in (ltb-true q size p, l.0, l.1)
base_at size q N false p e = not_ok Base tt e

admits_at : (m : RingModel) (q N : ℕ) (o : Order) → m.order ≡ o → admission o (size_of m) q N ≡ Ok tt → Admits m q N
admits_at m q N (Err fault) p e = not_ok (Ring fault) tt e
admits_at m q N (Ok u) p e = let l = base_at (size_of m) q N (ltb q (size_of m)) refl e in record { on = p; base = l.0; least = l.1; most = l.2 }

pub admits : (m : RingModel) (q N : ℕ) → admitted m q N ≡ Ok tt → Admits m q N
admits m q N e = admits_at m q N m.order refl e

-- nothing refuses it but the memory
pub for_memory : (r : Admission) → r ≡ Ok tt → RefusedWith r Memory
for_memory r e = subst (λ x. RefusedWith x Memory) (sym e) refl

-- the fault that decides
pub decides : (r : Admission) (fault : TableFault) → r ≡ Err fault → RefusedWith r fault
decides r fault e = subst (λ x. RefusedWith x fault) (sym e) refl

-- what follows from a thing that was made follows from the attempt
pub attempted : {A : Type 0} (m : RingModel) (q N : ℕ) (P Q : A → Type 0) → ((a : A) → P a → Q a) → (r : Result A TableFault) → Attempt m q N P r → Attempt m q N Q r
attempted m q N P Q f (Ok a) h = (h.0, f a h.1)
attempted m q N P Q f (Err fault) h = h
