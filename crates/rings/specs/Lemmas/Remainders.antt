-- The residues modulo m keep the laws.
use Rattle.std.specs.Prelude.{◌≡◌, ℕ, ◌+◌, ◌-◌, ◌*◌, ◌/◌, ◌%◌, ◌^◌, ◌<◌, ◌≤◌}
use Rattle.std.proofs.Math.Path.{sym, ap}
use Rattle.std.proofs.Common.{◌∙◌, mod-lt, add-mul, arith}
use Rattle.std.proofs.Math.Nat.{mod-eq_of_lt, mod_self, mod-add-mod, add-mod-mod, mod-add-div, add-mul-mod_self_left, add_assoc, add_comm, mul_assoc, mul_comm, mul-add, one-mul, zero-add}
use Rattle.rings.specs.Model.{Laws}
use Rattle.rings.specs.Modular.{residues}

pub mod_mul_mod : (a m b : ℕ) → (a % m * b) % m ≡ (a * b) % m
mod_mul_mod a m b =
    let parts : a * b ≡ a % m * b + m * (a / m * b) = ap (λ (x : ℕ). x * b) (sym (mod-add-div a m)) ∙ add-mul (a % m) (m * (a / m)) b ∙ ap (λ (x : ℕ). a % m * b + x) (mul_assoc m (a / m) b) in
    sym (ap (λ (x : ℕ). x % m) parts ∙ add-mul-mod_self_left (a % m * b) m (a / m * b))

pub mul_mod_mod : (a b m : ℕ) → (a * (b % m)) % m ≡ (a * b) % m
mul_mod_mod a b m = ap (λ (x : ℕ). x % m) (mul_comm a (b % m)) ∙ mod_mul_mod b m a ∙ ap (λ (x : ℕ). x % m) (mul_comm b a)

module _ (m : ℕ) (lower : 2 ≤ m) (upper : m ≤ 2 ^ 31) where
  below : (n : ℕ) → n % m < m
  below n = mod-lt n (omega arith)

  pub residues_laws : Laws (residues m)
  unfolding residues
  residues_laws = record {
    size_from = omega arith;
    size_to = omega arith;
    one_code = omega arith;
    add_code = λ x y _ _. below (x + y);
    neg_code = λ x _. below (m - x);
    mul_code = λ x y _ _. below (x * y);
    add_assoc = λ x y z _ _ _. mod-add-mod (x + y) m z ∙ ap (λ (n : ℕ). n % m) (add_assoc x y z) ∙ sym (add-mod-mod x (y + z) m);
    add_comm = λ x y _ _. ap (λ (n : ℕ). n % m) (add_comm x y);
    zero_add = λ x h. ap (λ (n : ℕ). n % m) (zero-add x) ∙ mod-eq_of_lt h;
    neg_add = λ x h. mod-add-mod (m - x) m x ∙ ap (λ (n : ℕ). n % m) (let e : (m - x) + x ≡ m = omega arith in e) ∙ mod_self m;
    mul_assoc = λ x y z _ _ _. mod_mul_mod (x * y) m z ∙ ap (λ (n : ℕ). n % m) (mul_assoc x y z) ∙ sym (mul_mod_mod x (y * z) m);
    mul_comm = λ x y _ _. ap (λ (n : ℕ). n % m) (mul_comm x y);
    one_mul = λ x h. ap (λ (n : ℕ). n % m) (one-mul x) ∙ mod-eq_of_lt h;
    mul_add = λ x y z _ _ _. mul_mod_mod x (y + z) m ∙ ap (λ (n : ℕ). n % m) (mul-add x y z) ∙ sym (mod-add-mod (x * y) m (x * z % m) ∙ add-mod-mod (x * y) (x * z) m);
  }
