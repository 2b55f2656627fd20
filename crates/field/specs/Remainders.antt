-- Sums and products of remainders: associative, and distributive.
use Rattle.std.specs.Prelude.{◌≡◌, ℕ, ◌+◌, ◌*◌, ◌/◌, ◌%◌}
use Rattle.std.proofs.Common.{sym, ap, ◌∙◌, add_assoc, mul_comm, mul_assoc, mul-add, add-mul, div-add-mod'}
use Rattle.std.proofs.Math.Nat.{mod-add-mod, add-mod-mod, mul-add-mod_self_right}

-- a remainder may stand for the number in a product
pub mul_mod_left : (a b m : ℕ) → a % m * b % m ≡ a * b % m
mul_mod_left a b m =
    sym (mul-add-mod_self_right (a / m * b) m (a % m * b))
    ∙ ap (λ (x : ℕ). (x + a % m * b) % m)
    (mul_assoc (a / m) b m ∙ ap (λ (x : ℕ). a / m * x) (mul_comm b m) ∙ sym (mul_assoc (a / m) m b))
    ∙ ap (λ (x : ℕ). x % m) (sym (add-mul (a / m * m) (a % m) b))
    ∙ ap (λ (x : ℕ). x * b % m) (div-add-mod' a m)

pub mul_mod_right : (a b m : ℕ) → a * (b % m) % m ≡ a * b % m
mul_mod_right a b m =
    ap (λ (x : ℕ). x % m) (mul_comm a (b % m)) ∙ mul_mod_left b a m ∙ ap (λ (x : ℕ). x % m) (mul_comm b a)

module _ (m : ℕ) where
  pub add_assoc_mod : (a b c : ℕ) → ((a + b) % m + c) % m ≡ (a + (b + c) % m) % m
  add_assoc_mod a b c =
      mod-add-mod (a + b) m c ∙ ap (λ (x : ℕ). x % m) (add_assoc a b c) ∙ sym (add-mod-mod a (b + c) m)

  pub mul_assoc_mod : (a b c : ℕ) → a * b % m * c % m ≡ a * (b * c % m) % m
  mul_assoc_mod a b c =
      mul_mod_left (a * b) c m ∙ ap (λ (x : ℕ). x % m) (mul_assoc a b c) ∙ sym (mul_mod_right a (b * c) m)

  pub mul_add_mod : (a b c : ℕ) → a * ((b + c) % m) % m ≡ (a * b % m + a * c % m) % m
  mul_add_mod a b c =
      mul_mod_right a (b + c) m ∙ ap (λ (x : ℕ). x % m) (mul-add a b c)
      ∙ sym (mod-add-mod (a * b) m (a * c % m) ∙ add-mod-mod (a * b) (a * c) m)
