-- Powers of a symbol.
use Rattle.std.specs.Prelude.{◌≡◌, ℕ, zero, suc, ◌+◌, ◌/◌, ◌%◌, ◌<◌}
use Rattle.std.proofs.Math.Path.{refl, sym, ap}
use Rattle.std.proofs.Common.{◌∙◌, zero-add, suc-add, add-one}
use native.Mathlib.Omega.{arith}
use Rattle.field.specs.Laws.{Operations, Laws, power, symbol}
use Rattle.field.specs.Operands.{symbol_below, left_operand, right_operand}

-- The laws of the product that powers and inverses rest on.
pub record Multiplies (q : ℕ) (mul : ℕ → ℕ → ℕ) : Type 0 where
  pub one_below : 1 < q
  pub below : (u v : ℕ) → mul u v < q
  pub comm : (u v : ℕ) → u < q → v < q → mul u v ≡ mul v u
  pub assoc : (u v w : ℕ) → u < q → v < q → w < q → mul (mul u v) w ≡ mul u (mul v w)
  pub one : (u : ℕ) → u < q → mul u 1 ≡ u

pub multiplies : (F : Operations) → Laws F → Multiplies F.q F.mul
multiplies F L = record {
  one_below = L.one_below;
  below = L.mul_below;
  comm = L.mul_comm;
  assoc = L.mul_assoc;
  one = L.mul-one;
}

pub power_zero : (F : Operations) (u : ℕ) → power F u 0 ≡ 1
unfolding power
power_zero F u = refl

pub power-suc : (F : Operations) (u e : ℕ) → power F u (suc e) ≡ F.mul u (power F u e)
unfolding power
power-suc F u e = refl

-- One power more.
pub power_more : (F : Operations) (u e : ℕ) → power F u (e + 1) ≡ F.mul u (power F u e)
power_more F u e = ap (power F u) (add-one e) ∙ power-suc F u e

module _ (F : Operations) (M : Multiplies F.q F.mul) where
  pub power_below : (u e : ℕ) → power F u e < F.q
  unfolding power
  power_below u zero = M.one_below
  power_below u (suc e) = M.below u (power F u e)

  -- The product of two powers of a symbol.
  pub power-add : (u d e : ℕ) → u < F.q → power F u (d + e) ≡ F.mul (power F u d) (power F u e)
  unfolding power
  power-add u zero e h =
      ap (power F u) (zero-add e) ∙ sym (M.one (power F u e) (power_below u e))
      ∙ M.comm (power F u e) 1 (power_below u e) M.one_below
  power-add u (suc d) e h =
      ap (power F u) (suc-add d e) ∙ ap (F.mul u) (power-add u d e h)
      ∙ sym (M.assoc u (power F u d) (power F u e) h (power_below u d) (power_below u e))

-- A power with an exponent of two digits or more, from the square: for every number u, also of q or more.
module _ (F : Operations) (L : Laws F) where
  positive : 0 < F.q
  positive = let one : 1 < F.q = L.one_below in omega arith

  power_in : (u e : ℕ) → power F u e < F.q
  power_in = power_below F (multiplies F L)

  -- 1 times a power is the power
  pub one_power : (u e : ℕ) → F.mul 1 (power F u e) ≡ power F u e
  one_power u e = L.mul_comm 1 (power F u e) L.one_below (power_in u e) ∙ L.mul-one (power F u e) (power_in u e)

  power_symbol : (u e : ℕ) → power F u e ≡ power F (symbol F.q u) e
  unfolding power
  power_symbol u zero = refl
  power_symbol u (suc e) =
      left_operand F.q F.mul positive L.mul_operands u (power F u e)
      ∙ ap (F.mul (symbol F.q u)) (power_symbol u e)

  square_of : (u k : ℕ) → u < F.q → power F u (k + k) ≡ power F (F.mul u u) k
  unfolding power
  square_of u zero h = refl
  square_of u (suc k) h =
      let twice : suc k + suc k ≡ suc (suc (k + k)) = omega arith in
      ap (power F u) twice ∙ sym (L.mul_assoc u u (power F u (k + k)) h h (power_in u (k + k)))
      ∙ ap (F.mul (F.mul u u)) (square_of u k h)

  square : (u k : ℕ) → power F u (k + k) ≡ power F (F.mul u u) k
  square u k =
      power_symbol u (k + k) ∙ square_of (symbol F.q u) k (symbol_below F.q u positive)
      ∙ ap (λ (x : ℕ). power F x k) (sym (L.mul_operands u u))

  pub power_even : (u e : ℕ) → e % 2 ≡ 0 → power F u e ≡ power F (F.mul u u) (e / 2)
  power_even u e h =
      let halves : e ≡ e / 2 + e / 2 = omega arith in
      ap (power F u) halves ∙ square u (e / 2)

  pub power_odd : (u e : ℕ) → e % 2 ≡ 1 → power F u e ≡ F.mul u (power F (F.mul u u) (e / 2))
  power_odd u e h =
      let halves : e ≡ suc (e / 2 + e / 2) = omega arith in
      ap (power F u) halves ∙ power-suc F u (e / 2 + e / 2) ∙ ap (F.mul u) (square u (e / 2))

  -- a factor moves from the power to the product that is collected
  pub collect_odd : (r u e : ℕ) → r < F.q → e % 2 ≡ 1
      → F.mul (F.mul r u) (power F (F.mul u u) (e / 2)) ≡ F.mul r (power F u e)
  collect_odd r u e hr h =
      let s : ℕ = symbol F.q u in
      let p : ℕ = power F (F.mul u u) (e / 2) in
      ap (λ (x : ℕ). F.mul x p) (right_operand F.q F.mul positive L.mul_operands r u)
      ∙ L.mul_assoc r s p hr (symbol_below F.q u positive) (power_in (F.mul u u) (e / 2))
      ∙ ap (F.mul r) (sym (left_operand F.q F.mul positive L.mul_operands u p) ∙ sym (power_odd u e h))
