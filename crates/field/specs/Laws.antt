-- A finite field whose symbols are the numbers 0 to q − 1: its operations, and the laws that they keep.
use Rattle.std.specs.Prelude.{◌≡◌, ℕ, zero, suc, ◌<◌, ◌≤◌, cond, ◌≢◌, nat_lt}

-- What a field computes, on any numbers. q is its size and α its generator.
pub record Operations : Type 0 where
  pub q : ℕ
  pub α : ℕ
  pub add : ℕ → ℕ → ℕ
  pub sub : ℕ → ℕ → ℕ
  pub mul : ℕ → ℕ → ℕ
  pub inv : ℕ → ℕ

-- A number as an operand: itself where it is a symbol, and 0 where it is q or more.
abbrev pub symbol : ℕ → ℕ → ℕ
symbol q u = cond (nat_lt u q) u 0

-- u to the power e; the power 0 is 1.
unfoldable pub power : Operations → ℕ → ℕ → ℕ
power F u zero = 1
power F u (suc e) = F.mul u (power F u e)

-- The laws of a field with at most 65,536 symbols and a generator whose powers 0 to 127 all differ.
pub record Laws (F : Operations) : Type 0 where
  -- 0 and 1 are different symbols, and so is the generator a symbol
  pub one_below : 1 < F.q
  pub size_bound : F.q ≤ 65536
  pub generator_below : F.α < F.q
  -- every result is a symbol
  pub add_below : (u v : ℕ) → F.add u v < F.q
  pub sub_below : (u v : ℕ) → F.sub u v < F.q
  pub mul_below : (u v : ℕ) → F.mul u v < F.q
  pub inv_below : (u : ℕ) → F.inv u < F.q
  -- operands of q or more are taken for 0, and 0 has the inverse 0
  pub add_operands : (u v : ℕ) → F.add u v ≡ F.add (symbol F.q u) (symbol F.q v)
  pub sub_operands : (u v : ℕ) → F.sub u v ≡ F.sub (symbol F.q u) (symbol F.q v)
  pub mul_operands : (u v : ℕ) → F.mul u v ≡ F.mul (symbol F.q u) (symbol F.q v)
  pub inv_operand : (u : ℕ) → F.inv u ≡ F.inv (symbol F.q u)
  pub inv-zero : F.inv 0 ≡ 0
  -- sum and difference
  pub add_comm : (u v : ℕ) → u < F.q → v < F.q → F.add u v ≡ F.add v u
  pub add_assoc : (u v w : ℕ) → u < F.q → v < F.q → w < F.q → F.add (F.add u v) w ≡ F.add u (F.add v w)
  pub add-zero : (u : ℕ) → u < F.q → F.add u 0 ≡ u
  pub add-sub : (u v : ℕ) → u < F.q → v < F.q → F.sub (F.add u v) v ≡ u
  pub sub-add : (u v : ℕ) → u < F.q → v < F.q → F.add (F.sub u v) v ≡ u
  -- product and inverse
  pub mul_comm : (u v : ℕ) → u < F.q → v < F.q → F.mul u v ≡ F.mul v u
  pub mul_assoc : (u v w : ℕ) → u < F.q → v < F.q → w < F.q → F.mul (F.mul u v) w ≡ F.mul u (F.mul v w)
  pub mul-one : (u : ℕ) → u < F.q → F.mul u 1 ≡ u
  pub mul-add : (u v w : ℕ) → u < F.q → v < F.q → w < F.q → F.mul u (F.add v w) ≡ F.add (F.mul u v) (F.mul u w)
  pub mul-inv : (u : ℕ) → u < F.q → (u ≢ 0) → F.mul u (F.inv u) ≡ 1
  -- the powers of the generator with the exponents 0 to 127 all differ
  pub powers_differ : (d e : ℕ) → d < 128 → e < 128 → power F F.α d ≡ power F F.α e → d ≡ e
