-- A field over a type of its own, with laws that have no side conditions.
-- Theorems are proved here, where an equation is an equation. The module Bridge makes such a field of the numbers
-- below q, and brings the theorems back to numbers.
use Rattle.std.proofs.Common.{◌≡◌}

pub record AbstractField : Type 1 where
  -- the symbols
  pub K : Type 0
  infixl 65 ◌⊕◌
  infixl 70 ◌⊗◌
  pub ◌⊕◌ : K → K → K
  pub ◌⊗◌ : K → K → K
  -- 0 − u
  pub neg : K → K
  pub inv : K → K
  pub 𝟘 : K
  pub 𝟙 : K
  pub add_comm : (u v : K) → u ⊕ v ≡ v ⊕ u
  pub add_assoc : (u v w : K) → u ⊕ v ⊕ w ≡ u ⊕ (v ⊕ w)
  pub add-zero : (u : K) → u ⊕ 𝟘 ≡ u
  pub add-neg : (u : K) → u ⊕ neg u ≡ 𝟘
  pub mul_comm : (u v : K) → u ⊗ v ≡ v ⊗ u
  pub mul_assoc : (u v w : K) → u ⊗ v ⊗ w ≡ u ⊗ (v ⊗ w)
  pub mul-one : (u : K) → u ⊗ 𝟙 ≡ u
  pub mul-add : (u v w : K) → u ⊗ (v ⊕ w) ≡ u ⊗ v ⊕ u ⊗ w
  pub mul-inv : (u : K) → ¬ (u ≡ 𝟘) → u ⊗ inv u ≡ 𝟙
  pub zero≢one : ¬ (𝟘 ≡ 𝟙)
  pub equal? : (u v : K) → Dec (u ≡ v)
