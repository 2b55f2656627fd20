-- Consequences of the laws of a field over its carrier: zero, negatives, cancellation, powers.
-- `simp ring` multiplies out and sorts; it proves every equation of sums and products in which nothing but u ⊕ neg u
-- cancels.
use Rattle.std.proofs.Common.{◌≡◌, ℕ, zero, suc, ◌+◌, ◌*◌, sym, refl, ◌∙◌, suc-mul as ℕ-suc-mul, suc-add as ℕ-suc-add, zero-add as ℕ-zero-add, zero-mul as ℕ-zero-mul}
use Rattle.algebra.proofs.Carrier.{AbstractField}

module _ (F : AbstractField) where
  open F use {K, ◌⊕◌, ◌⊗◌, neg, inv, 𝟘, 𝟙, zero≢one}

  infixl 65 ◌⊕◌
  infixl 70 ◌⊗◌
  -- the laws themselves, as lemmas that a ruleset can list

  pub add_comm : (u v : K) → u ⊕ v ≡ v ⊕ u
  add_comm = F.add_comm

  pub add_assoc : (u v w : K) → u ⊕ v ⊕ w ≡ u ⊕ (v ⊕ w)
  add_assoc = F.add_assoc

  pub add-zero : (u : K) → u ⊕ 𝟘 ≡ u
  add-zero = F.add-zero

  pub add-neg : (u : K) → u ⊕ neg u ≡ 𝟘
  add-neg = F.add-neg

  pub mul_comm : (u v : K) → u ⊗ v ≡ v ⊗ u
  mul_comm = F.mul_comm

  pub mul_assoc : (u v w : K) → u ⊗ v ⊗ w ≡ u ⊗ (v ⊗ w)
  mul_assoc = F.mul_assoc

  pub mul-one : (u : K) → u ⊗ 𝟙 ≡ u
  mul-one = F.mul-one

  pub mul-add : (u v w : K) → u ⊗ (v ⊕ w) ≡ u ⊗ v ⊕ u ⊗ w
  mul-add = F.mul-add

  pub mul-inv : (u : K) → ¬ (u ≡ 𝟘) → u ⊗ inv u ≡ 𝟙
  mul-inv = F.mul-inv

  -- the other side of each

  pub zero-add : (u : K) → 𝟘 ⊕ u ≡ u
  zero-add u = add_comm 𝟘 u ∙ add-zero u

  pub one-mul : (u : K) → 𝟙 ⊗ u ≡ u
  one-mul u = mul_comm 𝟙 u ∙ mul-one u

  pub neg-add : (u : K) → neg u ⊕ u ≡ 𝟘
  neg-add u = add_comm (neg u) u ∙ add-neg u

  pub add-mul : (u v w : K) → (u ⊕ v) ⊗ w ≡ u ⊗ w ⊕ v ⊗ w
  add-mul u v w = cc (mul_comm (u ⊕ v) w, mul-add w u v, mul_comm w u, mul_comm w v)

  pub add_left_comm : (u v w : K) → u ⊕ (v ⊕ w) ≡ v ⊕ (u ⊕ w)
  add_left_comm u v w = cc (add_assoc u v w, add_assoc v u w, add_comm u v)

  pub mul_left_comm : (u v w : K) → u ⊗ (v ⊗ w) ≡ v ⊗ (u ⊗ w)
  mul_left_comm u v w = cc (mul_assoc u v w, mul_assoc v u w, mul_comm u v)

  -- cancellation, and products with 0

  pub neg_add_cancel : (u v : K) → neg u ⊕ (u ⊕ v) ≡ v
  neg_add_cancel u v = cc (add_assoc (neg u) u v, neg-add u, zero-add v)

  pub add_neg_cancel : (u v : K) → u ⊕ (neg u ⊕ v) ≡ v
  add_neg_cancel u v = cc (add_assoc u (neg u) v, add-neg u, zero-add v)

  pub add_left_cancel : (u v w : K) → u ⊕ v ≡ u ⊕ w → v ≡ w
  add_left_cancel u v w h = cc (neg_add_cancel u v, neg_add_cancel u w)

  pub add_right_cancel : (u v w : K) → u ⊕ w ≡ v ⊕ w → u ≡ v
  add_right_cancel u v w h = add_left_cancel w u v (cc (add_comm u w, add_comm v w))

  pub zero-mul : (u : K) → 𝟘 ⊗ u ≡ 𝟘
  zero-mul u = add_left_cancel (𝟘 ⊗ u) (𝟘 ⊗ u) 𝟘 (cc (add-mul 𝟘 𝟘 u, add-zero 𝟘, add-zero (𝟘 ⊗ u)))

  pub mul-zero : (u : K) → u ⊗ 𝟘 ≡ 𝟘
  mul-zero u = mul_comm u 𝟘 ∙ zero-mul u

  -- negatives

  pub neg_unique : (u v : K) → u ⊕ v ≡ 𝟘 → v ≡ neg u
  neg_unique u v h = add_left_cancel u v (neg u) (cc (add-neg u))

  pub neg-zero : neg 𝟘 ≡ 𝟘
  neg-zero = sym (neg_unique 𝟘 𝟘 (add-zero 𝟘))

  pub neg-neg : (u : K) → neg (neg u) ≡ u
  neg-neg u = sym (neg_unique (neg u) u (neg-add u))

  pub mul-neg : (u v : K) → u ⊗ neg v ≡ neg (u ⊗ v)
  mul-neg u v = neg_unique (u ⊗ v) (u ⊗ neg v) (cc (mul-add u v (neg v), add-neg v, mul-zero u))

  pub neg-mul : (u v : K) → neg u ⊗ v ≡ neg (u ⊗ v)
  neg-mul u v = cc (mul_comm (neg u) v, mul-neg v u, mul_comm u v)

  pub neg_sum : (u v : K) → neg (u ⊕ v) ≡ neg u ⊕ neg v
  neg_sum u v =
      sym (neg_unique (u ⊕ v) (neg u ⊕ neg v) (simp (add_assoc, add_left_comm v (neg u) (neg v), add-neg, add-zero)))

  pub ruleset ring = (
    mul-add,
    add-mul,
    neg_sum,
    neg-neg,
    neg-mul,
    mul-neg,
    neg-zero,
    zero-mul,
    mul-zero,
    add-zero,
    zero-add,
    mul-one,
    one-mul,
    add-neg,
    neg-add,
    add_neg_cancel,
    neg_add_cancel,
    add_assoc,
    mul_assoc,
    add_comm,
    add_left_comm,
    mul_comm,
    mul_left_comm,
  )

  -- differences

  pub sub_self : (u v : K) → u ≡ v → u ⊕ neg v ≡ 𝟘
  sub_self u v h = cc (add-neg v)

  pub sub_eq : (u v : K) → u ⊕ neg v ≡ 𝟘 → u ≡ v
  sub_eq u v h = neg_unique (neg v) u (cc (add_comm u (neg v))) ∙ neg-neg v

  pub sub_ne : (u v : K) → ¬ (u ≡ v) → ¬ (u ⊕ neg v ≡ 𝟘)
  sub_ne u v n h = n (sub_eq u v h)

  pub add-sub : (u v : K) → u ⊕ (v ⊕ neg u) ≡ v
  add-sub u v = cc (add_left_comm u v (neg u), add-neg u, add-zero v)

  pub sub-add : (u v : K) → u ⊕ neg v ⊕ v ≡ u
  sub-add u v = simp ring

  -- products and inverses

  pub no_zero_divisors : (u v : K) → u ⊗ v ≡ 𝟘 → ¬ (u ≡ 𝟘) → v ≡ 𝟘
  no_zero_divisors u v h n = cc (mul-inv u n, mul_assoc (inv u) u v, mul_comm (inv u) u, one-mul v, mul-zero (inv u))

  pub mul_ne : (u v : K) → ¬ (u ≡ 𝟘) → ¬ (v ≡ 𝟘) → ¬ (u ⊗ v ≡ 𝟘)
  mul_ne u v nu nv h = nv (no_zero_divisors u v h nu)

  pub inv_ne : (u : K) → ¬ (u ≡ 𝟘) → ¬ (inv u ≡ 𝟘)
  inv_ne u n h = zero≢one (cc (mul-inv u n, mul-zero u))

  pub mul_left_cancel : (w u v : K) → ¬ (w ≡ 𝟘) → w ⊗ u ≡ w ⊗ v → u ≡ v
  mul_left_cancel w u v n h =
      cc (mul-inv w n, mul_comm w (inv w), mul_assoc (inv w) w u, mul_assoc (inv w) w v, one-mul u, one-mul v)

  pub mul-div : (u v : K) → ¬ (u ≡ 𝟘) → u ⊗ (v ⊗ inv u) ≡ v
  mul-div u v n = cc (mul_left_comm u v (inv u), mul-inv u n, mul-one v)

  -- powers

  unfoldable pub pow : K → ℕ → K
  pow u zero = 𝟙
  pow u (suc e) = u ⊗ pow u e

  pub pow-zero : (u : K) → pow u 0 ≡ 𝟙
  unfolding pow
  pow-zero u = refl

  pub pow-suc : (u : K) (e : ℕ) → pow u (suc e) ≡ u ⊗ pow u e
  unfolding pow
  pow-suc u e = refl

  pub pow-one : (u : K) → pow u 1 ≡ u
  pow-one u = pow-suc u 0 ∙ cc (pow-zero u, mul-one u)

  pub pow-add : (u : K) (d e : ℕ) → pow u (d + e) ≡ pow u d ⊗ pow u e
  pow-add u zero e = simp (ℕ-zero-add, pow-zero, ring)
  pow-add u (suc d) e = simp (ℕ-suc-add, pow-suc, pow-add u d e, ring)

  pub pow-mul : (u : K) (d e : ℕ) → pow u (d * e) ≡ pow (pow u e) d
  pow-mul u zero e = simp (ℕ-zero-mul, pow-zero)
  pow-mul u (suc d) e = simp (ℕ-suc-mul, pow-suc, pow-add, pow-mul u d e, ring)

  pub pow_ne : (u : K) → ¬ (u ≡ 𝟘) → (e : ℕ) → ¬ (pow u e ≡ 𝟘)
  pow_ne u n zero h = zero≢one (sym h ∙ pow-zero u)
  pow_ne u n (suc e) h = pow_ne u n e (no_zero_divisors u (pow u e) (sym (pow-suc u e) ∙ h) n)
