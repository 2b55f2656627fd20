-- The laws of a field and of its sums, over numbers. They hold at any numbers, since operands of q or more are taken for 0;
-- `u < F.q` is a premise only where u itself is a side of the equation.
use Rattle.std.proofs.lemmas.Grind.{common_steps}
use Rattle.std.proofs.Common.{◌≡◌, ℕ, zero, suc, ◌+◌, ◌*◌, ◌<◌, ◌⊎◌, sym, refl, ap, ◌∙◌, ap₂, inl, inr, add-one, arith}
use native.Mathlib.Nat as nat
use native.Mathlib.Decide.{ℕ_discrete}
use Rattle.field.specs.Laws.{Operations, Laws, power}
use Rattle.field.specs.Powers as powers
use Rattle.algebra.specs.Sums.{sum, syndrome}
use Rattle.algebra.proofs.Ring.{ring}
use Rattle.algebra.proofs.Ring as carrier
use Rattle.algebra.proofs.CarrierSums as sums
use Rattle.algebra.proofs.Bridge.{field_of, to, to-zero, to-mul, to_injective, to-sum, zero_below, inward}

-- What needs no law.

-- u^(d·0) is 1
pub power-times-zero : (F : Operations) (u d : ℕ) → power F u (d * 0) ≡ 1
power-times-zero F u d = ap (power F u) (nat.mul-zero d) ∙ powers.power_zero F u

-- one term more, counted with + 1 as loops do
pub sum_next : (F : Operations) (n : ℕ) (f : ℕ → ℕ) → sum F (n + 1) f ≡ F.add (sum F n f) (f n)
unfolding sum
sum_next F n f = ap (λ t. sum F t f) (add-one n)

-- equal terms give equal sums
pub sum_same : (F : Operations) (n : ℕ) (f g : ℕ → ℕ) → ((j : ℕ) → j < n → f j ≡ g j) → sum F n f ≡ sum F n g
unfolding sum
sum_same F zero f g h = refl
sum_same F (suc n) f g h = ap₂ F.add (sum_same F n f g (λ j l. h j (omega arith))) (h n (omega arith))

-- What follows from the laws.
module _ (F : Operations) (L : Laws F) where
  -- equations that hold in the carrier hold for results
  cross : (u v : ℕ) → u < F.q → v < F.q → to F L u ≡ to F L v → u ≡ v
  cross = to_injective F L

  -- sums and products, at any numbers

  pub add_comm : (u v : ℕ) → F.add u v ≡ F.add v u
  add_comm u v = cross _ _ (L.add_below u v) (L.add_below v u) (simp (inward, ring))

  pub add_assoc : (u v w : ℕ) → F.add (F.add u v) w ≡ F.add u (F.add v w)
  add_assoc u v w = cross _ _ (L.add_below (F.add u v) w) (L.add_below u (F.add v w)) (simp (inward, ring))

  pub add_left_comm : (u v w : ℕ) → F.add u (F.add v w) ≡ F.add v (F.add u w)
  add_left_comm u v w = cross _ _ (L.add_below u (F.add v w)) (L.add_below v (F.add u w)) (simp (inward, ring))

  pub mul_comm : (u v : ℕ) → F.mul u v ≡ F.mul v u
  mul_comm u v = cross _ _ (L.mul_below u v) (L.mul_below v u) (simp (inward, ring))

  pub mul_assoc : (u v w : ℕ) → F.mul (F.mul u v) w ≡ F.mul u (F.mul v w)
  mul_assoc u v w = cross _ _ (L.mul_below (F.mul u v) w) (L.mul_below u (F.mul v w)) (simp (inward, ring))

  pub mul_left_comm : (u v w : ℕ) → F.mul u (F.mul v w) ≡ F.mul v (F.mul u w)
  mul_left_comm u v w = cross _ _ (L.mul_below u (F.mul v w)) (L.mul_below v (F.mul u w)) (simp (inward, ring))

  pub mul-add : (u v w : ℕ) → F.mul u (F.add v w) ≡ F.add (F.mul u v) (F.mul u w)
  mul-add u v w = cross _ _ (L.mul_below u (F.add v w)) (L.add_below (F.mul u v) (F.mul u w)) (simp (inward, ring))

  pub add-mul : (u v w : ℕ) → F.mul (F.add u v) w ≡ F.add (F.mul u w) (F.mul v w)
  add-mul u v w = cross _ _ (L.mul_below (F.add u v) w) (L.add_below (F.mul u w) (F.mul v w)) (simp (inward, ring))

  pub mul-sub : (u v w : ℕ) → F.mul u (F.sub v w) ≡ F.sub (F.mul u v) (F.mul u w)
  mul-sub u v w = cross _ _ (L.mul_below u (F.sub v w)) (L.sub_below (F.mul u v) (F.mul u w)) (simp (inward, ring))

  pub sub-mul : (u v w : ℕ) → F.mul (F.sub u v) w ≡ F.sub (F.mul u w) (F.mul v w)
  sub-mul u v w = cross _ _ (L.mul_below (F.sub u v) w) (L.sub_below (F.mul u w) (F.mul v w)) (simp (inward, ring))

  pub zero-mul : (u : ℕ) → F.mul 0 u ≡ 0
  zero-mul u = cross _ _ (L.mul_below 0 u) (zero_below F L) (simp (inward, ring))

  pub mul-zero : (u : ℕ) → F.mul u 0 ≡ 0
  mul-zero u = mul_comm u 0 ∙ zero-mul u

  pub sub_self : (u : ℕ) → F.sub u u ≡ 0
  sub_self u = cross _ _ (L.sub_below u u) (zero_below F L) (simp (inward, ring))

  -- the neutral symbols

  pub add-zero : (u : ℕ) → u < F.q → F.add u 0 ≡ u
  add-zero = L.add-zero

  pub zero-add : (u : ℕ) → u < F.q → F.add 0 u ≡ u
  zero-add u h = add_comm 0 u ∙ add-zero u h

  pub sub-zero : (u : ℕ) → u < F.q → F.sub u 0 ≡ u
  sub-zero u h = cross _ _ (L.sub_below u 0) h (simp (inward, ring))

  pub mul-one : (u : ℕ) → u < F.q → F.mul u 1 ≡ u
  mul-one = L.mul-one

  pub one-mul : (u : ℕ) → u < F.q → F.mul 1 u ≡ u
  one-mul u h = mul_comm 1 u ∙ mul-one u h

  -- sums and differences undo one another, and cancel

  pub add-sub : (u v : ℕ) → u < F.q → F.sub (F.add u v) v ≡ u
  add-sub u v h = cross _ _ (L.sub_below (F.add u v) v) h (simp (inward, ring))

  pub sub-add : (u v : ℕ) → u < F.q → F.add (F.sub u v) v ≡ u
  sub-add u v h = cross _ _ (L.add_below (F.sub u v) v) h (simp (inward, ring))

  -- from u + v = w, u = w − v
  pub sum_to_difference : (u v w : ℕ) → u < F.q → F.add u v ≡ w → u ≡ F.sub w v
  sum_to_difference u v w h e = sym (add-sub u v h) ∙ ap (λ t. F.sub t v) e

  -- from u − v = w, u = w + v
  pub difference_to_sum : (u v w : ℕ) → u < F.q → F.sub u v ≡ w → u ≡ F.add w v
  difference_to_sum u v w h e = sym (sub-add u v h) ∙ ap (λ t. F.add t v) e

  pub equal_from_sub : (u v : ℕ) → u < F.q → v < F.q → F.sub u v ≡ 0 → u ≡ v
  equal_from_sub u v hu hv e = difference_to_sum u v 0 hu e ∙ zero-add v hv

  pub add_right_cancel : (u v w : ℕ) → u < F.q → v < F.q → F.add u w ≡ F.add v w → u ≡ v
  add_right_cancel u v w hu hv e = sum_to_difference u w (F.add v w) hu e ∙ add-sub v w hv

  pub add_left_cancel : (u v w : ℕ) → v < F.q → w < F.q → F.add u v ≡ F.add u w → v ≡ w
  add_left_cancel u v w hv hw e = add_right_cancel v w u hv hw (add_comm v u ∙ e ∙ add_comm u w)

  -- (u + v) − (s + t) = (u − s) + (v − t)
  pub add_sub_add : (u v s t : ℕ) → F.sub (F.add u v) (F.add s t) ≡ F.add (F.sub u s) (F.sub v t)
  add_sub_add u v s t = cross _ _ (L.sub_below (F.add u v) (F.add s t)) (L.add_below (F.sub u s) (F.sub v t)) (simp (inward, ring))

  -- (u − v) − w = u − (v + w)
  pub sub-sub : (u v w : ℕ) → F.sub (F.sub u v) w ≡ F.sub u (F.add v w)
  sub-sub u v w = cross _ _ (L.sub_below (F.sub u v) w) (L.sub_below u (F.add v w)) (simp (inward, ring))

  -- products that are 0, and inverses

  pub zero_factor : (u v : ℕ) → u < F.q → v < F.q → F.mul u v ≡ 0 → (u ≡ 0) ⊎ (v ≡ 0)
  zero_factor u v hu hv e = by_case (ℕ_discrete u 0)
    where
      by_case : Dec (u ≡ 0) → (u ≡ 0) ⊎ (v ≡ 0)
      by_case (yes z) = inl z
      by_case (no n) =
          inr (cross v 0 hv (zero_below F L)
          (carrier.no_zero_divisors (field_of F L) (to F L u) (to F L v) (sym (to-mul F L u v) ∙ ap (to F L) e ∙ to-zero F L)
          (λ z. n (cross u 0 hu (zero_below F L) (z ∙ sym (to-zero F L))))
          ∙ sym (to-zero F L)))

  pub mul_ne : (u v : ℕ) → u < F.q → v < F.q → (u ≡ 0 → ⊥) → (v ≡ 0 → ⊥) → F.mul u v ≡ 0 → ⊥
  mul_ne u v hu hv nu nv e = elim (zero_factor u v hu hv e) [ inl z ↦ nu z | inr z ↦ nv z ]

  pub one_ne : ◌≡◌ {A = ℕ} 1 0 → ⊥
  one_ne e = omega arith

  pub mul-inv : (u : ℕ) → u < F.q → (u ≡ 0 → ⊥) → F.mul u (F.inv u) ≡ 1
  mul-inv = L.mul-inv

  pub inv_ne : (u : ℕ) → u < F.q → (u ≡ 0 → ⊥) → F.inv u ≡ 0 → ⊥
  inv_ne u h n e = one_ne (sym (mul-inv u h n) ∙ ap (F.mul u) e ∙ mul-zero u)

  -- from w·u = w·v, u = v, where w is not 0
  pub mul_left_cancel : (w u v : ℕ) → w < F.q → u < F.q → v < F.q → (w ≡ 0 → ⊥) → F.mul w u ≡ F.mul w v → u ≡ v
  mul_left_cancel w u v hw hu hv n e = sym (undo u hu) ∙ ap (F.mul (F.inv w)) e ∙ undo v hv
    where
      undo : (t : ℕ) → t < F.q → F.mul (F.inv w) (F.mul w t) ≡ t
      undo t h = cc (mul_assoc (F.inv w) w t, mul_comm (F.inv w) w, mul-inv w hw n, one-mul t h)

  -- powers

  pub power_zero : (u : ℕ) → power F u 0 ≡ 1
  power_zero = powers.power_zero F

  pub power-suc : (u e : ℕ) → power F u (suc e) ≡ F.mul u (power F u e)
  power-suc = powers.power-suc F

  pub power_below : (u e : ℕ) → power F u e < F.q
  power_below = powers.power_below F (powers.multiplies F L)

  pub power-one : (u : ℕ) → u < F.q → power F u 1 ≡ u
  power-one u h = power-suc u 0 ∙ ap (F.mul u) (power_zero u) ∙ mul-one u h

  pub power-add : (u d e : ℕ) → power F u (d + e) ≡ F.mul (power F u d) (power F u e)
  power-add u d e =
      cross _ _ (power_below u (d + e)) (L.mul_below (power F u d) (power F u e)) (simp (inward, carrier.pow-add))

  pub power-mul : (u d e : ℕ) → power F u (d * e) ≡ power F (power F u e) d
  power-mul u d e = cross _ _ (power_below u (d * e)) (power_below (power F u e) d) (simp (inward, carrier.pow-mul))

  pub power_ne : (u : ℕ) → u < F.q → (u ≡ 0 → ⊥) → (e : ℕ) → power F u e ≡ 0 → ⊥
  power_ne u h n zero z = one_ne (sym (power_zero u) ∙ z)
  power_ne u h n (suc e) z = mul_ne u (power F u e) h (power_below u e) n (power_ne u h n e) (sym (power-suc u e) ∙ z)

  -- the generator

  pub generator_ne : F.α ≡ 0 → ⊥
  generator_ne z = apart (L.powers_differ 1 2 (omega arith) (omega arith) (vanishes 0 ∙ sym (vanishes 1)))
    where
      vanishes : (e : ℕ) → power F F.α (suc e) ≡ 0
      vanishes e = power-suc F.α e ∙ ap (λ t. F.mul t (power F F.α e)) z ∙ zero-mul (power F F.α e)

      apart : ◌≡◌ {A = ℕ} 1 2 → ⊥
      apart e = omega arith

  pub generator_power_ne : (e : ℕ) → power F F.α e ≡ 0 → ⊥
  generator_power_ne = power_ne F.α L.generator_below generator_ne

  -- α^(g·v) for v = 0 .. 63 all differ, for g = 1 and g = 2
  pub points_differ : (g v w : ℕ) → 0 < g → g < 3 → v < 64 → w < 64
      → power F F.α (g * v) ≡ power F F.α (g * w) → v ≡ w
  points_differ g v w h₀ h₁ hv hw e = grind (arith, common_steps)

  -- sums over an index

  pub sum_none : (f : ℕ → ℕ) → sum F 0 f ≡ 0
  unfolding sum
  sum_none f = refl

  pub sum_more : (n : ℕ) (f : ℕ → ℕ) → sum F (suc n) f ≡ F.add (sum F n f) (f n)
  unfolding sum
  sum_more n f = refl

  pub sum_below : (n : ℕ) (f : ℕ → ℕ) → sum F n f < F.q
  unfolding sum
  sum_below zero f = zero_below F L
  sum_below (suc n) f = L.add_below (sum F n f) (f n)

  pub sum_ext : (n : ℕ) (f g : ℕ → ℕ) → ((j : ℕ) → j < n → f j ≡ g j) → sum F n f ≡ sum F n g
  sum_ext = sum_same F

  pub sum_one : (f : ℕ → ℕ) → f 0 < F.q → sum F 1 f ≡ f 0
  sum_one f h = sum_more 0 f ∙ ap (λ t. F.add t (f 0)) (sum_none f) ∙ zero-add (f 0) h

  -- the first term, and the n after it, counted both ways
  pub sum_first : (n : ℕ) (f : ℕ → ℕ) → sum F (suc n) f ≡ F.add (f 0) (sum F n (λ j. f (suc j)))
  unfolding sum
  sum_first zero f = add_comm 0 (f 0)
  sum_first (suc n) f = ap (λ t. F.add t (f (suc n))) (sum_first n f) ∙ add_assoc (f 0) (sum F n (λ j. f (suc j))) (f (suc n))

  pub sum_front : (n : ℕ) (f : ℕ → ℕ) → sum F (n + 1) f ≡ F.add (f 0) (sum F n (λ j. f (j + 1)))
  sum_front n f =
      ap (λ t. sum F t f) (add-one n) ∙ sum_first n f
      ∙ ap (F.add (f 0)) (sum_ext n (λ j. f (suc j)) (λ j. f (j + 1)) (λ j l. ap f (sym (add-one j))))

  pub sum_add : (n : ℕ) (f g : ℕ → ℕ) → sum F n (λ j. F.add (f j) (g j)) ≡ F.add (sum F n f) (sum F n g)
  sum_add n f g =
      cross _ _ (sum_below n (λ j. F.add (f j) (g j))) (L.add_below (sum F n f) (sum F n g)) (simp (inward, sums.total_add))

  pub sum_sub : (n : ℕ) (f g : ℕ → ℕ) → sum F n (λ j. F.sub (f j) (g j)) ≡ F.sub (sum F n f) (sum F n g)
  sum_sub n f g =
      cross _ _ (sum_below n (λ j. F.sub (f j) (g j))) (L.sub_below (sum F n f) (sum F n g))
      (simp (inward, sums.total_add, sums.total_neg))

  pub sum_mul : (n a : ℕ) (f : ℕ → ℕ) → sum F n (λ j. F.mul a (f j)) ≡ F.mul a (sum F n f)
  sum_mul n a f =
      cross _ _ (sum_below n (λ j. F.mul a (f j))) (L.mul_below a (sum F n f)) (simp (inward, sums.total_mul))

  -- a sum is 0 if its terms are
  pub sum_zeros : (n : ℕ) (f : ℕ → ℕ) → ((j : ℕ) → j < n → f j ≡ 0) → sum F n f ≡ 0
  unfolding sum
  sum_zeros zero f h = refl
  sum_zeros (suc n) f h =
      ap₂ F.add (sum_zeros n f (λ j l. h j (omega arith))) (h n (omega arith)) ∙ add-zero 0 (zero_below F L)

  -- a sum with one term other than 0
  pub sum_single : (n k : ℕ) (f : ℕ → ℕ) → k < n → f k < F.q → ((j : ℕ) → j < n → (j ≡ k → ⊥) → f j ≡ 0) → sum F n f ≡ f k
  sum_single n k f l b h =
      cross _ _ (sum_below n f) b
      (to-sum F L n f
      ∙ sums.total_single (field_of F L) n k (λ j. to F L (f j)) l (λ j m d. ap (to F L) (h j m d) ∙ to-zero F L))

  -- the first m terms, and the n after them
  pub sum_split : (m n : ℕ) (f : ℕ → ℕ) → sum F (m + n) f ≡ F.add (sum F m f) (sum F n (λ j. f (m + j)))
  sum_split m n f =
      cross _ _ (sum_below (m + n) f) (L.add_below (sum F m f) (sum F n (λ j. f (m + j))))
      (to-sum F L (m + n) f
      ∙ sums.total_split (field_of F L) m n (λ j. to F L (f j))
      ∙ simp inward)

  -- a double sum in either order
  pub sum_swap : (m n : ℕ) (f : ℕ → ℕ → ℕ) → sum F m (λ i. sum F n (λ j. f i j)) ≡ sum F n (λ j. sum F m (λ i. f i j))
  sum_swap m n f =
      cross _ _ (sum_below m (λ i. sum F n (λ j. f i j))) (sum_below n (λ j. sum F m (λ i. f i j)))
      (simp inward (sums.total_swap (field_of F L) m n (λ i j. to F L (f i j))))

  -- syndromes of sums, differences and multiples

  pub syndrome_add : (n : ℕ) (z x y : ℕ → ℕ) (i : ℕ)
      → syndrome F n z (λ v. F.add (x v) (y v)) i ≡ F.add (syndrome F n z x i) (syndrome F n z y i)
  syndrome_add n z x y i =
      sum_ext n (λ v. F.mul (power F (z v) i) (F.add (x v) (y v)))
      (λ v. F.add (F.mul (power F (z v) i) (x v)) (F.mul (power F (z v) i) (y v))) (λ v l. mul-add (power F (z v) i) (x v) (y v))
      ∙ sum_add n (λ v. F.mul (power F (z v) i) (x v)) (λ v. F.mul (power F (z v) i) (y v))

  pub syndrome_sub : (n : ℕ) (z x y : ℕ → ℕ) (i : ℕ)
      → syndrome F n z (λ v. F.sub (x v) (y v)) i ≡ F.sub (syndrome F n z x i) (syndrome F n z y i)
  syndrome_sub n z x y i =
      sum_ext n (λ v. F.mul (power F (z v) i) (F.sub (x v) (y v)))
      (λ v. F.sub (F.mul (power F (z v) i) (x v)) (F.mul (power F (z v) i) (y v))) (λ v l. mul-sub (power F (z v) i) (x v) (y v))
      ∙ sum_sub n (λ v. F.mul (power F (z v) i) (x v)) (λ v. F.mul (power F (z v) i) (y v))

  pub syndrome_mul : (n : ℕ) (z : ℕ → ℕ) (a : ℕ) (y : ℕ → ℕ) (i : ℕ)
      → syndrome F n z (λ v. F.mul a (y v)) i ≡ F.mul a (syndrome F n z y i)
  syndrome_mul n z a y i =
      sum_ext n (λ v. F.mul (power F (z v) i) (F.mul a (y v))) (λ v. F.mul a (F.mul (power F (z v) i) (y v)))
      (λ v l. mul_left_comm (power F (z v) i) a (y v))
      ∙ sum_mul n a (λ v. F.mul (power F (z v) i) (y v))

  pub syndrome_ext : (n : ℕ) (z x y : ℕ → ℕ) (i : ℕ) → ((v : ℕ) → v < n → x v ≡ y v) → syndrome F n z x i ≡ syndrome F n z y i
  syndrome_ext n z x y i h =
      sum_ext n (λ v. F.mul (power F (z v) i) (x v)) (λ v. F.mul (power F (z v) i) (y v)) (λ v l. ap (F.mul (power F (z v) i)) (h v l))

  -- with the points α^v, the power z^i of a point is α^(i·v)
  pub syndrome_generator : (n : ℕ) (y : ℕ → ℕ) (i : ℕ)
      → sum F n (λ v. F.mul (power F F.α (i * v)) (y v)) ≡ syndrome F n (λ v. power F F.α v) y i
  syndrome_generator n y i = grind (arith, common_steps, power-mul, sum_ext)

  -- the exponents s, s + g, s + 2g .. give the syndromes of α^(s·v)·y(v) at the points α^(g·v)
  pub syndrome_progression : (n s g : ℕ) (y : ℕ → ℕ) (i : ℕ)
      → sum F n (λ v. F.mul (power F F.α ((s + g * i) * v)) (y v))
      ≡ syndrome F n (λ v. power F F.α (g * v)) (λ v. F.mul (power F F.α (s * v)) (y v)) i
  syndrome_progression n s g y i =
      sum_ext n (λ v. F.mul (power F F.α ((s + g * i) * v)) (y v))
      (λ v. F.mul (power F (power F F.α (g * v)) i) (F.mul (power F F.α (s * v)) (y v)))
      (λ v l. ap (λ t. F.mul t (y v)) (factors v) ∙ mul_assoc (power F (power F F.α (g * v)) i) (power F F.α (s * v)) (y v))
    where
      factors : (v : ℕ) → power F F.α ((s + g * i) * v) ≡ F.mul (power F (power F F.α (g * v)) i) (power F F.α (s * v))
      factors v =
          let e : (s + g * i) * v ≡ i * (g * v) + s * v = omega arith in
          ap (power F F.α) e
          ∙ power-add F.α (i * (g * v)) (s * v)
          ∙ ap (λ t. F.mul t (power F F.α (s * v))) (power-mul F.α i (g * v))
