-- Sums over an index, in a field over its carrier.
use Rattle.std.proofs.Common.{◌≡◌, ℕ, zero, suc, ◌+◌, ◌<◌, refl, ap₂, add-zero as ℕ-add-zero, add-suc as ℕ-add-suc, arith}
use native.Mathlib.Decide.{ℕ_discrete}
use Rattle.algebra.proofs.Carrier.{AbstractField}
use Rattle.algebra.proofs.Ring.{ring, zero-add}

module _ (F : AbstractField) where
  open F use {K, ◌⊕◌, ◌⊗◌, neg, 𝟘, add-zero}

  infixl 65 ◌⊕◌
  infixl 70 ◌⊗◌
  -- f 0 ⊕ .. ⊕ f (n − 1)
  unfoldable pub total : ℕ → (ℕ → K) → K
  total zero f = 𝟘
  total (suc n) f = total n f ⊕ f n

  pub total_none : (f : ℕ → K) → total 0 f ≡ 𝟘
  unfolding total
  total_none f = refl

  pub total_more : (n : ℕ) (f : ℕ → K) → total (suc n) f ≡ total n f ⊕ f n
  unfolding total
  total_more n f = refl

  -- equal terms give equal sums
  pub total_ext : (n : ℕ) (f g : ℕ → K) → ((j : ℕ) → j < n → f j ≡ g j) → total n f ≡ total n g
  unfolding total
  total_ext zero f g h = refl
  total_ext (suc n) f g h = ap₂ ◌⊕◌ (total_ext n f g (λ j l. h j (omega arith))) (h n (omega arith))

  pub total_add : (n : ℕ) (f g : ℕ → K) → total n (λ j. f j ⊕ g j) ≡ total n f ⊕ total n g
  total_add zero f g = simp (total_none, ring)
  total_add (suc n) f g = simp (total_more, total_add n f g, ring)

  pub total_neg : (n : ℕ) (f : ℕ → K) → total n (λ j. neg (f j)) ≡ neg (total n f)
  total_neg zero f = simp (total_none, ring)
  total_neg (suc n) f = simp (total_more, total_neg n f, ring)

  pub total_mul : (n : ℕ) (a : K) (f : ℕ → K) → total n (λ j. a ⊗ f j) ≡ a ⊗ total n f
  total_mul zero a f = simp (total_none, ring)
  total_mul (suc n) a f = simp (total_more, total_mul n a f, ring)

  pub total_zeros : (n : ℕ) (f : ℕ → K) → ((j : ℕ) → j < n → f j ≡ 𝟘) → total n f ≡ 𝟘
  unfolding total
  total_zeros zero f h = refl
  total_zeros (suc n) f h = simp (total_zeros n f (λ j l. h j (omega arith)), h n (omega arith), ring)

  -- the sum of the first m terms and that of the n after them
  pub total_split : (m n : ℕ) (f : ℕ → K) → total (m + n) f ≡ total m f ⊕ total n (λ j. f (m + j))
  total_split m zero f = simp (ℕ-add-zero, total_none, ring)
  total_split m (suc n) f = simp (ℕ-add-suc, total_more, total_split m n f, ring)

  -- one term, where the others are 0
  pub total_single : (n k : ℕ) (f : ℕ → K) → k < n → ((j : ℕ) → j < n → ¬ (j ≡ k) → f j ≡ 𝟘) → total n f ≡ f k
  unfolding total
  total_single zero k f l h = absurd (omega arith)
  total_single (suc n) k f l h = by_case (ℕ_discrete n k) (λ m. total_single n k f m (λ j m. h j (omega arith)))
    where
      by_case : Dec (n ≡ k) → (k < n → total n f ≡ f k) → total n f ⊕ f n ≡ f k
      by_case (yes e) ih = cc (total_zeros n f (λ j m. h j (omega arith) (omega arith)), zero-add F (f n))
      by_case (no e) ih = cc (ih (omega arith), h n (omega arith) e, add-zero (f k))

  -- a double sum in either order
  pub total_swap : (m n : ℕ) (f : ℕ → ℕ → K) → total m (λ i. total n (λ j. f i j)) ≡ total n (λ j. total m (λ i. f i j))
  total_swap zero n f = simp (total_none, total_zeros n (λ j. 𝟘) (λ j l. refl))
  total_swap (suc m) n f = simp (total_more, total_swap m n f, total_add)
