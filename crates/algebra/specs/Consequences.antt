-- What follows from the laws of a field, for every field that keeps them.
use Rattle.std.specs.Prelude.{◌≡◌, ℕ, ◌+◌, ◌*◌, ◌<◌, ◌⊎◌, ◌≢◌}
use Rattle.field.specs.Laws.{Operations, Laws, power}
use Rattle.algebra.specs.Sums.{sum}

-- A product with 0 is 0, and a product of symbols is 0 only if a factor is.
abbrev pub ZeroProducts : Type 0
ZeroProducts =
    (F : Operations) → Laws F
    → ((u : ℕ) → (F.mul 0 u ≡ 0) × (F.mul u 0 ≡ 0))
    × ((u v : ℕ) → u < F.q → v < F.q → F.mul u v ≡ 0 → (u ≡ 0) ⊎ (v ≡ 0))

-- No power of a symbol other than 0 is 0, and the generator is not 0.
abbrev pub NonzeroPowers : Type 0
NonzeroPowers =
    (F : Operations) → Laws F
    → ((u : ℕ) → u < F.q → (u ≢ 0) → (e : ℕ) → power F u e ≢ 0)
    × (F.α ≢ 0)

-- u^(d + e) is u^d · u^e, and u^(d · e) is (u^e)^d.
abbrev pub PowerLaws : Type 0
PowerLaws =
    (F : Operations) → Laws F → (u d e : ℕ)
    → (power F u (d + e) ≡ F.mul (power F u d) (power F u e))
    × (power F u (d * e) ≡ power F (power F u e) d)

-- The points α^(g·0), α^(g·1) .. α^(g·63) all differ, for g = 1 and g = 2.
abbrev pub PointsDiffer : Type 0
PointsDiffer =
    (F : Operations) → Laws F → (g v w : ℕ) → 0 < g → g < 3 → v < 64 → w < 64
    → power F F.α (g * v) ≡ power F F.α (g * w) → v ≡ w

-- The sum of the sums, of the differences and of the multiples of two sequences of terms is the sum, the difference
-- and the multiple of their sums.
abbrev pub LinearSums : Type 0
LinearSums =
    (F : Operations) → Laws F → (n : ℕ) (f g : ℕ → ℕ)
    → (sum F n (λ j. F.add (f j) (g j)) ≡ F.add (sum F n f) (sum F n g))
    × (sum F n (λ j. F.sub (f j) (g j)) ≡ F.sub (sum F n f) (sum F n g))
    × ((a : ℕ) → sum F n (λ j. F.mul a (f j)) ≡ F.mul a (sum F n f))

-- A double sum is the same in either order.
abbrev pub SwappedSums : Type 0
SwappedSums =
    (F : Operations) → Laws F → (m n : ℕ) (f : ℕ → ℕ → ℕ)
    → sum F m (λ i. sum F n (λ j. f i j)) ≡ sum F n (λ j. sum F m (λ i. f i j))

-- The first m terms and the n terms after them give the sum of all m + n.
abbrev pub SplitSums : Type 0
SplitSums =
    (F : Operations) → Laws F → (m n : ℕ) (f : ℕ → ℕ)
    → sum F (m + n) f ≡ F.add (sum F m f) (sum F n (λ j. f (m + j)))

-- A sum depends on its terms alone. It is 0 if they all are, and it is the term at k if that is a symbol and the others
-- are 0.
abbrev pub SumsByTerms : Type 0
SumsByTerms =
    (F : Operations) → Laws F → (n : ℕ) (f : ℕ → ℕ)
    → ((g : ℕ → ℕ) → ((j : ℕ) → j < n → f j ≡ g j) → sum F n f ≡ sum F n g)
    × (((j : ℕ) → j < n → f j ≡ 0) → sum F n f ≡ 0)
    × ((k : ℕ) → k < n → f k < F.q → ((j : ℕ) → j < n → (j ≢ k) → f j ≡ 0) → sum F n f ≡ f k)
