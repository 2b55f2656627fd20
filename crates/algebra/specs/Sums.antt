-- Sums over an index, and the syndromes of a vector.
use Rattle.std.specs.Prelude.{ℕ, zero, suc}
use Rattle.field.specs.Laws.{Operations, power}

-- f 0 + f 1 + .. + f (n − 1); the sum of nothing is 0
unfoldable pub sum : Operations → ℕ → (ℕ → ℕ) → ℕ
sum F zero f = 0
sum F (suc n) f = F.add (sum F n f) (f n)

-- the i-th syndrome of the vector y at the points z: the sum over v < n of z(v)^i · y(v)
abbrev pub syndrome : Operations → ℕ → (ℕ → ℕ) → (ℕ → ℕ) → ℕ → ℕ
syndrome F n z y i = sum F n (λ v. F.mul (power F (z v) i) (y v))
