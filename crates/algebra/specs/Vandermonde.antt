-- Vandermonde systems: vectors over n places with given syndromes at n different points.
use Rattle.std.specs.Prelude.{◌≡◌, ℕ, ◌-◌, ◌<◌, ◌≤◌, ◌⊎◌, List, [], ◌∷◌, length}
use Rattle.field.specs.Laws.{Operations, Laws}
use Rattle.algebra.specs.Sums.{syndrome}

-- v stands in the list
abbrev pub Listed : ℕ → List ℕ → Type 0
Listed v [] = ⊥
Listed v (w ∷ W) = (v ≡ w) ⊎ Listed v W

-- no number stands in the list twice
abbrev pub Distinct : List ℕ → Type 0
Distinct [] = Unit {0}
Distinct (w ∷ W) = (Listed w W → ⊥) × Distinct W

-- z gives n different symbols, a point for each place below n
pub record Points (F : Operations) (n : ℕ) (z : ℕ → ℕ) : Type 0 where
  pub below : (v : ℕ) → v < n → z v < F.q
  pub differ : (v w : ℕ) → v < n → w < n → z v ≡ z w → v ≡ w

-- Uniqueness: a vector of symbols that is 0 outside a list of at most d places, and whose first d syndromes are 0, is 0.
abbrev pub VandermondeUnique : Type 0
VandermondeUnique =
    (F : Operations) → Laws F → (n : ℕ) (z : ℕ → ℕ) → Points F n z
    → (places : List ℕ) (d : ℕ) → length places ≤ d
    → (y : ℕ → ℕ) → ((v : ℕ) → v < n → y v < F.q)
    → ((v : ℕ) → v < n → (Listed v places → ⊥) → y v ≡ 0)
    → ((i : ℕ) → i < d → syndrome F n z y i ≡ 0)
    → (v : ℕ) → v < n → y v ≡ 0

-- y is a vector of symbols, 0 outside the listed places, and its syndromes are the targets c, one for each listed place.
pub record Solves (F : Operations) (n : ℕ) (z : ℕ → ℕ) (places : List ℕ) (c y : ℕ → ℕ) : Type 0 where
  pub below : (v : ℕ) → y v < F.q
  pub outside : (v : ℕ) → v < n → (Listed v places → ⊥) → y v ≡ 0
  pub reaches : (i : ℕ) → i < length places → syndrome F n z y i ≡ c i

-- Existence: at d different places any d targets are the first d syndromes of some vector that is 0 elsewhere.
abbrev pub VandermondeSolvable : Type 0
VandermondeSolvable =
    (F : Operations) → Laws F → (n : ℕ) (z : ℕ → ℕ) → Points F n z
    → (places : List ℕ) → Distinct places → ((w : ℕ) → Listed w places → w < n)
    → (c : ℕ → ℕ) → ((i : ℕ) → i < length places → c i < F.q)
    → (y : ℕ → ℕ) × Solves F n z places c y

-- y completes the k symbols of x to a vector of n symbols whose first n − k syndromes are 0.
pub record Completes (F : Operations) (n k : ℕ) (z x y : ℕ → ℕ) : Type 0 where
  pub below : (v : ℕ) → v < n → y v < F.q
  pub starts : (v : ℕ) → v < k → y v ≡ x v
  pub vanishes : (i : ℕ) → i < n - k → syndrome F n z y i ≡ 0

-- Any k symbols are completed by exactly one choice of the n − k others.
abbrev pub VandermondeCompletes : Type 0
VandermondeCompletes =
    (F : Operations) → Laws F → (n k : ℕ) → k ≤ n → (z : ℕ → ℕ) → Points F n z
    → (x : ℕ → ℕ) → ((v : ℕ) → v < k → x v < F.q)
    → ((y : ℕ → ℕ) × Completes F n k z x y)
    × ((y y' : ℕ → ℕ) → Completes F n k z x y → Completes F n k z x y' → (v : ℕ) → v < n → y v ≡ y' v)
