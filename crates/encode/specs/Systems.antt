-- Lists of symbols as vectors, and Vandermonde systems over them.
use Rattle.std.specs.Prelude.{◌≡◌, ℕ, ◌*◌, ◌<◌, List, length, slice_index}
use Rattle.field.specs.Laws.{Operations, power}
use Rattle.algebra.specs.Sums.{sum, syndrome}

-- every number of the list is a symbol
abbrev pub AllBelow : ℕ → List ℕ → Type 0
AllBelow q xs = (p : ℕ) → p < length xs → slice_index xs p < q

-- no two places of the list hold the same number
abbrev pub AllDiffer : List ℕ → Type 0
AllDiffer xs = (v w : ℕ) → v < length xs → w < length xs → slice_index xs v ≡ slice_index xs w → v ≡ w

-- the sum over the column's places j of α^(i·j) · column(j)
abbrev pub column_sum : Operations → ℕ → List ℕ → ℕ
column_sum F i column = sum F (length column) (λ j. F.mul (power F F.α (i * j)) (slice_index column j))

-- the vector y has the targets as its syndromes at the points
abbrev pub Reaches : Operations → List ℕ → List ℕ → List ℕ → Type 0
Reaches F points targets y =
    (i : ℕ) → i < length points
    → syndrome F (length points) (λ v. slice_index points v) (λ v. slice_index y v) i ≡ slice_index targets i
