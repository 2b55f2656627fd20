-- The factors of a file's places in the cells of its stripe, as numbers in tables and rows.
use Rattle.std.specs.Prelude.{◌≡◌, ℕ, ◌+◌, ◌*◌, ◌<◌, List, [], slice_index, slice_index_or}
use Rattle.field.specs.Laws.{Operations}
use Rattle.code.specs.declared.record.Code.{Code}
use Rattle.code.specs.Stripe.{Symbols}
use Rattle.theorems.specs.Linear.{IsFactor}

-- the column is the data column that is 1 at data node j and 0 at the others: number v is the factor of each place
-- (j, t) in the cell (v, t)
abbrev pub ColumnOf : Operations → Code → ℕ → List ℕ → Type 0
ColumnOf F code j column =
    (v t : ℕ) (y : Symbols) → v < code.n → t < code.m → IsFactor F code (j * code.m + t) y
    → slice_index column v ≡ y v t

-- all k columns
abbrev pub ColumnTable : Operations → Code → List (List ℕ) → Type 0
ColumnTable F code table = (j : ℕ) → j < code.k → ColumnOf F code j (slice_index_or table j [])

-- a multiple of the factors of the places (j, t) in the cell (w, t) are their factors in the cell (v, c)
pub record Weight (F : Operations) (code : Code) (v c t w scale : ℕ) : Type 0 where
  pub node : w < code.n
  pub factor : (j : ℕ) (y : Symbols) → j < code.k → IsFactor F code (j * code.m + t) y → F.mul scale (y w t) ≡ y v c

-- the row is the equation of the cell (v, c): the factor of each place, and then what the cell holds
pub record IsEquation (F : Operations) (code : Code) (v c value : ℕ) (row : List ℕ) : Type 0 where
  pub factors : (p : ℕ) (y : Symbols) → p < code.k * code.m → IsFactor F code p y → slice_index row p ≡ y v c
  pub right : slice_index_or row (code.k * code.m) 0 ≡ value
