-- What the nodes hold, where some cells are lost.
use Rattle.std.specs.Prelude.{◌≡◌, ℕ, ◌<◌, ◌≤◌, ◌⊎◌, Some, None}
use Rattle.field.specs.Laws.{Operations}
use Rattle.code.specs.declared.record.Code.{Code}
use Rattle.code.specs.Stripe.{Held, width}

-- the cell (j, c) is a cell of the code
abbrev pub Inside : Code → ℕ → ℕ → Type 0
Inside code j c = (j < code.n) × (c < width code)

-- the cell (j, c) is present and holds q or more
abbrev pub ForeignAt : Operations → Held → ℕ → ℕ → Type 0
ForeignAt F held j c = (v : ℕ) × (held j c ≡ Some v) × (F.q ≤ v)

-- the cell (j, c) is lost
abbrev pub LostAt : Held → ℕ → ℕ → Type 0
LostAt held j c = held j c ≡ None

-- the cell (i, d) comes before the cell (j, c), by node and then by column
abbrev pub Before : ℕ → ℕ → ℕ → ℕ → Type 0
Before i d j c = (i < j) ⊎ ((i ≡ j) × (d < c))

-- (j, c) is the first, by node and column, of the cells in a set that have a property
abbrev pub First : (ℕ → ℕ → Type 0) → (ℕ → ℕ → Type 0) → ℕ → ℕ → Type 0
First Among P j c = Among j c × P j c × ((i d : ℕ) → Among i d → P i d → Before i d j c → ⊥)
