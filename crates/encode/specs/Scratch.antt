-- The data columns side by side in scratch memory, and the cells that follow from them.
use Rattle.std.specs.Prelude.{◌≡◌, ℕ, ◌+◌, ◌-◌, ◌*◌, ◌<◌, cond, List, [], length, nat_lt, slice_index, slice_index_or}
use Rattle.field.specs.Laws.{Operations, power}
use Rattle.algebra.specs.Sums.{sum}
use Rattle.code.specs.declared.record.Code.{Code}
use Rattle.code.specs.Positions.{behind}
use Rattle.code.specs.Stripe.{Symbols, ColumnRule}
use Rattle.encode.specs.Rules.{group_sum}

-- the symbol of node j, column t is number j of the t-th list
abbrev pub in_columns : List (List ℕ) → Symbols
in_columns columns j t = slice_index (slice_index_or columns t []) j

-- the list holds the powers of u: number j is u^j
abbrev pub PowersOf : Operations → ℕ → List ℕ → Type 0
PowersOf F u xs = (j : ℕ) → j < length xs → slice_index xs j ≡ power F u j

-- the data symbols of x are those of the file
abbrev pub Starts : Code → List ℕ → Symbols → Type 0
Starts code file x = (j t : ℕ) → j < code.k → t < code.m → x j t ≡ slice_index file (j * code.m + t)

-- the data symbols of x are those of y
abbrev pub SameData : Code → Symbols → Symbols → Type 0
SameData code x y = (j t : ℕ) → j < code.k → x j t ≡ y j t

-- what the i-th syndrome of column t lacks: the sum over the data nodes j of α^(i·j) · x(j, t), taken from 0
abbrev pub target : Operations → Code → Symbols → ℕ → ℕ → ℕ
target F code x i t = F.sub 0 (sum F code.k (λ j. F.mul (power F F.α (i * j)) (x j t)))

-- the data columns of the file's stripe: they start with the file, hold symbols only and keep the column rule
pub record DataColumns (F : Operations) (code : Code) (file : List ℕ) (x : Symbols) : Type 0 where
  pub starts : Starts code file x
  pub symbols : (j t : ℕ) → j < code.n → t < code.m → x j t < F.q
  pub columns : ColumnRule F code x

-- The symbol of node v, column c: a data symbol of x, or in coded column i what the group of node ⟨v − i⟩ sums up to.
unfoldable pub cell_of : Operations → Code → Symbols → ℕ → ℕ → ℕ
cell_of F code x v c = cond (nat_lt c code.m) (x v c) (group_sum F code x (behind code.n v (c - code.m)) (c - code.m))

-- the weights of the groups: number t of row i is α^(i·t), for each coded column i and data column t that a code can
-- have
abbrev pub GroupWeights : Operations → List (List ℕ) → Type 0
GroupWeights F rows = (i t : ℕ) → i < 3 → t < 8 → slice_index (slice_index_or rows i []) t ≡ power F F.α (i * t)
