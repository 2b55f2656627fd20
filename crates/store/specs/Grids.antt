-- A store over a row of numbers.
use Rattle.std.specs.Prelude.{◌≡◌, ℕ, ◌+◌, ◌*◌, ◌<◌, ◌≤◌, Bool, true, false, cond, ◌&&◌, ◌⊎◌, List, length}
use Rattle.std.specs.Prelude.{Some, None, Option, nat_le, nat_lt, slice_index, slice_set}
use Rattle.store.specs.Meaning.{Meaning}
use Rattle.store.specs.declared.lent.Grid.{Grid}

-- the number that marks a cell lost
abbrev pub lost_mark : ℕ
lost_mark = 4294967295

-- what a number in a cell tells: one above 65,535 is lost
abbrev pub told : ℕ → Option ℕ
told x = cond (nat_le x 65535) (Some x) None

-- A row of numbers as a store: cell (j, c) is the number at j · columns + c. The allowance is always 65,535.
abbrev pub grid : List ℕ → ℕ → ℕ → Meaning
grid row nodes columns = record {
  nodes = nodes;
  columns = columns;
  cell = λ j c. cond (nat_lt j nodes && nat_lt c columns) (told (slice_index row (j * columns + c))) None;
  allowance = 65535;
}

-- the numbers of the memory that is lent to a grid
abbrev pub numbers : Grid → List ℕ
numbers g = g.cells.now

-- what a grid means
abbrev pub meaning_of : Grid → Meaning
meaning_of g = grid (numbers g) g.shape.nodes g.shape.columns

-- the row with x in the cell of node j, column c, where that is taken, and the same row where it is not
abbrev pub put_number : Grid → ℕ → ℕ → ℕ → Bool → List ℕ
put_number g j c x taken = cond taken (slice_set (numbers g) (j * g.shape.columns + c) x) (numbers g)

-- the number that stands for what a cell is to hold: a symbol stands for itself
abbrev pub number_of : Option ℕ → ℕ
number_of None = lost_mark
number_of (Some s) = s

-- What an edit that is taken does to a grid: over the same memory with as many nodes and columns, the row
-- is the one before with one number put at the place of the cell, j · columns + c.
pub record PutNumber (before : Grid) (j c : ℕ) (v : Option ℕ) (after : Grid) : Type 0 where
  pub memory : after.cells.ghost_name ≡ before.cells.ghost_name
  pub nodes : after.shape.nodes ≡ before.shape.nodes
  pub columns : after.shape.columns ≡ before.shape.columns
  pub row : numbers after ≡ put_number before j c (number_of v) true

-- the place of cell (j, c) in the row, if the cell is inside
abbrev pub Place : Grid → ℕ → ℕ → Option ℕ → Type 0
Place g j c None = (nat_lt j g.shape.nodes && nat_lt c g.shape.columns) ≡ false
Place g j c (Some x) =
    (j < g.shape.nodes) × (c < g.shape.columns) × (x ≡ j * g.shape.columns + c) × (x < length (numbers g))

-- a number that a change may put into a cell: from 0 to 65,535, or the mark of a lost cell
abbrev pub Markable : ℕ → Type 0
Markable x = (x ≤ 65535) ⊎ (x ≡ lost_mark)

-- A later state of a grid: over the same memory with as many nodes and columns, and each number is as it
-- was, or it is in a cell and is from 0 to 65,535 or the mark of a lost cell.
pub record Later (before after : Grid) : Type 0 where
  pub memory : after.cells.ghost_name ≡ before.cells.ghost_name
  pub nodes : after.shape.nodes ≡ before.shape.nodes
  pub columns : after.shape.columns ≡ before.shape.columns
  pub room : length (numbers after) ≡ length (numbers before)
  pub kept : (x : ℕ) → (slice_index (numbers after) x ≡ slice_index (numbers before) x)
      ⊎ ((x < before.shape.nodes * before.shape.columns) × Markable (slice_index (numbers after) x))
