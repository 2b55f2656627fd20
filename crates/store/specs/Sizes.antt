-- How many nodes and columns a store is made with.
use Rattle.std.specs.Prelude.{ℕ, ◌/◌, min, cond, ◌==◌}

-- columns above 11 count as 11
abbrev pub counted_columns : ℕ → ℕ
counted_columns columns = min columns 11

-- nodes above 64 count as 64, and no columns give no nodes
abbrev pub counted_nodes : ℕ → ℕ → ℕ
counted_nodes nodes columns = cond (columns == 0) 0 (min nodes 64)

-- the counted nodes that fit whole into memory for so many numbers
abbrev pub whole_nodes : ℕ → ℕ → ℕ → ℕ
whole_nodes nodes columns room = cond (columns == 0) 0 (min (min nodes 64) (room / counted_columns columns))
