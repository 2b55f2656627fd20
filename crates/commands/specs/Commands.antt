-- The commands of a card as bytes, and what a list of commands means for a cell.
use Rattle.std.specs.Prelude.{◌≡◌, ℕ, ◌+◌, ◌-◌, ◌*◌, ◌/◌, ◌%◌, ◌<◌, ◌≤◌, Bool, true, cond, ◌&&◌, List, []}
use Rattle.std.specs.Prelude.{◌∷◌, ◌++◌, length, take, Some, None, Option, ◌==◌, nat_lt}
use Rattle.std.specs.List.{flat_map, AllByRecursion}
use Rattle.store.specs.Meaning.{Meaning, Cells}
use Rattle.commands.specs.declared.command.Command.{Command}
use Rattle.commands.specs.declared.command.Command.TheVariants.{Write, Lose}

-- the letters W and L
abbrev pub letter_w : ℕ
letter_w = 87

abbrev pub letter_l : ℕ
letter_l = 76

-- The bytes of a command: W, the node, the column, the high byte of the symbol and the low one; or L, the node
-- and the column.
abbrev pub bytes_of : Command → List ℕ
bytes_of (Write node column symbol) = letter_w ∷ node ∷ column ∷ symbol / 256 ∷ symbol % 256 ∷ []
bytes_of (Lose node column) = letter_l ∷ node ∷ column ∷ []

-- the bytes of one command after the other
abbrev pub all_bytes : List Command → List ℕ
all_bytes commands = flat_map bytes_of commands

-- the node and the column of the cell that a command is on
abbrev pub node_of : Command → ℕ
node_of (Write node column symbol) = node
node_of (Lose node column) = node

abbrev pub column_of : Command → ℕ
column_of (Write node column symbol) = column
column_of (Lose node column) = column

-- what a command leaves in its cell: a number, or nothing for a lost cell
abbrev pub value_of : Command → Option ℕ
value_of (Write node column symbol) = Some symbol
value_of (Lose node column) = None

-- a symbol is two bytes
abbrev pub TwoBytes : Option ℕ → Type 0
TwoBytes (Some symbol) = symbol < 65536
TwoBytes None = Unit {0}

-- a command on a cell inside, of so many nodes and columns
abbrev pub Inside : ℕ → ℕ → Command → Type 0
Inside nodes columns x = (node_of x < nodes) × (column_of x < columns) × TwoBytes (value_of x)

-- the same as a test, of one command and of each of a list
abbrev pub two_bytes : Option ℕ → Bool
two_bytes (Some symbol) = nat_lt symbol 65536
two_bytes None = true

abbrev pub is_inside : ℕ → ℕ → Command → Bool
is_inside nodes columns x = nat_lt (node_of x) nodes && (nat_lt (column_of x) columns && two_bytes (value_of x))

abbrev pub all_inside : ℕ → ℕ → List Command → Bool
all_inside nodes columns [] = true
all_inside nodes columns (x ∷ xs) = is_inside nodes columns x && all_inside nodes columns xs

-- whether a command is on the cell of node j, column c
abbrev pub is_on : Command → ℕ → ℕ → Bool
is_on x j c = j == node_of x && c == column_of x

-- of two commands on a cell the later one, where there is one
abbrev pub later : Option Command → Option Command → Option Command
later (Some x) earlier = Some x
later None earlier = earlier

-- the latest command on a cell, if there is any
abbrev pub latest : List Command → ℕ → ℕ → Option Command
latest [] j c = None
latest (x ∷ xs) j c = later (latest xs j c) (cond (is_on x j c) (Some x) None)

-- what a cell holds after the latest command on it, and v if there is none
abbrev pub left_by : Option Command → Option ℕ → Option ℕ
left_by (Some x) v = value_of x
left_by None v = v

-- The latest command on a cell holds, and a cell never named is lost.
abbrev pub cells : List Command → Cells
cells commands j c = left_by (latest commands j c) None

-- The store that a list of commands makes, with so many free bytes behind it: a change takes up to 5.
abbrev pub card : List Command → ℕ → ℕ → ℕ → Meaning
card commands nodes columns free = record {
  nodes = nodes;
  columns = columns;
  cell = cells commands;
  allowance = free / 5;
}

-- The first `used` of the bytes are those of the commands, each on a cell inside.
pub record Holds (nodes columns : ℕ) (bytes : List ℕ) (used : ℕ) (commands : List Command) : Type 0 where
  pub within : used ≤ length bytes
  pub front : take used bytes ≡ all_bytes commands
  pub inside : AllByRecursion (Inside nodes columns) commands

-- The longest beginning of the bytes that is made of whole commands on cells inside.
pub record Longest (nodes columns : ℕ) (bytes : List ℕ) (used : ℕ) (commands : List Command) : Type 0 where
  pub holds : Holds nodes columns bytes used commands
  pub longest : (n : ℕ) (others : List Command) → Holds nodes columns bytes n others → n ≤ used

-- A card is taken up with the commands of the longest beginning of the bytes that is made of whole
-- commands on cells inside, and the rest of the bytes is free.
pub record TakenUp (nodes columns : ℕ) (bytes : List ℕ) (used : ℕ) (meaning : Meaning) : Type 0 where
  pub commands : List Command
  pub longest : Longest nodes columns bytes used commands
  pub means : meaning ≡ card commands nodes columns (length bytes - used)

-- Bytes read as commands, from the front as far as they are whole ones.
abbrev pub commands_in : List ℕ → List Command
commands_in [] = []
commands_in (b ∷ []) = []
commands_in (b ∷ j ∷ []) = []
commands_in (b ∷ j ∷ c ∷ []) = cond (b == letter_l) (Lose j c ∷ []) []
commands_in (b ∷ j ∷ c ∷ high ∷ []) = cond (b == letter_l) (Lose j c ∷ []) []
commands_in (b ∷ j ∷ c ∷ high ∷ low ∷ rest) =
    cond (b == letter_l) (Lose j c ∷ commands_in (high ∷ low ∷ rest))
    (cond (b == letter_w) (Write j c (high * 256 + low) ∷ commands_in rest) [])

-- Commands written as bytes and read back are the same commands.
abbrev pub ReadsBack : Type 0
ReadsBack = (commands : List Command) → commands_in (all_bytes commands) ≡ commands

-- Where the bytes of some commands begin with those of others, the commands begin with the others: bytes
-- can be read in one way only.
abbrev pub OneReading : Type 0
OneReading =
    (xs ys : List Command) (rest : List ℕ) → all_bytes xs ++ rest ≡ all_bytes ys
    → (zs : List Command) × (ys ≡ xs ++ zs) × (rest ≡ all_bytes zs)
