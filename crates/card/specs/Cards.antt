-- A store over commands in bytes.
use Rattle.std.specs.Prelude.{◌≡◌, ℕ, ◌+◌, ◌-◌, ◌≤◌, Bool, true, false, List, ◌++◌, length, take, drop}
use Rattle.std.specs.Prelude.{Option, Some, None}
use Rattle.store.specs.Meaning.{Meaning}
use Rattle.store.specs.Sizes.{counted_columns, counted_nodes}
use Rattle.commands.specs.declared.command.Command.{Command}
use Rattle.commands.specs.declared.command.Command.TheVariants.{Write, Lose}
use Rattle.card.specs.declared.lent.Card.{Card}
use Rattle.commands.specs.Commands.{bytes_of, card, commands_in, TakenUp}

-- the bytes of the memory that is lent to a card
abbrev pub lent_bytes : Card → List ℕ
lent_bytes k = k.bytes.now

-- the bytes of a card's commands
abbrev pub used_part : Card → List ℕ
used_part k = take k.used (lent_bytes k)

-- a card's commands, the first one first
abbrev pub commands_of : Card → List Command
commands_of k = commands_in (used_part k)

-- the number of bytes behind the commands
abbrev pub free_bytes : Card → ℕ
free_bytes k = length (lent_bytes k) - k.used

-- what a card means
abbrev pub meaning_of : Card → Meaning
meaning_of k = card (commands_of k) k.shape.nodes k.shape.columns (free_bytes k)

-- A command is appended where it is taken: the used part is kept, the command's bytes follow it, and the
-- bytes behind them are untouched. Otherwise nothing changes.
abbrev pub Appended : Card → Command → Bool → Card → Type 0
Appended before x true after =
    (lent_bytes after
    ≡ used_part before ++ (bytes_of x ++ drop (before.used + length (bytes_of x)) (lent_bytes before)))
    × (after.used ≡ before.used + length (bytes_of x))
Appended before x false after = (lent_bytes after ≡ lent_bytes before) × (after.used ≡ before.used)

-- What a command that is taken does to a card: it is appended, over the same memory with as many nodes
-- and columns.
pub record PutCommand (before : Card) (x : Command) (after : Card) : Type 0 where
  pub memory : after.bytes.ghost_name ≡ before.bytes.ghost_name
  pub nodes : after.shape.nodes ≡ before.shape.nodes
  pub columns : after.shape.columns ≡ before.shape.columns
  pub appended : Appended before x true after

-- the command that leaves this in a cell
abbrev pub command_of : ℕ → ℕ → Option ℕ → Command
command_of j c (Some s) = Write j c s
command_of j c None = Lose j c

-- what an edit that is taken does to a card
abbrev pub Edited : Card → ℕ → ℕ → Option ℕ → Card → Type 0
Edited before j c v after = PutCommand before (command_of j c v) after

-- A later state of a card: over the same memory with as many nodes and columns, its used part begins with
-- the earlier one, and the bytes behind its used part are as they were.
pub record Later (before after : Card) : Type 0 where
  pub lent : after.bytes.ghost_name ≡ before.bytes.ghost_name
  pub nodes : after.shape.nodes ≡ before.shape.nodes
  pub columns : after.shape.columns ≡ before.shape.columns
  pub longer : before.used ≤ after.used
  pub kept : take before.used (lent_bytes after) ≡ used_part before
  pub untouched : drop after.used (lent_bytes after) ≡ drop after.used (lent_bytes before)

-- a card's nodes, columns and cells, with no allowance
abbrev pub spent : Card → Meaning
spent k =
    record { nodes = k.shape.nodes; columns = k.shape.columns; cell = (meaning_of k).cell; allowance = 0 }

-- Bytes are the used part of a card if taking them up alone, with the card's nodes and columns, uses all of
-- them and gives the same nodes, columns and cells. Nothing is free then, so the allowance is 0.
abbrev pub TakesUpAgain : Card → List ℕ → Type 0
TakesUpAgain k bytes =
    (used : ℕ) (meaning : Meaning)
    → TakenUp (counted_nodes k.shape.nodes k.shape.columns) (counted_columns k.shape.columns) bytes used meaning
    → (used ≡ length bytes) × (meaning ≡ spent k)
