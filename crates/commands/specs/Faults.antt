-- The faults of a card: their numbers and places, and what each one says of the bytes.
use Rattle.std.specs.Prelude.{◌≡◌, ℕ, ◌<◌, ◌⊎◌, List, ◌++◌, length, Ok, Err, Result, MatchResult, ◌≢◌}
use Rattle.std.specs.Prelude.{slice_index, codes, decimal}
use Rattle.store.specs.Meaning.{Meaning}
use Rattle.commands.specs.declared.command.Command.{Command}
use Rattle.commands.specs.declared.command.CardFault.{CardFault}
use Rattle.commands.specs.declared.command.CardFault.TheVariants.{Letter, Short, Outside}
use Rattle.commands.specs.Commands.{letter_w, letter_l, bytes_of, all_bytes, node_of, column_of, Inside}
use Rattle.commands.specs.Commands.{Longest, TakenUp}

-- the number by which a caller knows a fault
abbrev pub number : CardFault → ℕ
number (Letter at) = 21
number (Short at) = 22
number (Outside at) = 23

-- the place of the first byte of the faulty command
abbrev pub place : CardFault → ℕ
place (Letter at) = at
place (Short at) = at
place (Outside at) = at

-- the text of a fault
abbrev pub text : CardFault → List ℕ
text fault = codes "fault " ++ (decimal (number fault) ++ (codes " at place " ++ decimal (place fault)))

-- the first byte is no letter of a command
abbrev pub NoLetter : List ℕ → Type 0
NoLetter bytes = (0 < length bytes) × (slice_index bytes 0 ≢ letter_w) × (slice_index bytes 0 ≢ letter_l)

-- there are fewer bytes than the letter asks for, or none at all
abbrev pub CutShort : List ℕ → Type 0
CutShort bytes =
    (length bytes ≡ 0)
    ⊎ (((slice_index bytes 0 ≡ letter_w) × (length bytes < 5))
    ⊎ ((slice_index bytes 0 ≡ letter_l) × (length bytes < 3)))

-- the bytes begin with a whole command, but its cell is outside
pub record NoCell (nodes columns : ℕ) (bytes : List ℕ) : Type 0 where
  pub command : Command
  pub rest : List ℕ
  pub begins : bytes ≡ bytes_of command ++ rest
  pub outside : (node_of command < nodes) × (column_of command < columns) → ⊥

-- The bytes, the first of which is at place `at`, do not begin with a command on a cell inside, for this reason.
abbrev pub Faulty : ℕ → ℕ → ℕ → List ℕ → CardFault → Type 0
Faulty nodes columns at bytes (Letter p) = (p ≡ at) × NoLetter bytes
Faulty nodes columns at bytes (Short p) = (p ≡ at) × CutShort bytes
Faulty nodes columns at bytes (Outside p) = (p ≡ at) × NoCell nodes columns bytes

-- the bytes begin with a command on a cell inside, and these bytes follow it
pub record Begins (nodes columns : ℕ) (bytes : List ℕ) (command : Command) (rest : List ℕ) : Type 0 where
  pub front : bytes ≡ bytes_of command ++ rest
  pub inside : Inside nodes columns command

-- The bytes are those of as many commands as counted, or those of some commands and then of a faulty one.
abbrev pub Checked : ℕ → ℕ → List ℕ → Result ℕ CardFault → Type 0
Checked nodes columns bytes (Ok count) =
    (commands : List Command) × Longest nodes columns bytes (length bytes) commands × (count ≡ length commands)
Checked nodes columns bytes (Err fault) =
    (commands : List Command) × (rest : List ℕ)
    × Longest nodes columns bytes (place fault) commands × (bytes ≡ all_bytes commands ++ rest) × (0 < length rest)
    × Faulty nodes columns (place fault) rest fault

-- A check accepts exactly if taking up uses all bytes, and otherwise its place is the number of bytes that
-- taking up uses.
abbrev pub Agrees : ℕ → ℕ → List ℕ → Result ℕ CardFault → Type 0
Agrees nodes columns bytes answer =
    (used : ℕ) (meaning : Meaning) → TakenUp nodes columns bytes used meaning
    → MatchResult answer (λ _. used ≡ length bytes) (λ fault. (place fault ≡ used) × (used < length bytes))
