-- What bytes that are lent to a card hold after generic code has lost a cell of it.
use Rattle.std.specs.Prelude.{◌≡◌, ℕ, ◌-◌, ◌≤◌, Bool, List, length, take, drop, None}
use Rattle.store.specs.Meaning.{Meaning, Changed}
use Rattle.commands.specs.declared.command.Command.{Command}
use Rattle.commands.specs.Commands.{card, Holds}
use Rattle.commands.specs.Commands.{TakenUp}

-- The card that is taken up from the bytes before has lost the cell in the commands of the bytes after. These
-- begin with the bytes that taking up used, and behind the commands the bytes are as they were.
pub record LostInBytes (nodes columns : ℕ) (before : List ℕ) (j c : ℕ) (taken : Bool)
    (after : List ℕ) : Type 0 where
  pub used : ℕ
  pub meaning : Meaning
  pub first : TakenUp nodes columns before used meaning
  pub more : ℕ
  pub commands : List Command
  pub holds : Holds nodes columns after more commands
  pub lost : Changed meaning j c None taken (card commands nodes columns (length after - more))
  pub longer : used ≤ more
  pub kept : take used after ≡ take used before
  pub untouched : drop more after ≡ drop more before
