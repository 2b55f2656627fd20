-- A walk over bytes, one command after the other.
use Rattle.std.specs.Prelude.{◌≡◌, ◌<◌, List, ℕ, length, slice_index}
use Rattle.commands.specs.declared.command.Command.{Command}
use Rattle.commands.specs.declared.command.Commands.{Commands}
use Rattle.commands.specs.Commands.{commands_in, letter_w, letter_l}

-- the commands that a walk has left
abbrev pub commands_left : Commands → List Command
commands_left walk = commands_in walk.bytes.now

-- where the bytes begin with a letter of a command, it asks for more bytes than there are
abbrev pub CutOff : List ℕ → Type 0
CutOff bytes =
    (slice_index bytes 0 ≡ letter_w → length bytes < 5) × (slice_index bytes 0 ≡ letter_l → length bytes < 3)
