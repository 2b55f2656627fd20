use Rattle.std.proofs.Common.{rules}
use Rattle.commands.specs.declared.command.Command.TheVariants.{Write, Lose}
use Rattle.card.proofs.Puts.{put_command}
use Rattle.card.proofs.lent.Card.append.Goals as goal

pub invariant_of-self : goal.invariant_of-self
invariant_of-self c =
    put_command c.args.self.now (Write c.in-Write.node c.in-Write.column c.in-Write.symbol) c.copy_from_slice.new.self (search rules)
    c.requires.room (rw c.in-Write.is at c.requires.inside)

pub invariant_of-self-in-Lose : goal.invariant_of-self-in-Lose
invariant_of-self-in-Lose c =
    put_command c.args.self.now (Lose c.in-Lose.node c.in-Lose.column) c.copy_from_slice-in-Lose.new.self (search rules)
    c.requires.room (rw c.in-Lose.is at c.requires.inside)
