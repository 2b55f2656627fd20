use Rattle.std.proofs.Common.{length, ap, ◌∙◌, rules}
use Rattle.commands.specs.Commands.{commands_in}
use Rattle.commands.proofs.Reading.{read_on}
use Rattle.commands.proofs.CommandsIterator.next.Goals as goal

pub returns-clause-steps : goal.returns-clause-steps
returns-clause-steps c = ap commands_in c.in_ok-command.ensures.0 ∙ read_on c.in_ok-command.command c.in_ok-command.rest.now

pub returns-clause-goes : goal.returns-clause-goes
returns-clause-goes c =
    let step = ap commands_in c.in_ok-command.ensures.0 ∙ read_on c.in_ok-command.command c.in_ok-command.rest.now in
    let shorter = ap length step in
    search rules
