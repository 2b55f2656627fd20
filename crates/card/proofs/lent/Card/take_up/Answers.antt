use Rattle.std.proofs.Common.{◌≡◌, true, take}
use Rattle.commands.specs.Commands.{commands_in, all_inside}
use Rattle.commands.proofs.Tests.{all_test}
use Rattle.card.proofs.lent.Card.take_up.Goals as goal

pub invariant_of-result-clause-inside : goal.invariant_of-result-clause-inside
invariant_of-result-clause-inside c =
    let xs = commands_in (take c.good_length-used.result c.args.memory.now) in
    let inside : all_inside c.counted.result.nodes c.counted.result.columns xs ≡ true =
    rw (c.counted.ensures.nodes, c.counted.ensures.columns) (all_test _ _ xs c.good_length-used.ensures.holds.inside) in
    inside
