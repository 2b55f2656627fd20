use Rattle.std.proofs.Common.{arith}
use Rattle.std.proofs.lemmas.Grind.{common_steps}
use Rattle.round.proofs.Places.{coded_cell, first_cell, other_cell}
use Rattle.round.proofs.state.Wanting.wanted.Goals as goal

pub returns-then-self-m : goal.returns-then-self-m
returns-then-self-m g c = grind (arith, common_steps, coded_cell)

pub returns-then-self-eq0 : goal.returns-then-self-eq0
returns-then-self-eq0 g c = grind (arith, common_steps, first_cell)

pub returns : goal.returns
returns g c = grind (arith, common_steps, other_cell)
