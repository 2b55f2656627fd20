use Rattle.algebra.proofs.Statements.{linear_sums}
use Rattle.algebra.proofs.linear_sums.Goals as goal

pub returns : goal.returns
returns c = linear_sums
