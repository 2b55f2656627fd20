use Rattle.algebra.proofs.Statements.{swapped_sums}
use Rattle.algebra.proofs.swapped_sums.Goals as goal

pub returns : goal.returns
returns c = swapped_sums
