use Rattle.algebra.proofs.Statements.{split_sums}
use Rattle.algebra.proofs.split_sums.Goals as goal

pub returns : goal.returns
returns c = split_sums
