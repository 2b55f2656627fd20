use Rattle.theorems.proofs.Factors.{weighted_sum}
use Rattle.theorems.proofs.weighted_sum.Goals as goal

pub returns : goal.returns
returns c = weighted_sum
