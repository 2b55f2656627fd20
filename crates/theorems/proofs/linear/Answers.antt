use Rattle.theorems.proofs.Stripes.{stripes_linear}
use Rattle.theorems.proofs.linear.Goals as goal

pub returns : goal.returns
returns c = stripes_linear
