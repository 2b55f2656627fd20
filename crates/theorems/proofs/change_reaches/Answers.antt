use Rattle.theorems.proofs.Reached.{change_reaches}
use Rattle.theorems.proofs.change_reaches.Goals as goal

pub returns : goal.returns
returns c = change_reaches
