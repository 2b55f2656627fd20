use Rattle.theorems.proofs.Reached.{change_differs}
use Rattle.theorems.proofs.change_differs.Goals as goal

pub returns : goal.returns
returns c = change_differs
