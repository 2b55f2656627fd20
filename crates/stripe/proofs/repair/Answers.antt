use Rattle.stripe.proofs.Repairing.{repairs}
use Rattle.stripe.proofs.repair.Goals as goal

pub returns : goal.returns
returns c = repairs
