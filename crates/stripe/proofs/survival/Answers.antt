use Rattle.stripe.proofs.Surviving.{survives}
use Rattle.stripe.proofs.survival.Goals as goal

pub returns : goal.returns
returns c = survives
