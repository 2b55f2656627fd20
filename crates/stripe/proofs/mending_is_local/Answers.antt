use Rattle.stripe.proofs.Mending.{mending_local}
use Rattle.stripe.proofs.mending_is_local.Goals as goal

pub returns : goal.returns
returns c = mending_local
