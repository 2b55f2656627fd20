use Rattle.theorems.proofs.Stripes.{one_stripe}
use Rattle.theorems.proofs.one_stripe.Goals as goal

pub returns : goal.returns
returns c = one_stripe
