use Rattle.stripe.proofs.Chain.{calls_law}
use Rattle.stripe.proofs.law_of_calls.Goals as goal

pub returns : goal.returns
returns c = calls_law
