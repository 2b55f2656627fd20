use Rattle.stripe.proofs.Stores.{blank_stores}
use Rattle.stripe.proofs.blank_stores.Goals as goal

pub returns : goal.returns
returns c = blank_stores
