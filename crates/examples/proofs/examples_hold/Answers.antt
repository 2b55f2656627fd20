use Rattle.examples.proofs.Every.{examples_hold}
use Rattle.examples.proofs.examples_hold.Goals as goal

pub returns : goal.returns
returns c = examples_hold
