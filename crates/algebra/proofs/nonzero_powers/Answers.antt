use Rattle.algebra.proofs.Statements.{nonzero_powers}
use Rattle.algebra.proofs.nonzero_powers.Goals as goal

pub returns : goal.returns
returns c = nonzero_powers
