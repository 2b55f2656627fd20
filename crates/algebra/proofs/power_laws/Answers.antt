use Rattle.algebra.proofs.Statements.{power_laws}
use Rattle.algebra.proofs.power_laws.Goals as goal

pub returns : goal.returns
returns c = power_laws
