use Rattle.algebra.proofs.Vandermonde.{vandermonde_completes}
use Rattle.algebra.proofs.vandermonde_completes.Goals as goal

pub returns : goal.returns
returns c = vandermonde_completes
