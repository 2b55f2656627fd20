use Rattle.algebra.proofs.Vandermonde.{vandermonde_solvable}
use Rattle.algebra.proofs.vandermonde_solvable.Goals as goal

pub returns : goal.returns
returns c = vandermonde_solvable
