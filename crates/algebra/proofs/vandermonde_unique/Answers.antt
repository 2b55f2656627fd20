use Rattle.algebra.proofs.Vandermonde.{vandermonde_unique}
use Rattle.algebra.proofs.vandermonde_unique.Goals as goal

pub returns : goal.returns
returns c = vandermonde_unique
