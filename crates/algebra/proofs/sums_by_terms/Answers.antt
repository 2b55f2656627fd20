use Rattle.algebra.proofs.Statements.{sums_by_terms}
use Rattle.algebra.proofs.sums_by_terms.Goals as goal

pub returns : goal.returns
returns c = sums_by_terms
