use Rattle.algebra.proofs.Statements.{zero_products}
use Rattle.algebra.proofs.zero_products.Goals as goal

pub returns : goal.returns
returns c = zero_products
