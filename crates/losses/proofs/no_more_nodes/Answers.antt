use Rattle.losses.proofs.Limit.{no_more_nodes}
use Rattle.losses.proofs.no_more_nodes.Goals as goal

pub returns : goal.returns
returns c = no_more_nodes
