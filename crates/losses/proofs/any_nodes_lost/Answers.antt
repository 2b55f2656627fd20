use Rattle.losses.proofs.Recovery.{any_nodes_lost, any_nodes_lost_sharper}
use Rattle.losses.proofs.any_nodes_lost.Goals as goal

pub returns : goal.returns
returns c = record { wide = any_nodes_lost; sharper = any_nodes_lost_sharper }
