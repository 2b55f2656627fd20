use Rattle.round.proofs.Rounds.{every_round}
use Rattle.round.proofs.nodes_asked.Goals as goal

pub returns-clause-rounds : goal.returns-clause-rounds
returns-clause-rounds c = every_round
