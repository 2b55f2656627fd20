use Rattle.code.proofs.CountedRound.{behind_undoes_ahead}
use Rattle.code.proofs.behind_undoes_ahead.Goals as goal

pub returns : goal.returns
returns c = behind_undoes_ahead
