use Rattle.card.proofs.Uses.{used_again}
use Rattle.card.proofs.lent.Card.used_part.Goals as goal

pub returns-clause-again : goal.returns-clause-again
returns-clause-again c = used_again c.args.self.now
