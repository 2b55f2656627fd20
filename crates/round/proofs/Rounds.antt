-- Every round.
use Rattle.std.proofs.Common.{◌/◌, ◌%◌}
use Rattle.round.specs.Round.{EveryRound}
use Rattle.round.proofs.Fetches.{inside_at}
use Rattle.round.proofs.Apart.{cells_apart, counted}
use Rattle.round.proofs.Mending.{mends_column}
use Rattle.round.proofs.Nodes.{asks_near, near_asks, asks_others, asked_nodes}

pub every_round : EveryRound
every_round code f known = record {
  inside = λ p h. rw (counted code p h).2 at (inside_at code f (p / code.m) (p % code.m) (counted code p h).1);
  cells_differ = λ p p' h h' e. cells_apart code f p p' known h h' e;
  near = λ v. (asks_near code f known v, near_asks code f known v);
  others = asks_others code f known;
  nodes = asked_nodes code f known;
  mends = λ F L file x S c h. mends_column F L code file x S f known c h;
}
