use Rattle.std.proofs.Common.{◌<◌}
use Rattle.field_vectors.proofs.add_repeatedly.Given as goal

abbrev pub invariant-loop-turn : goal.invariant-loop-turn
invariant-loop-turn l = l.total < 257
