use Rattle.std.proofs.Common.{length}
use Rattle.encode.proofs.vandermonde.+solve.Given as goal

abbrev pub decreases-solve : goal.decreases-solve
decreases-solve g l = length l.points.now
