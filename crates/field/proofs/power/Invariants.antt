-- What is collected, times the power that is left, is the power asked for.
use Rattle.std.proofs.Common.{◌≡◌, ◌<◌}
use Rattle.field.specs.Laws.{power}
use Rattle.field.proofs.power.Given as goal

abbrev pub invariant-loop-left : goal.invariant-loop-left
invariant-loop-left g l =
    (l.result < g.F.Field.ops.q)
    × (g.F.Field.ops.mul l.result (power g.F.Field.ops l.base l.left) ≡ power g.F.Field.ops l.u l.e)

abbrev pub decreases-loop-left : goal.decreases-loop-left
decreases-loop-left g l = l.left
