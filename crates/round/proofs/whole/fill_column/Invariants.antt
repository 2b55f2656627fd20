use Rattle.std.proofs.Common.{◌≡◌, ◌-◌}
use Rattle.round.specs.Fetching.{Fetching}
use Rattle.round.proofs.whole.fill_column.Given as goal

abbrev pub invariant-loop-next : goal.invariant-loop-next
invariant-loop-next g l =
    Fetching g.F.Field.ops l.initial.round.code l.initial.round.node l.cells l.round
    × (l.round.column ≡ l.initial.round.column)

abbrev pub decreases-loop-next : goal.decreases-loop-next
decreases-loop-next g l = l.initial.round.code.m - l.round.place
