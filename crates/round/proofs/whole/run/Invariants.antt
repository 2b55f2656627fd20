use Rattle.std.proofs.Common.{◌-◌}
use Rattle.code.specs.Stripe.{width}
use Rattle.round.proofs.Fetches.{Collects}
use Rattle.round.proofs.whole.run.Given as goal

abbrev pub invariant-loop-holding : goal.invariant-loop-holding
invariant-loop-holding g l = Collects g.F.Field.ops l.initial.round.code l.initial.round.node l.cells l.round l.symbols

abbrev pub decreases-loop-holding : goal.decreases-loop-holding
decreases-loop-holding g l = width l.initial.round.code - l.round.column
