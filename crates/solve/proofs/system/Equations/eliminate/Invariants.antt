use Rattle.std.proofs.Common.{◌-◌, ◌≤◌}
use Rattle.solve.proofs.Steps.{OutUpTo}
use Rattle.solve.proofs.system.Equations.eliminate.Given as goal

abbrev pub invariant-loop-s : goal.invariant-loop-s
invariant-loop-s g l = (l.from ≤ l.fn.self.n) × OutUpTo g.F.Field.ops l.fn.self.n l.c l.from l.initial.numbers l.numbers

abbrev pub decreases-loop-s : goal.decreases-loop-s
decreases-loop-s g l = l.fn.self.n - l.from
