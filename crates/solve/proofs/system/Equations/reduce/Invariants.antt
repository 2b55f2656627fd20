use Rattle.std.proofs.Common.{get_or}
use Rattle.solve.specs.Systems.{entry}
use Rattle.solve.proofs.Steps.{RemainderUpTo}
use Rattle.solve.proofs.system.Equations.reduce.Given as goal

abbrev pub invariant-loop-p : goal.invariant-loop-p
invariant-loop-p g l = RemainderUpTo g.F.Field.ops l.self.n l.p (entry l.self.n l.self.numbers.now) (λ c. get_or l.initial.row c 0) (λ c. get_or l.row c 0)
