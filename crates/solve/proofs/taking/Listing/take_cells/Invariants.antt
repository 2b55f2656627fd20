use Rattle.std.proofs.Common.{◌≡◌}
use Rattle.solve.specs.Systems.{entry}
use Rattle.solve.specs.Cells.{TookAll}
use Rattle.solve.proofs.taking.Listing.take_cells.Given as goal

abbrev pub invariant-loop-x : goal.invariant-loop-x
invariant-loop-x g l =
    (l.equations.n ≡ l.initial.equations.n) × (l.equations.numbers.ghost_name ≡ l.initial.equations.numbers.ghost_name)
    × TookAll g.F.Field.ops l.self.code.now l.self.cells.now l.known l.x (entry l.initial.equations.n l.initial.equations.numbers.now)
    (entry l.initial.equations.n l.equations.numbers.now)
