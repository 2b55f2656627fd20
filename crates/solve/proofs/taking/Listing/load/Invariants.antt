use Rattle.std.proofs.Common.{◌≡◌, length}
use Rattle.solve.specs.Cells.{Loaded}
use Rattle.solve.proofs.taking.Listing.load.Given as goal

abbrev pub invariant-loop-p : goal.invariant-loop-p
invariant-loop-p g l =
    (l.equations.n ≡ l.initial.equations.n) × (l.equations.numbers.ghost_name ≡ l.initial.equations.numbers.ghost_name)
    × (length l.known ≡ 504) × Loaded l.self.code.now l.self.cells.now l.p l.equations.numbers.now l.known
