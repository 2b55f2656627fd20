use Rattle.std.proofs.Common.{◌≡◌, length}
use Rattle.solve.specs.Cells.{Lists}
use Rattle.solve.proofs.cells.gather.Given as goal

abbrev pub invariant-loop-x : goal.invariant-loop-x
invariant-loop-x g l = (length l.cells ≡ 704) × Lists g.F.Field.ops l.code (g.S.Store.meaning l.store).cell l.x l.cells
