use Rattle.std.proofs.Common.{◌+◌, ◌*◌, get_or}
use Rattle.solve.proofs.Memory.{RowUpTo}
use Rattle.solve.proofs.rows.subtract_row.Given as goal

abbrev pub invariant-loop-c : goal.invariant-loop-c
invariant-loop-c g l =
    let F = g.F.Field.ops in
    RowUpTo l.width l.s l.c (λ c. F.sub (get_or l.initial.work (l.s * l.width + c) 0) (F.mul l.by (get_or l.initial.work (l.p * l.width + c) 0))) l.initial.work l.work
