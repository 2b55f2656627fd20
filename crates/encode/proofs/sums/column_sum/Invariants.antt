use Rattle.std.proofs.Common.{◌≡◌, ◌*◌, get_or}
use Rattle.field.specs.Laws.{power}
use Rattle.algebra.specs.Sums.{sum}
use Rattle.encode.proofs.sums.column_sum.Given as goal

abbrev pub invariant-loop-x : goal.invariant-loop-x
invariant-loop-x g l =
    let F = g.F.Field.ops in
    (l.weight ≡ power F F.α (l.i * l.x-index))
    × (l.sum ≡ sum F l.x-index (λ j. F.mul (power F F.α (l.i * j)) (get_or l.column j 0)))
