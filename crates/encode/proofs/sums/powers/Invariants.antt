use Rattle.std.proofs.Common.{◌≡◌, ℕ, ◌<◌, get_or}
use Rattle.field.specs.Laws.{power}
use Rattle.encode.proofs.sums.powers.Given as goal

abbrev pub invariant-loop-x : goal.invariant-loop-x
invariant-loop-x g l =
    let F = g.F.Field.ops in
    (l.p ≡ power F l.base l.x-index) × ((j : ℕ) → j < l.x-index → get_or l.out j 0 ≡ power F l.base j)
