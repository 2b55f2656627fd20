use Rattle.std.proofs.Common.{◌≡◌, ℕ, ◌<◌, ◌≤◌, get_or}
use Rattle.solve.proofs.rows.scale.Given as goal

abbrev pub invariant-loop-x : goal.invariant-loop-x
invariant-loop-x g l =
    let F = g.F.Field.ops in
    ((c : ℕ) → c < l.x-index → get_or l.row c 0 ≡ F.mul l.by (get_or l.initial.row c 0))
    × ((c : ℕ) → l.x-index ≤ c → get_or l.row c 0 ≡ get_or l.initial.row c 0)
