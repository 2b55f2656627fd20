use Rattle.std.proofs.Common.{◌≡◌, ℕ, ◌<◌, ◌≤◌, get_or}
use Rattle.solve.proofs.system.subtract_from.Given as goal

abbrev pub invariant-loop-c : goal.invariant-loop-c
invariant-loop-c g l =
    let F = g.F.Field.ops in
    ((c : ℕ) → c < l.c → get_or l.row c 0 ≡ F.sub (get_or l.initial.row c 0) (F.mul l.by (get_or l.other c 0)))
    × ((c : ℕ) → l.c ≤ c → get_or l.row c 0 ≡ get_or l.initial.row c 0)
