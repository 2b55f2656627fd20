use Rattle.std.proofs.Common.{◌≡◌, ℕ, ◌+◌, ◌-◌, ◌<◌, ◌≤◌, length, get_or}
use Rattle.encode.proofs.vandermonde.reduce.Given as goal

abbrev pub invariant-loop-i : goal.invariant-loop-i
invariant-loop-i g l =
    let F = g.F.Field.ops in
    ((k : ℕ) → k ≤ l.i - 1 → get_or l.targets k 0 ≡ get_or l.initial.targets k 0)
    × ((k : ℕ) → l.i ≤ k + 1 → k + 1 < length l.initial.targets
    → get_or l.targets (k + 1) 0 ≡ F.sub (get_or l.initial.targets (k + 1) 0) (F.mul l.z (get_or l.initial.targets k 0)))
