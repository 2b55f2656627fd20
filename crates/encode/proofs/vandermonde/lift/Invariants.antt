use Rattle.std.proofs.Common.{◌≡◌, ℕ, ◌+◌, ◌-◌, ◌<◌, ◌≤◌, get_or}
use Rattle.algebra.specs.Sums.{sum}
use Rattle.encode.proofs.vandermonde.lift.Given as goal

abbrev pub invariant-loop-v : goal.invariant-loop-v
invariant-loop-v g l =
    let F = g.F.Field.ops in
    (l.first < F.q)
    × (F.add l.first (sum F (l.v - 1) (λ w. get_or l.targets (w + 1) 0)) ≡ get_or l.initial.targets 0 0)
    × ((k : ℕ) → k + 1 < l.v → get_or l.targets (k + 1) 0 ≡ F.mul (get_or l.initial.targets (k + 1) 0) (F.inv (F.sub (get_or l.points (k + 1) 0) (get_or l.points 0 0))))
    × ((k : ℕ) → l.v ≤ k → get_or l.targets k 0 ≡ get_or l.initial.targets k 0)
