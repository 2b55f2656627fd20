use Rattle.std.proofs.Common.{◌≡◌, ℕ, ◌+◌, ◌*◌, ◌<◌}
use Rattle.field.specs.Laws.{power}
use Rattle.algebra.specs.Sums.{sum}
use Rattle.code.specs.Positions.{behind}
use Rattle.code.specs.Stripe.{Symbols}
use Rattle.encode.proofs.groups.group_sum.Given as goal

abbrev pub invariant-loop-t : goal.invariant-loop-t
invariant-loop-t g l =
    let F = g.F.Field.ops in
    (x : Symbols) → ((v t r : ℕ) → v < l.code.n → t < l.code.m → goal.X-post g l.symbol v t r → r ≡ x v t)
    → l.sum ≡ sum F l.t (λ t. F.mul (power F F.α (l.i * t)) (x (behind l.code.n l.j (t + 1)) t))
