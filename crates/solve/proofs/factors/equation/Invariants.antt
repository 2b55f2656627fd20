use Rattle.std.proofs.Common.{◌≡◌, ℕ, ◌+◌, ◌*◌, ◌<◌, get_or}
use Rattle.code.specs.Stripe.{Symbols}
use Rattle.theorems.specs.Linear.{IsFactor}
use Rattle.solve.proofs.factors.equation.Given as goal

abbrev pub invariant-loop-t : goal.invariant-loop-t
invariant-loop-t g l =
    (j t : ℕ) (y : Symbols) → j < l.code.k → t < l.t → IsFactor g.F.Field.ops l.code (j * l.code.m + t) y
    → get_or l.row (j * l.code.m + t) 0 ≡ y l.v l.c
