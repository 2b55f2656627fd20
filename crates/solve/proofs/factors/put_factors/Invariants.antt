use Rattle.std.proofs.Common.{◌≡◌, ℕ, ◌+◌, ◌*◌, ◌<◌, [], get_or}
use Rattle.solve.proofs.factors.put_factors.Given as goal

abbrev pub invariant-loop-j : goal.invariant-loop-j
invariant-loop-j g l =
    ((j : ℕ) → j < l.j → get_or l.row (j * l.m + l.t) 0 ≡ g.F.Field.ops.mul l.scale (get_or (get_or l.table j []) l.w 0))
    × ((i : ℕ) → ((j : ℕ) → j < l.j → i ≡ j * l.m + l.t → ⊥) → get_or l.row i 0 ≡ get_or l.initial.row i 0)
