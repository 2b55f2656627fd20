use Rattle.std.proofs.Common.{◌≡◌, ℕ, ◌<◌, ◌≤◌, get_or}
use Rattle.solve.specs.Systems.{entry}
use Rattle.solve.proofs.system.Equations.move_right_sides.Given as goal

abbrev pub invariant-loop-p : goal.invariant-loop-p
invariant-loop-p l =
    ((i : ℕ) → i < l.p → get_or l.numbers i 0 ≡ entry l.n l.initial.numbers i l.n)
    × ((i : ℕ) → l.p ≤ i → get_or l.numbers i 0 ≡ get_or l.initial.numbers i 0)
