use Rattle.std.proofs.Common.{◌≡◌, ℕ, ◌<◌, [], length, get_or}
use Rattle.solve.specs.Factors.{ColumnOf}
use Rattle.solve.proofs.factors.column_table.Given as goal

abbrev pub invariant-loop-j : goal.invariant-loop-j
invariant-loop-j g l = (length l.table ≡ 64) × ((j : ℕ) → j < l.j → ColumnOf g.F.Field.ops l.code j (get_or l.table j []))
