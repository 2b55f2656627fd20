use Rattle.std.proofs.Common.{◌≡◌, ℕ, ◌<◌, get_or}
use Rattle.encode.specs.Encoding.{in_memory}
use Rattle.encode.proofs.rules.Cells.column.Given as goal

abbrev pub invariant-loop-j : goal.invariant-loop-j
invariant-loop-j l = (j : ℕ) → j < l.j → get_or l.places j 0 ≡ in_memory l.self.code.now l.self.numbers.now j l.t
