use Rattle.std.proofs.Common.{◌≡◌, ℕ, ◌+◌, ◌<◌, length}
use Rattle.encode.specs.Scratch.{in_columns, target}
use Rattle.encode.proofs.columns.all_targets.Given as goal

abbrev pub invariant-loop-i : goal.invariant-loop-i
invariant-loop-i g l =
    let F = g.F.Field.ops in
    record {
      long : length l.weights ≡ l.code.k;
      made : (i t : ℕ) → i < l.i → t < l.code.m → in_columns l.columns (l.code.k + i) t ≡ target F l.code (in_columns l.initial.columns) i t;
      kept : (j t : ℕ) → j < l.code.k → in_columns l.columns j t ≡ in_columns l.initial.columns j t;
    }
