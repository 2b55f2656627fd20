use Rattle.std.proofs.Common.{◌≡◌, ◌≢◌, ℕ, ◌+◌, ◌<◌, get_or, length}
use Rattle.algebra.specs.Sums.{sum}
use Rattle.encode.specs.Scratch.{in_columns}
use Rattle.encode.proofs.columns.set_targets.Given as goal

abbrev pub invariant-loop-t : goal.invariant-loop-t
invariant-loop-t g l =
    let F = g.F.Field.ops in
    record {
      long : length l.columns ≡ 8;
      made : (t : ℕ) → t < l.t → in_columns l.columns (l.code.k + l.i) t ≡ F.sub 0 (sum F l.code.k (λ j. F.mul (get_or l.weights j 0) (in_columns l.initial.columns j t)));
      kept : (j t : ℕ) → j ≢ l.code.k + l.i → in_columns l.columns j t ≡ in_columns l.initial.columns j t;
    }
