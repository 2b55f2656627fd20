use Rattle.std.proofs.Common.{◌≡◌, ℕ, ◌+◌, ◌<◌, ◌≤◌, length}
use Rattle.field.specs.Laws.{power}
use Rattle.algebra.specs.Sums.{syndrome}
use Rattle.code.specs.Stripe.{parity}
use Rattle.encode.specs.Scratch.{in_columns}
use Rattle.encode.proofs.columns.solve_all.Given as goal

abbrev pub invariant-loop-t : goal.invariant-loop-t
invariant-loop-t g l =
    let F = g.F.Field.ops in
    record {
      long : length l.columns ≡ 8;
      reached : (i t : ℕ) → i < parity l.code → t < l.t
          → syndrome F (parity l.code) (λ v. power F F.α (l.code.k + v)) (λ v. in_columns l.columns (l.code.k + v) t) i ≡ in_columns l.initial.columns (l.code.k + i) t;
      below : (v t : ℕ) → v < parity l.code → t < l.t → in_columns l.columns (l.code.k + v) t < F.q;
      after : (j t : ℕ) → l.t ≤ t → in_columns l.columns j t ≡ in_columns l.initial.columns j t;
      kept : (j t : ℕ) → j < l.code.k → in_columns l.columns j t ≡ in_columns l.initial.columns j t;
    }
