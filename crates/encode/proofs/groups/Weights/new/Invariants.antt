use Rattle.std.proofs.Common.{◌≡◌, ℕ, ◌*◌, ◌<◌, [], length, get_or}
use Rattle.field.specs.Laws.{power}
use Rattle.encode.proofs.groups.Weights.new.Given as goal

abbrev pub invariant-loop-i : goal.invariant-loop-i
invariant-loop-i g l =
    let F = g.F.Field.ops in
    record {
      long : length l.rows ≡ 3;
      each : (i : ℕ) → i < 3 → length (get_or l.rows i []) ≡ 8;
      filled : (i t : ℕ) → i < l.i → t < 8 → get_or (get_or l.rows i []) t 0 ≡ power F F.α (i * t);
    }
