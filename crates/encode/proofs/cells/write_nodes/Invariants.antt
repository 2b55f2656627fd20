use Rattle.std.proofs.Common.{◌≡◌, ℕ, ◌*◌, ◌<◌, ◌≤◌, get_or}
use Rattle.code.specs.Stripe.{width}
use Rattle.encode.specs.Encoding.{in_memory}
use Rattle.encode.specs.Scratch.{cell_of, in_columns}
use Rattle.encode.proofs.cells.write_nodes.Given as goal

abbrev pub invariant-loop-v : goal.invariant-loop-v
invariant-loop-v g l =
    ((v c : ℕ) → v < l.v → c < width l.code → in_memory l.code l.cells v c ≡ cell_of g.F.Field.ops l.code (in_columns l.columns) v c)
    × ((p : ℕ) → l.v * width l.code ≤ p → get_or l.cells p 0 ≡ get_or l.initial.cells p 0)
