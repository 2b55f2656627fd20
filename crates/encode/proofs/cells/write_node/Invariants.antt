use Rattle.std.proofs.Common.{◌≡◌, ℕ, ◌<◌, get_or}
use Rattle.encode.specs.Scratch.{cell_of, in_columns}
use Rattle.encode.proofs.cells.write_node.Given as goal

abbrev pub invariant-loop-c : goal.invariant-loop-c
invariant-loop-c g l =
    (c : ℕ) → c < l.c → get_or l.row c 0 ≡ cell_of g.F.Field.ops l.code (in_columns l.columns) l.v c
