use Rattle.std.proofs.Common.{◌≡◌, ℕ, ◌+◌, ◌*◌, ◌<◌, get_or, length}
use Rattle.encode.specs.Scratch.{in_columns}
use Rattle.encode.proofs.columns.place_file.Given as goal

abbrev pub invariant-loop-t : goal.invariant-loop-t
invariant-loop-t l = record {
  long : length l.columns ≡ 8;
  placed : (j t : ℕ) → j < l.code.k → t < l.t → in_columns l.columns j t ≡ get_or l.file (j * l.code.m + t) 0;
}
