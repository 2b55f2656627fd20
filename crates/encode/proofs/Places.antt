-- The columns of the scratch memory: what a write to one column leaves of the others.
use Rattle.std.proofs.Common.{◌≡◌, ℕ, ◌<◌, ◌≢◌, List, [], length, get_or, set, get_or-set_same, get_or-set_other}
use Rattle.encode.specs.Scratch.{in_columns}

pub column_written : (xs : List (List ℕ)) (s j t : ℕ) (ys : List ℕ) → s < length xs → t ≡ s → in_columns (set xs s ys) j t ≡ get_or ys j 0
column_written xs s j t ys l e = rw (e, get_or-set_same xs s ys [] l)

pub column_kept : (xs : List (List ℕ)) (s j t : ℕ) (ys : List ℕ) → t ≢ s → in_columns (set xs s ys) j t ≡ in_columns xs j t
column_kept xs s j t ys ne = rw (get_or-set_other xs s t ys [] ne)
