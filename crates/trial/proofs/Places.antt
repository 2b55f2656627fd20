-- As many rows as fit lie within the numbers.
use Rattle.std.proofs.Common.{ℕ, ◌*◌, ◌/◌, ◌≤◌}
use Rattle.std.proofs.Math.Nat.{div-mul-le_self}

pub rows_fit : (n w : ℕ) → n / w * w ≤ n
rows_fit n w = div-mul-le_self n w
