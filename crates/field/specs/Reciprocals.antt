-- The inverse of a symbol, from the product alone.
use Rattle.std.specs.Prelude.{ℕ, zero, suc, cond, ◌==◌}

-- The number r below n whose product with u is 1, and 0 where there is none.
unfoldable pub reciprocal : (ℕ → ℕ → ℕ) → ℕ → ℕ → ℕ
reciprocal mul zero u = 0
reciprocal mul (suc r) u = cond (mul u r == 1) r (reciprocal mul r u)
