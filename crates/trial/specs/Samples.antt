-- The symbols of a file that looks random.
use Rattle.std.specs.Prelude.{ℕ, zero, suc, ◌+◌, ◌*◌, ◌%◌}

-- The state after so many steps: it begins with 1, and each is the one before times 75 and 74 more, modulo
-- 65,537.
unfoldable pub sample_state : ℕ → ℕ
sample_state zero = 1
sample_state (suc n) = (sample_state n * 75 + 74) % 65537
