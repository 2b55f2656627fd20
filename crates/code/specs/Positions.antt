-- Nodes counted round: ⟨v⟩ is the one node that differs from v by a multiple of n, whatever the sign of v.
use Rattle.std.specs.Prelude.{◌≡◌, ℕ, ◌+◌, ◌-◌, ◌%◌, ◌<◌}

-- ⟨v + s⟩, the node s places ahead of v
abbrev pub ahead : ℕ → ℕ → ℕ → ℕ
ahead n v s = (v + s) % n

-- ⟨v − s⟩, the node s places behind v
abbrev pub behind : ℕ → ℕ → ℕ → ℕ
behind n v s = (v + (n - s % n)) % n

-- ⟨v − s⟩ is the only number from 0 to n − 1 from which s places ahead lead to ⟨v⟩
abbrev pub BehindUndoesAhead : Type 0
BehindUndoesAhead =
    (n v s : ℕ) → 0 < n
    → (behind n v s < n) × (ahead n (behind n v s) s ≡ v % n)
    × ((w : ℕ) → w < n → ahead n w s ≡ v % n → w ≡ behind n v s)
