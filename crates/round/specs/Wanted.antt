-- Which cells a round wants for the node f, and what it makes of their symbols. For each of the m + a
-- columns it wants m symbols, so the p-th symbol of a round is number p % m for column p / m.
use Rattle.std.specs.Prelude.{ℕ, ◌+◌, ◌-◌, ◌*◌, ◌/◌, ◌%◌, cond, ◌==◌, nat_le, nat_lt}
use Rattle.field.specs.Laws.{Operations, power}
use Rattle.algebra.specs.Sums.{sum}
use Rattle.code.specs.declared.record.Code.{Code}
use Rattle.code.specs.Positions.{ahead, behind}
use Rattle.code.specs.Stripe.{width}

-- the s-th of the columns 0, 1, .. without t, counted from s = 1
abbrev pub without : ℕ → ℕ → ℕ
without t s = cond (nat_le s t) (s - 1) s

-- For the data column t: first (⟨f + t + 1⟩, m), then (⟨f + t − u⟩, u) for u = 0 to m − 1 without t.
abbrev pub for_data : Code → ℕ → ℕ → ℕ → ℕ × ℕ
for_data code f t s =
    cond (s == 0) (ahead code.n f (t + 1), code.m) (behind code.n (f + t) (without t s), without t s)

-- For the coded column m + i: (⟨f − i − u − 1⟩, u) for u = 0 to m − 1.
abbrev pub for_coded : Code → ℕ → ℕ → ℕ → ℕ × ℕ
for_coded code f i u = (behind code.n f (i + u + 1), u)

-- the cell, (node, column), wanted for column c after s symbols for this column
abbrev pub wanted_for : Code → ℕ → ℕ → ℕ → ℕ × ℕ
wanted_for code f c s = cond (nat_lt c code.m) (for_data code f c s) (for_coded code f (c - code.m) s)

-- the cell wanted after p symbols in all
abbrev pub wanted : Code → ℕ → ℕ → ℕ × ℕ
wanted code f p = wanted_for code f (p / code.m) (p % code.m)

-- the number of symbols that a whole round wants, m·(m + a)
abbrev pub whole : Code → ℕ
whole code = code.m * width code

-- α to the power e
abbrev pub α_power : Operations → ℕ → ℕ
α_power F e = power F F.α e

-- What the first s of the symbols y 0, y 1, .. given for column c make: in a data column the first
-- minus the sum of the others, in the coded column m + i the sum of α^(i·u) · y u.
unfoldable pub made : Operations → Code → ℕ → ℕ → (ℕ → ℕ) → ℕ
made F code c s y =
    cond (nat_lt c code.m)
    (F.sub (y 0) (sum F (s - 1) (λ u. y (u + 1))))
    (sum F s (λ u. F.mul (α_power F ((c - code.m) * u)) (y u)))

-- the finished symbol of column c: what all m symbols given for it make
abbrev pub rebuilt : Operations → Code → ℕ → (ℕ → ℕ) → ℕ
rebuilt F code c y = made F code c code.m y
