-- Equations one behind another in a list of numbers, and what they say of their unknowns.
use Rattle.std.specs.Prelude.{◌≡◌, ◌≢◌, ℕ, ◌+◌, ◌*◌, ◌<◌, List, slice_index, Option, MatchOption, ◌≤◌}

-- The number at column c of a row, where a row has the factors of so many unknowns and the right side
-- behind them.
abbrev pub entry : ℕ → List ℕ → ℕ → ℕ → ℕ
entry unknowns numbers row c = slice_index numbers (row * (unknowns + 1) + c)

-- the unknown p has a factor in the row, and no other has
pub record Alone (unknowns : ℕ) (numbers : List ℕ) (row p : ℕ) : Type 0 where
  pub inside : p < unknowns
  pub own : entry unknowns numbers row p ≢ 0
  pub others : (c : ℕ) → c < unknowns → c ≢ p → entry unknowns numbers row c ≡ 0

-- What the first `rank` rows say of the unknown p: the right side of one in which it is alone, if there is
-- such a row.
abbrev pub Said : ℕ → List ℕ → ℕ → ℕ → Option ℕ → Type 0
Said unknowns numbers rank p answer = MatchOption answer
    ((row : ℕ) → row < rank → Alone unknowns numbers row p → ⊥)
    (λ v. (row : ℕ) × (row < rank) × Alone unknowns numbers row p × (v ≡ entry unknowns numbers row unknowns))

-- in the rows behind the first `rank` of `count` the right side is 0
abbrev pub Consistent : ℕ → List ℕ → ℕ → ℕ → Type 0
Consistent unknowns numbers rank count = (row : ℕ) → rank ≤ row → row < count
    → entry unknowns numbers row unknowns ≡ 0
