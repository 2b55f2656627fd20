-- The work memory that solving for a file is lent, and what it holds afterwards.
use Rattle.std.specs.Prelude.{◌≡◌, ℕ, ◌+◌, ◌*◌, ◌<◌, ◌≤◌, List, length, Ok, Err, Result, slice_index}
use Rattle.code.specs.declared.record.Code.{Code}
use Rattle.code.specs.declared.refusal.Refusal.{Refusal}
use Rattle.code.specs.declared.refusal.Refusal.TheVariants.{Bounds, Shape, Length, Work, Outside, Symbol}
use Rattle.code.specs.declared.refusal.Refusal.TheVariants.{Foreign, Lost, Contradiction, Ambiguous, Allowance}

-- the front of the work memory: k·m equations of k·m factors and a right side
abbrev pub front : Code → ℕ
front code = code.k * code.m * (code.k * code.m + 1)

-- the front is filled with zeros, and the numbers behind it are kept
pub record Cleared (code : Code) (before after : List ℕ) : Type 0 where
  pub long : length after ≡ length before
  pub zeros : (p : ℕ) → p < front code → slice_index after p ≡ 0
  pub behind : (p : ℕ) → front code ≤ p → slice_index after p ≡ slice_index before p

-- Cleared when accepted and with 7, 9, 10 and 11; untouched with every other number.
abbrev pub WorkAfter : Code → List ℕ → Result ℕ Refusal → List ℕ → Type 0
WorkAfter code before (Ok value) after = Cleared code before after
WorkAfter code before (Err Bounds) after = after ≡ before
WorkAfter code before (Err Shape) after = after ≡ before
WorkAfter code before (Err Length) after = after ≡ before
WorkAfter code before (Err Work) after = after ≡ before
WorkAfter code before (Err Outside) after = after ≡ before
WorkAfter code before (Err Symbol) after = after ≡ before
WorkAfter code before (Err (Foreign v c)) after = Cleared code before after
WorkAfter code before (Err (Lost v c)) after = after ≡ before
WorkAfter code before (Err Contradiction) after = Cleared code before after
WorkAfter code before (Err Ambiguous) after = Cleared code before after
WorkAfter code before (Err Allowance) after = Cleared code before after
