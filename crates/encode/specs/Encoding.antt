-- What encoding a file answers, and what stands in the memory afterwards.
use Rattle.std.specs.Prelude.{◌≡◌, ℕ, ◌+◌, ◌*◌, ◌<◌, ◌≤◌, List, length, Some, None, Ok, Err, Result, slice_index}
use Rattle.field.specs.Laws.{Operations}
use Rattle.code.specs.declared.record.Code.{Code}
use Rattle.code.specs.declared.refusal.Refusal.{Refusal}
use Rattle.code.specs.declared.refusal.Refusal.TheVariants.{Bounds, Shape, Length, Work, Outside, Symbol}
use Rattle.code.specs.declared.refusal.Refusal.TheVariants.{Foreign, Lost, Contradiction, Ambiguous, Allowance}
use Rattle.code.specs.Refusals.{Least}
use Rattle.code.specs.Stripe.{Symbols, StripeOf, width}

-- how many cells a code has: n·(m + a)
abbrev pub cell_count : Code → ℕ
cell_count code = code.n * width code

-- the symbols that stand in a memory: cell (j, c) at number j·(m + a) + c
abbrev pub in_memory : Code → List ℕ → Symbols
in_memory code cells j c = slice_index cells (j * width code + c)

-- When each refusal holds of a file and a memory of so many numbers: the memory is shorter than the cells,
-- the file's length is not k·m, a symbol of the file is q or more.
abbrev pub Declined : Operations → Code → List ℕ → ℕ → Refusal → Type 0
Declined F code file room Bounds = ⊥
Declined F code file room Shape = room < cell_count code
Declined F code file room Length = length file ≡ code.k * code.m → ⊥
Declined F code file room Work = ⊥
Declined F code file room Outside = ⊥
Declined F code file room Symbol = (p : ℕ) × (p < length file) × (F.q ≤ slice_index file p)
Declined F code file room (Foreign node column) = ⊥
Declined F code file room (Lost node column) = ⊥
Declined F code file room Contradiction = ⊥
Declined F code file room Ambiguous = ⊥
Declined F code file room Allowance = ⊥

-- The memory after: the stripe of the file in its first n·(m + a) numbers, and the others as before.
pub record Holding (F : Operations) (code : Code) (file before after : List ℕ) : Type 0 where
  pub stripe : StripeOf F code file (in_memory code after)
  pub long : length after ≡ length before
  pub kept : (p : ℕ) → cell_count code ≤ p → slice_index after p ≡ slice_index before p

-- Accepted: no refusal holds, the answer is the number of cells, and the memory holds the stripe.
-- Declined: the refusal with the smallest number of those that hold, and the memory is as before.
abbrev pub Encoded : Operations → Code → List ℕ → List ℕ → Result ℕ Refusal → List ℕ → Type 0
Encoded F code file before (Ok v) after =
    Least (Declined F code file (length before)) None × (v ≡ cell_count code) × Holding F code file before after
Encoded F code file before (Err e) after = Least (Declined F code file (length before)) (Some e) × (after ≡ before)
