-- Whether a memory keeps the rules of the code.
use Rattle.std.specs.Prelude.{◌≡◌, ℕ, ◌+◌, ◌*◌, ◌<◌, ◌≤◌, Bool, Decides, List, length, Ok, Err, Result}
use Rattle.field.specs.Laws.{Operations, power}
use Rattle.algebra.specs.Sums.{sum}
use Rattle.code.specs.declared.record.Code.{Code}
use Rattle.code.specs.declared.refusal.Refusal.{Refusal}
use Rattle.code.specs.declared.refusal.Refusal.TheVariants.{Shape}
use Rattle.code.specs.Positions.{ahead, behind}
use Rattle.code.specs.Stripe.{Symbols, ColumnRule, GroupRule, parity, width}
use Rattle.encode.specs.Encoding.{cell_count, in_memory}

-- the column rule at column t
abbrev pub ColumnSums : Operations → Code → Symbols → ℕ → Type 0
ColumnSums F code x t = (i : ℕ) → i < parity code → sum F code.n (λ j. F.mul (power F F.α (i * j)) (x j t)) ≡ 0

-- the sum over the data columns t of α^(i·t) · x(⟨j − t − 1⟩, t)
abbrev pub group_sum : Operations → Code → Symbols → ℕ → ℕ → ℕ
group_sum F code x j i = sum F code.m (λ t. F.mul (power F F.α (i * t)) (x (behind code.n j (t + 1)) t))

-- the group rule at node j
abbrev pub GroupSums : Operations → Code → Symbols → ℕ → Type 0
GroupSums F code x j = (i : ℕ) → i < code.a → x (ahead code.n j i) (code.m + i) ≡ group_sum F code x j i

-- all cells hold symbols, and x keeps the column rule and the group rule
pub record KeepsRules (F : Operations) (code : Code) (x : Symbols) : Type 0 where
  pub symbols : (j c : ℕ) → j < code.n → c < width code → x j c < F.q
  pub columns : ColumnRule F code x
  pub groups : GroupRule F code x

-- Accepted: whether the first n·(m + a) numbers of the memory keep the rules. Declined: the memory has fewer numbers.
abbrev pub Judged : Operations → Code → List ℕ → Result Bool Refusal → Type 0
Judged F code cells (Ok answer) =
    (cell_count code ≤ length cells) × Decides answer (KeepsRules F code (in_memory code cells))
Judged F code cells (Err e) = (length cells < cell_count code) × (e ≡ Shape)
