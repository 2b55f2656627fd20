-- What each of the seven calls answers, and what the store means afterwards.
use Rattle.std.specs.Prelude.{◌≡◌, ℕ, ◌+◌, ◌*◌, ◌<◌, ◌≤◌, cond, ◌&&◌, List, Some, None, Ok, Err, Result, ◌==◌}
use Rattle.std.specs.Prelude.{nat_lt, slice_index}
use Rattle.std.specs.Option.{option_map, unwrap_or}
use Rattle.field.specs.Laws.{Operations}
use Rattle.code.specs.declared.record.Code.{Code}
use Rattle.code.specs.declared.refusal.Refusal.{Refusal}
use Rattle.code.specs.Refusals.{Least}
use Rattle.code.specs.Stripe.{Symbols, StripeOf, Fits, width}
use Rattle.theorems.specs.Linear.{SingleFile}
use Rattle.round.specs.Wanted.{wanted, rebuilt, whole}
use Rattle.store.specs.Meaning.{Meaning, Cells, put}
use Rattle.code.specs.Held.{Inside}
use Rattle.stripe.specs.Reasons.{Reached, LayHolds, ReadHolds, ChangeHolds, LoseCellHolds, LoseNodeHolds}
use Rattle.stripe.specs.Reasons.{MendNodeHolds, MendAllHolds, present_cells, lost_cells}

-- The answer of a call. It is accepted exactly if none of its refusals holds, and then it has done its work
-- with this value; otherwise it is declined with the smallest number that holds, and nothing has changed.
abbrev pub Answers : (Refusal → Type 0) → (ℕ → Meaning → Type 0)
    → Meaning → Result ℕ Refusal → Meaning → Type 0
Answers Holds Done before (Ok value) after = Least Holds None × Done value after
Answers Holds Done before (Err e) after = Least Holds (Some e) × (after ≡ before)

-- The store has the shape that it had, and its allowance is at most what it was, and at least that less the
-- number of cells written or lost.
pub record Kept (before : Meaning) (count : ℕ) (after : Meaning) : Type 0 where
  pub nodes : after.nodes ≡ before.nodes
  pub columns : after.columns ≡ before.columns
  pub most : after.allowance ≤ before.allowance
  pub least : before.allowance ≤ after.allowance + count

-- Lay: every cell holds its symbol in the stripe of the file.
pub record Laid (F : Operations) (code : Code) (file : List ℕ)
    (before : Meaning) (value : ℕ) (after : Meaning) : Type 0 where
  pub returned : value ≡ code.n * width code
  pub kept : Kept before (code.n * width code) after
  pub stripe : Symbols
  pub is_stripe : StripeOf F code file stripe
  pub cells : (j c : ℕ) → Inside code j c → after.cell j c ≡ Some (stripe j c)
  pub others : (j c : ℕ) → (Inside code j c → ⊥) → after.cell j c ≡ before.cell j c

abbrev pub Lay : Operations → Code → List ℕ → Meaning → Result ℕ Refusal → Meaning → Type 0
Lay F code file before answer after =
    Answers (LayHolds F code before file) (Laid F code file before) before answer after

-- Read: some file fits, all fitting files have this symbol at (j, t), and the store is as it was.
pub record Told (F : Operations) (code : Code) (j t : ℕ)
    (before : Meaning) (value : ℕ) (after : Meaning) : Type 0 where
  pub same : after ≡ before
  pub fitting : List ℕ
  pub fits : Fits F code before.cell fitting
  pub shared : (u : List ℕ) → Fits F code before.cell u → slice_index u (j * code.m + t) ≡ value

abbrev pub Read : Operations → Code → ℕ → ℕ → ℕ → Meaning → Result ℕ Refusal → Meaning → Type 0
Read F code j t work before answer after =
    Answers (ReadHolds F code before j t work) (Told F code j t before) before answer after

-- Change: x(j, t) is what the store holds there. Each present cell of the change is increased by the same
-- cell of another stripe: of the file that is s − x(j, t) at (j, t) and 0 in every other place. Lost
-- cells stay lost.
pub record Shifted (F : Operations) (code : Code) (j t s : ℕ)
    (before : Meaning) (value : ℕ) (after : Meaning) : Type 0 where
  pub returned : value ≡ present_cells code before j t
  pub kept : Kept before (present_cells code before j t) after
  pub old : ℕ
  pub held : before.cell j t ≡ Some old
  pub step : List ℕ
  pub is_step : SingleFile F code (j * code.m + t) (F.sub s old) step
  pub stripe : Symbols
  pub is_stripe : StripeOf F code step stripe
  pub cells : (v c : ℕ) → Reached code j t v c
      → after.cell v c ≡ option_map (λ x. F.add x (stripe v c)) (before.cell v c)
  pub others : (v c : ℕ) → (Reached code j t v c → ⊥) → after.cell v c ≡ before.cell v c

abbrev pub Change : Operations → Code → ℕ → ℕ → ℕ → Meaning → Result ℕ Refusal → Meaning → Type 0
Change F code j t s before answer after =
    Answers (ChangeHolds F code before j t s) (Shifted F code j t s before) before answer after

-- Lose cell: that cell is lost.
pub record CellLost (code : Code) (j c : ℕ) (before : Meaning) (value : ℕ) (after : Meaning) : Type 0 where
  pub returned : value ≡ 1
  pub kept : Kept before 1 after
  pub cells : after.cell ≡ put before.cell j c None

abbrev pub LoseCell : Code → ℕ → ℕ → Meaning → Result ℕ Refusal → Meaning → Type 0
LoseCell code j c before answer after =
    Answers (LoseCellHolds code before j c) (CellLost code j c before) before answer after

-- the cells with all those of node j lost
abbrev pub without_node : Code → Cells → ℕ → Cells
without_node code cells j i d = cond (i == j && nat_lt d (width code)) None (cells i d)

-- Lose node: all m + a cells of the node are lost.
pub record NodeLost (code : Code) (j : ℕ) (before : Meaning) (value : ℕ) (after : Meaning) : Type 0 where
  pub returned : value ≡ width code
  pub kept : Kept before (width code) after
  pub cells : after.cell ≡ without_node code before.cell j

abbrev pub LoseNode : Code → ℕ → Meaning → Result ℕ Refusal → Meaning → Type 0
LoseNode code j before answer after =
    Answers (LoseNodeHolds code before j) (NodeLost code j before) before answer after

-- what the store holds in the s-th cell that a round for node f wants for column c
abbrev pub read_for : Code → Meaning → ℕ → ℕ → ℕ → ℕ
read_for code m f c s =
    unwrap_or (m.cell (wanted code f (c * code.m + s)).0 (wanted code f (c * code.m + s)).1) 0

-- Mend node: each cell of node f holds what a round makes of the cells that it wants, as the store holds
-- them.
pub record NodeMended (F : Operations) (code : Code) (f : ℕ)
    (before : Meaning) (value : ℕ) (after : Meaning) : Type 0 where
  pub returned : value ≡ whole code
  pub kept : Kept before (width code) after
  pub cells : (c : ℕ) → c < width code → after.cell f c ≡ Some (rebuilt F code c (read_for code before f c))
  pub others : (j c : ℕ) → ((j ≡ f) × (c < width code) → ⊥) → after.cell j c ≡ before.cell j c

abbrev pub MendNode : Operations → Code → ℕ → Meaning → Result ℕ Refusal → Meaning → Type 0
MendNode F code f before answer after =
    Answers (MendNodeHolds F code before f) (NodeMended F code f before) before answer after

-- Mend all: each lost cell holds its symbol in the stripe of the only fitting file; present cells stay.
pub record AllMended (F : Operations) (code : Code)
    (before : Meaning) (value : ℕ) (after : Meaning) : Type 0 where
  pub returned : value ≡ lost_cells code before
  pub kept : Kept before (lost_cells code before) after
  pub fitting : List ℕ
  pub fits : Fits F code before.cell fitting
  pub only : (u : List ℕ) → Fits F code before.cell u → u ≡ fitting
  pub lost : (j c : ℕ) → Inside code j c → before.cell j c ≡ None → after.cell j c ≡ Some (fits.stripe j c)
  pub present : (j c v : ℕ) → Inside code j c → before.cell j c ≡ Some v → after.cell j c ≡ Some v
  pub others : (j c : ℕ) → (Inside code j c → ⊥) → after.cell j c ≡ before.cell j c

abbrev pub MendAll : Operations → Code → ℕ → Meaning → Result ℕ Refusal → Meaning → Type 0
MendAll F code work before answer after =
    Answers (MendAllHolds F code before work) (AllMended F code before) before answer after
