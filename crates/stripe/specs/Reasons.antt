-- When each refusal of each call holds. Every condition speaks of what the store means before the call and
-- of the call's arguments; a refusal that a call does not have never holds.
use Rattle.std.specs.Prelude.{◌≡◌, ℕ, zero, suc, ◌+◌, ◌*◌, ◌<◌, ◌≤◌, List, length, Some, None, Option, ◌≢◌}
use Rattle.std.specs.Prelude.{slice_index}
use Rattle.field.specs.Laws.{Operations}
use Rattle.code.specs.declared.record.Code.{Code}
use Rattle.code.specs.declared.refusal.Refusal.{Refusal}
use Rattle.code.specs.declared.refusal.Refusal.TheVariants.{Shape, Length, Work, Outside, Symbol, Foreign}
use Rattle.code.specs.declared.refusal.Refusal.TheVariants.{Lost, Contradiction, Ambiguous, Allowance}
use Rattle.code.specs.Work.{front}
use Rattle.code.specs.Held.{Inside, ForeignAt, LostAt, First}
use Rattle.code.specs.Stripe.{Fits, parity, width}
use Rattle.theorems.specs.Change.{changed}
use Rattle.round.specs.Wanted.{wanted, whole}
use Rattle.store.specs.Meaning.{Meaning}

-- the store has exactly n nodes and exactly m + a columns
abbrev pub Shaped : Code → Meaning → Type 0
Shaped code m = (m.nodes ≡ code.n) × (m.columns ≡ width code)

-- (j, c) is the first of `count` listed cells that has a property, in the order of the list
abbrev pub FirstListed : ℕ → (ℕ → ℕ × ℕ) → (ℕ → ℕ → Type 0) → ℕ → ℕ → Type 0
FirstListed count cell P j c =
    (p : ℕ) × (p < count) × (cell p ≡ (j, c)) × P j c × ((o : ℕ) → o < p → P (cell o).0 (cell o).1 → ⊥)

-- (v, c) is one of the cells of a change at (j, t)
abbrev pub Reached : Code → ℕ → ℕ → ℕ → ℕ → Type 0
Reached code j t v c = (e i : ℕ) × (e < parity code + 1) × (i < code.a + 1) × (changed code j t e i ≡ (v, c))

-- the sum of the numbers f 0, f 1 .. f (n − 1)
abbrev pub total : ℕ → (ℕ → ℕ) → ℕ
total zero f = 0
total (suc n) f = total n f + f n

-- a present cell counts 1 among the present ones, a lost cell 1 among the lost ones
abbrev pub one_if_present : Option ℕ → ℕ
one_if_present None = 0
one_if_present (Some v) = 1

abbrev pub one_if_lost : Option ℕ → ℕ
one_if_lost None = 1
one_if_lost (Some v) = 0

-- how many of the (r + 1)·(a + 1) cells of a change at (j, t) are present
abbrev pub present_cells : Code → Meaning → ℕ → ℕ → ℕ
present_cells code m j t =
    total (parity code + 1)
    (λ e. total (code.a + 1) (λ i. one_if_present (m.cell (changed code j t e i).0 (changed code j t e i).1)))

-- how many cells of the code are lost
abbrev pub lost_cells : Code → Meaning → ℕ
lost_cells code m = total code.n (λ j. total (width code) (λ c. one_if_lost (m.cell j c)))

-- lay
abbrev pub LayHolds : Operations → Code → Meaning → List ℕ → Refusal → Type 0
LayHolds F code m file Shape = Shaped code m → ⊥
LayHolds F code m file Length = length file ≡ code.k * code.m → ⊥
LayHolds F code m file Symbol = (p : ℕ) × (p < length file) × (F.q ≤ slice_index file p)
LayHolds F code m file Allowance = m.allowance < code.n * width code
LayHolds F code m file _ = ⊥

-- read
abbrev pub ReadHolds : Operations → Code → Meaning → ℕ → ℕ → ℕ → Refusal → Type 0
ReadHolds F code m j t work Shape = Shaped code m → ⊥
ReadHolds F code m j t work Work = work < front code
ReadHolds F code m j t work Outside = (j < code.k) × (t < code.m) → ⊥
ReadHolds F code m j t work (Foreign v c) = First (Inside code) (ForeignAt F m.cell) v c
ReadHolds F code m j t work Contradiction = (u : List ℕ) → Fits F code m.cell u → ⊥
ReadHolds F code m j t work Ambiguous =
    (u v : List ℕ) × Fits F code m.cell u × Fits F code m.cell v
    × (slice_index u (j * code.m + t) ≢ slice_index v (j * code.m + t))
ReadHolds F code m j t work _ = ⊥

-- change
abbrev pub ChangeHolds : Operations → Code → Meaning → ℕ → ℕ → ℕ → Refusal → Type 0
ChangeHolds F code m j t s Shape = Shaped code m → ⊥
ChangeHolds F code m j t s Outside = (j < code.k) × (t < code.m) → ⊥
ChangeHolds F code m j t s Symbol = F.q ≤ s
ChangeHolds F code m j t s (Foreign v c) = First (Reached code j t) (ForeignAt F m.cell) v c
ChangeHolds F code m j t s (Lost v c) = (v ≡ j) × (c ≡ t) × LostAt m.cell j t
ChangeHolds F code m j t s Allowance = m.allowance < present_cells code m j t
ChangeHolds F code m j t s _ = ⊥

-- lose cell
abbrev pub LoseCellHolds : Code → Meaning → ℕ → ℕ → Refusal → Type 0
LoseCellHolds code m j c Shape = Shaped code m → ⊥
LoseCellHolds code m j c Outside = Inside code j c → ⊥
LoseCellHolds code m j c Allowance = m.allowance < 1
LoseCellHolds code m j c _ = ⊥

-- lose node
abbrev pub LoseNodeHolds : Code → Meaning → ℕ → Refusal → Type 0
LoseNodeHolds code m j Shape = Shaped code m → ⊥
LoseNodeHolds code m j Outside = code.n ≤ j
LoseNodeHolds code m j Allowance = m.allowance < width code
LoseNodeHolds code m j _ = ⊥

-- mend node
abbrev pub MendNodeHolds : Operations → Code → Meaning → ℕ → Refusal → Type 0
MendNodeHolds F code m f Shape = Shaped code m → ⊥
MendNodeHolds F code m f Outside = code.n ≤ f
MendNodeHolds F code m f (Foreign v c) = FirstListed (whole code) (wanted code f) (ForeignAt F m.cell) v c
MendNodeHolds F code m f (Lost v c) = FirstListed (whole code) (wanted code f) (LostAt m.cell) v c
MendNodeHolds F code m f Allowance = m.allowance < width code
MendNodeHolds F code m f _ = ⊥

-- mend all
abbrev pub MendAllHolds : Operations → Code → Meaning → ℕ → Refusal → Type 0
MendAllHolds F code m work Shape = Shaped code m → ⊥
MendAllHolds F code m work Work = work < front code
MendAllHolds F code m work (Foreign v c) = First (Inside code) (ForeignAt F m.cell) v c
MendAllHolds F code m work Contradiction = (u : List ℕ) → Fits F code m.cell u → ⊥
MendAllHolds F code m work Ambiguous =
    (u v : List ℕ) × Fits F code m.cell u × Fits F code m.cell v × (u ≢ v)
MendAllHolds F code m work Allowance = m.allowance < lost_cells code m
MendAllHolds F code m work _ = ⊥
