-- What a store of cells means, and what a write or a loss of one cell does to it.
use Rattle.std.specs.Prelude.{◌≡◌, ℕ, ◌+◌, ◌<◌, ◌≤◌, Bool, true, false, cond, ◌&&◌, Some, None, Option, ◌==◌, nat_lt}

-- for each cell, by node and column, a number, or nothing where the cell is lost
abbrev pub Cells : Type 0
Cells = ℕ → ℕ → Option ℕ

-- a number of nodes, a number of columns, what each cell holds, and how many changes are still taken
pub record Meaning : Type 0 where
  pub nodes : ℕ
  pub columns : ℕ
  pub cell : Cells
  pub allowance : ℕ

-- whether the cell of node j, column c is inside
abbrev pub inside : Meaning → ℕ → ℕ → Bool
inside m j c = nat_lt j m.nodes && nat_lt c m.columns

-- A cell outside is told as lost, and a cell holds a number from 0 to 65,535 or is lost.
pub record Lawful (m : Meaning) : Type 0 where
  pub outside : (j c : ℕ) → inside m j c ≡ false → m.cell j c ≡ None
  pub symbols : (j c v : ℕ) → m.cell j c ≡ Some v → v < 65536

-- A store in which every cell is lost is blank.
abbrev pub Blank : Meaning → Type 0
Blank m = (j c : ℕ) → j < m.nodes → c < m.columns → m.cell j c ≡ None

-- A write or a loss is taken where there is such a cell and the allowance is not used up.
abbrev pub allowed : Meaning → ℕ → ℕ → Bool
allowed m j c = inside m j c && nat_lt 0 m.allowance

-- the cells with v in the cell of node j, column c, and the others as they are
abbrev pub put : Cells → ℕ → ℕ → Option ℕ → Cells
put f j c v i d = cond (i == j && d == c) v (f i d)

-- What a write (v is Some of the number) or a loss (v is None) of one cell leaves, and whether it says
-- that it was taken. Taken, it changes that cell alone, and takes 1 off the allowance, or nothing.
-- Not taken, it changes nothing: `most` and `least` then say that the allowance is equal.
pub record Changed (before : Meaning) (j c : ℕ) (v : Option ℕ) (taken : Bool) (after : Meaning) : Type 0 where
  pub answer : taken ≡ allowed before j c
  pub nodes : after.nodes ≡ before.nodes
  pub columns : after.columns ≡ before.columns
  pub cell : after.cell ≡ cond taken (put before.cell j c v) before.cell
  pub most : after.allowance ≤ before.allowance
  pub least : before.allowance ≤ after.allowance + cond taken 1 0

-- a number from 0 to 65,535, or none
abbrev pub IsCell : Option ℕ → Type 0
IsCell None = Unit {0}
IsCell (Some s) = s < 65536

-- What an edit of a cell that is allowed does to a store decides what it does to the meaning.
abbrev pub Edits : {S : Type 0} → (S → Meaning) → (S → ℕ → ℕ → Option ℕ → S → Type 0) → Type 0
Edits {S} meaning edited =
    (old new : S) (j c : ℕ) (v : Option ℕ)
    → IsCell v → allowed (meaning old) j c ≡ true → edited old j c v new
    → Changed (meaning old) j c v true (meaning new)

-- a relation that every value has to itself, and that two steps hand on
pub record Frames {S : Type 0} (frame : S → S → Type 0) : Type 0 where
  pub same : (s : S) → frame s s
  pub joined : (r s t : S) → frame r s → frame s t → frame r t

-- An edit of a cell that is allowed is a step of the frame.
abbrev pub Framed : {S : Type 0} → (S → Meaning) → (S → ℕ → ℕ → Option ℕ → S → Type 0)
    → (S → S → Type 0) → Type 0
Framed {S} meaning edited frame =
    (old new : S) (j c : ℕ) (v : Option ℕ)
    → IsCell v → allowed (meaning old) j c ≡ true → edited old j c v new → frame old new

-- A store that a change leaves as it is: the state after is the state before.
abbrev pub Same : {S : Type 0} → S → S → Type 0
Same old new = new ≡ old

-- What a change that is not taken leaves of a store means what it meant, and is a step of the frame.
abbrev pub Spares : {S : Type 0} → (S → Meaning) → (S → S → Type 0) → (S → S → Type 0) → Type 0
Spares {S} meaning declines frame =
    (old new : S) → declines old new → (meaning new ≡ meaning old) × frame old new
