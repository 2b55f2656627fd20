-- What is answered for a place and for a whole file, and what the work memory holds afterwards.
use Rattle.std.specs.Prelude.{◌≡◌, ℕ, ◌+◌, ◌*◌, ◌<◌, ◌≤◌, List, length, Some, None, Ok, Err, Result, ◌≢◌, slice_index}
use Rattle.field.specs.Laws.{Operations}
use Rattle.code.specs.declared.record.Code.{Code}
use Rattle.code.specs.declared.refusal.Refusal.{Refusal}
use Rattle.code.specs.declared.refusal.Refusal.TheVariants.{Work, Outside, Foreign, Contradiction, Ambiguous}
use Rattle.code.specs.Refusals.{Least}
use Rattle.code.specs.Stripe.{Held, Fits}
use Rattle.code.specs.Work.{front, WorkAfter}
use Rattle.code.specs.Held.{Inside, ForeignAt, First}

-- When each refusal holds for the place (row, column), with so many numbers of work memory: the memory is below the
-- front, the place is outside, a present cell is foreign, no file fits, two fitting files differ at the place.
abbrev pub SharedHolds : Operations → Code → Held → ℕ → ℕ → ℕ → Refusal → Type 0
SharedHolds F code held row column work Work = work < front code
SharedHolds F code held row column work Outside = (row < code.k) × (column < code.m) → ⊥
SharedHolds F code held row column work (Foreign v c) = First (Inside code) (ForeignAt F held) v c
SharedHolds F code held row column work Contradiction = (u : List ℕ) → Fits F code held u → ⊥
SharedHolds F code held row column work Ambiguous =
    (u v : List ℕ) × Fits F code held u × Fits F code held v
    × (slice_index u (row * code.m + column) ≢ slice_index v (row * code.m + column))
SharedHolds F code held row column work _ = ⊥

-- Some file fits, and all fitting files have this symbol at the place.
pub record SharedAt (F : Operations) (code : Code) (held : Held) (place value : ℕ) : Type 0 where
  pub fitting : List ℕ
  pub fits : Fits F code held fitting
  pub shared : (u : List ℕ) → Fits F code held u → slice_index u place ≡ value

-- Accepted exactly if no refusal holds, with the symbol that all fitting files share; otherwise the smallest number that
-- holds.
abbrev pub SharedSymbol : Operations → Code → Held → ℕ → ℕ → ℕ → Result ℕ Refusal → Type 0
SharedSymbol F code held row column work (Ok value) =
    Least (SharedHolds F code held row column work) None × SharedAt F code held (row * code.m + column) value
SharedSymbol F code held row column work (Err e) = Least (SharedHolds F code held row column work) (Some e)

-- When each refusal holds for the whole file: here 10 holds where two different files fit.
abbrev pub OnlyHolds : Operations → Code → Held → ℕ → Refusal → Type 0
OnlyHolds F code held work Work = work < front code
OnlyHolds F code held work (Foreign v c) = First (Inside code) (ForeignAt F held) v c
OnlyHolds F code held work Contradiction = (u : List ℕ) → Fits F code held u → ⊥
OnlyHolds F code held work Ambiguous = (u v : List ℕ) × Fits F code held u × Fits F code held v × (u ≢ v)
OnlyHolds F code held work _ = ⊥

-- The only fitting file stands in the first k·m numbers, zeros stand in the rest of the front, and the numbers behind
-- are kept.
pub record OnlyIn (F : Operations) (code : Code) (held : Held) (before after : List ℕ) : Type 0 where
  pub fitting : List ℕ
  pub fits : Fits F code held fitting
  pub only : (u : List ℕ) → Fits F code held u → u ≡ fitting
  pub long : length after ≡ length before
  pub symbols : (p : ℕ) → p < code.k * code.m → slice_index after p ≡ slice_index fitting p
  pub zeros : (p : ℕ) → code.k * code.m ≤ p → p < front code → slice_index after p ≡ 0
  pub behind : (p : ℕ) → front code ≤ p → slice_index after p ≡ slice_index before p

-- Accepted exactly if no refusal holds, with k·m and the file in work memory; otherwise the smallest number that holds,
-- with the work memory untouched (4) or cleared.
abbrev pub OnlyFile : Operations → Code → Held → List ℕ → Result ℕ Refusal → List ℕ → Type 0
OnlyFile F code held before (Ok count) after =
    Least (OnlyHolds F code held (length before)) None × (count ≡ code.k * code.m) × OnlyIn F code held before after
OnlyFile F code held before (Err e) after =
    Least (OnlyHolds F code held (length before)) (Some e) × WorkAfter code before (Err e) after
