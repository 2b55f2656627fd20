-- What the inner functions of the solver answer.
use Rattle.std.specs.Prelude.{◌≡◌, ℕ, ◌*◌, ◌<◌, ◌≤◌, ◌⊎◌, ◌↔◌, ◌≢◌}
use Rattle.std.specs.Prelude.{List, Some, None, Ok, Err, Option, Result, slice_index}
use Rattle.field.specs.Laws.{Operations}
use Rattle.code.specs.declared.record.Code.{Code}
use Rattle.code.specs.declared.refusal.Refusal.{Refusal}
use Rattle.code.specs.declared.refusal.Refusal.TheVariants.{Foreign, Contradiction, Ambiguous}
use Rattle.code.specs.Stripe.{Symbols, Held, IsFile, Fits}
use Rattle.solve.specs.Systems.{entry, Solution, Reduced}
use Rattle.code.specs.Held.{Inside, ForeignAt, First}
use Rattle.encode.specs.Encoding.{cell_count}
use Rattle.solve.specs.Cells.{Factors, Vector, Meets}
use Rattle.solve.specs.Answers.{SharedAt}

-- no present cell is foreign
abbrev pub NoForeign : Operations → Code → Held → Type 0
NoForeign F code held = (j c : ℕ) → Inside code j c → ForeignAt F held j c → ⊥

-- the solutions are the vectors that meet all listed cells
pub record Complete (F : Operations) (code : Code) (cells : List (Option ℕ)) (w : List ℕ) : Type 0 where
  pub reduced : Reduced F (code.k * code.m) (entry (code.k * code.m) w)
  pub solutions : (y : ℕ → Symbols) → Factors F code y → (u : ℕ → ℕ) → Vector F code u
      → (Solution F (code.k * code.m) (entry (code.k * code.m) w) u
      ↔ ((x : ℕ) → x < cell_count code → Meets F code y cells u x))

-- no vector meets all listed cells
abbrev pub NoneMeets : Operations → Code → List (Option ℕ) → Type 0
NoneMeets F code cells =
    (y : ℕ → Symbols) → Factors F code y → (u : ℕ → ℕ) → Vector F code u
    → ((x : ℕ) → x < cell_count code → Meets F code y cells u x) → ⊥

-- the solutions are the fitting files
pub record FitsSolve (F : Operations) (code : Code) (held : Held) (w : List ℕ) : Type 0 where
  pub proper : NoForeign F code held
  pub reduced : Reduced F (code.k * code.m) (entry (code.k * code.m) w)
  pub solutions : (u : List ℕ) → IsFile F code u
      → (Solution F (code.k * code.m) (entry (code.k * code.m) w) (λ p. slice_index u p) ↔ Fits F code held u)

-- Why there is no answer: the first foreign cell, that no file fits, or an ambiguity.
abbrev pub Fails : Operations → Code → Held → Type 0 → Refusal → Type 0
Fails F code held Open (Foreign v c) = First (Inside code) (ForeignAt F held) v c
Fails F code held Open Contradiction = NoForeign F code held × ((u : List ℕ) → Fits F code held u → ⊥)
Fails F code held Open Ambiguous = NoForeign F code held × Open
Fails F code held Open _ = ⊥

-- What building the system answers: the fitting files are its solutions, or why there is no system.
abbrev pub Built : {U : Type 0} → Operations → Code → Held → List ℕ → Result U Refusal → Type 0
Built F code held w (Ok u) = FitsSolve F code held w
Built F code held w (Err e) = Fails F code held ⊥ e

-- the right side of equation p, if its only factor is the one at p
abbrev pub Lone : ℕ → (ℕ → ℕ → ℕ) → ℕ → Option ℕ → Type 0
Lone N A p (Some v) = (A p p ≢ 0) × ((c : ℕ) → c < N → (c ≢ p) → A p c ≡ 0) × (v ≡ A p N)
Lone N A p None = (A p p ≡ 0) ⊎ ((c : ℕ) × (c < N) × (c ≢ p) × (A p c ≢ 0))

-- two fitting files differ at the place
abbrev pub DifferAt : Operations → Code → Held → ℕ → Type 0
DifferAt F code held place =
    (u v : List ℕ) × Fits F code held u × Fits F code held v × (slice_index u place ≢ slice_index v place)

-- What deciding a place answers: the symbol that all fitting files share there, or why there is none.
abbrev pub Decided : Operations → Code → Held → ℕ → Result ℕ Refusal → Type 0
Decided F code held place (Ok value) = NoForeign F code held × SharedAt F code held place value
Decided F code held place (Err e) = Fails F code held (DifferAt F code held place) e

-- two different files fit
abbrev pub TwoFit : Operations → Code → Held → Type 0
TwoFit F code held = (u v : List ℕ) × Fits F code held u × Fits F code held v × (u ≢ v)

-- The only fitting file stands in the first k·m numbers, and zeros stand behind it.
pub record OnlyFront (F : Operations) (code : Code) (held : Held) (w : List ℕ) : Type 0 where
  pub fitting : List ℕ
  pub fits : Fits F code held fitting
  pub only : (u : List ℕ) → Fits F code held u → u ≡ fitting
  pub symbols : (p : ℕ) → p < code.k * code.m → slice_index w p ≡ slice_index fitting p
  pub zeros : (p : ℕ) → code.k * code.m ≤ p → slice_index w p ≡ 0

-- What finding the only file answers: its length, with the file in the memory, or why there is none.
abbrev pub OnlyDecided : Operations → Code → Held → List ℕ → Result ℕ Refusal → Type 0
OnlyDecided F code held w (Ok n) = NoForeign F code held × (n ≡ code.k * code.m) × OnlyFront F code held w
OnlyDecided F code held w (Err e) = Fails F code held (TwoFit F code held) e
