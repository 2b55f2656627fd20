-- The ledger: what can be written down by somebody who hears of every call, with its arguments and
-- whether it was accepted, and who never looks into the store.
use Rattle.std.specs.Prelude.{◌≡◌, ℕ, ◌+◌, ◌*◌, ◌<◌, Bool, true, false, not, ◌&&◌, ◌||◌, List, ◌∷◌, Some}
use Rattle.std.specs.Prelude.{None, Ok, Err, Option, Result, ◌==◌, slice_set}
use Rattle.std.specs.Option.{option_map}
use Rattle.field.specs.Laws.{Operations}
use Rattle.code.specs.declared.record.Code.{Code}
use Rattle.code.specs.declared.refusal.Refusal.{Refusal}
use Rattle.code.specs.Stripe.{Symbols, IsFile, StripeOf}
use Rattle.store.specs.Meaning.{Meaning}
use Rattle.stripe.specs.declared.calls.Call.{Call}
use Rattle.stripe.specs.declared.calls.Call.TheVariants.{Lay, Read, Change, LoseCell, LoseNode}
use Rattle.stripe.specs.declared.calls.Call.TheVariants.{MendNode, MendAll}

-- a file or none, and which cells are lost
pub record Ledger : Type 0 where
  pub file : Option (List ℕ)
  pub lost : ℕ → ℕ → Bool

-- at first there is no file, and every cell is lost
abbrev pub empty : Ledger
empty = record { file = None; lost = λ j c. true }

-- What an accepted call enters. Laying replaces the file and leaves no cell lost, a change puts its
-- symbol in place of number j·m + t, a loss puts its cells into the set, a mending takes its own out of
-- it; a read enters nothing.
abbrev pub entered : Code → Ledger → Call → Ledger
entered code l (Lay file) = record { file = Some file.now; lost = λ j c. false }
entered code l (Read row column work) = l
entered code l (Change row column symbol) =
    record { file = option_map (λ u. slice_set u (row * code.m + column) symbol) l.file; lost = l.lost }
entered code l (LoseCell node column) =
    record { file = l.file; lost = λ j c. (j == node && c == column) || l.lost j c }
entered code l (LoseNode node) = record { file = l.file; lost = λ j c. (j == node) || l.lost j c }
entered code l (MendNode node) = record { file = l.file; lost = λ j c. not (j == node) && l.lost j c }
entered code l (MendAll work) = record { file = l.file; lost = λ j c. false }

-- a declined call enters nothing
abbrev pub told : Code → Ledger → Call → Result ℕ Refusal → Ledger
told code l call (Ok value) = entered code l call
told code l call (Err e) = l

-- the ledger after a list of calls with these answers
abbrev pub ledger : Code → Ledger → List Call → List (Result ℕ Refusal) → Ledger
ledger code l (call ∷ calls) (answer ∷ answers) = ledger code (told code l call answer) calls answers
ledger code l _ _ = l

-- With a file: it is a file of the code, and each cell inside the store is lost exactly if the ledger
-- says so, and otherwise holds its symbol in the stripe of the file.
pub record HoldsFile (F : Operations) (code : Code)
    (m : Meaning) (lost : ℕ → ℕ → Bool) (file : List ℕ) : Type 0 where
  pub is_file : IsFile F code file
  pub stripe : Symbols
  pub is_stripe : StripeOf F code file stripe
  pub gone : (j c : ℕ) → j < m.nodes → c < m.columns → lost j c ≡ true → m.cell j c ≡ None
  pub held : (j c : ℕ) → j < m.nodes → c < m.columns → lost j c ≡ false → m.cell j c ≡ Some (stripe j c)

-- With no file: every cell inside the store is lost, and the ledger says so.
pub record HoldsNone (m : Meaning) (lost : ℕ → ℕ → Bool) : Type 0 where
  pub gone : (j c : ℕ) → j < m.nodes → c < m.columns → m.cell j c ≡ None
  pub said : (j c : ℕ) → j < m.nodes → c < m.columns → lost j c ≡ true

-- What the store holds is what the ledger says.
abbrev pub HoldsOr : Operations → Code → Meaning → (ℕ → ℕ → Bool) → Option (List ℕ) → Type 0
HoldsOr F code m lost None = HoldsNone m lost
HoldsOr F code m lost (Some file) = HoldsFile F code m lost file

abbrev pub Mirrors : Operations → Code → Ledger → Meaning → Type 0
Mirrors F code l m = HoldsOr F code m l.lost l.file
