-- Any list of calls on a stripe, and the law of it.
use Rattle.std.specs.Prelude.{◌≡◌, ℕ, ◌+◌, ◌-◌, ◌*◌, ◌<◌, ◌≤◌, max, ◌↔◌, List, [], ◌∷◌, length, Some, None}
use Rattle.std.specs.Prelude.{Ok, Err, Option, Result, ◌≢◌, slice_index}
use Rattle.field.specs.Laws.{Operations, Laws}
use Rattle.algebra.specs.Vandermonde.{Listed}
use Rattle.code.specs.declared.record.Code.{Code}
use Rattle.code.specs.declared.refusal.Refusal.{Refusal}
use Rattle.code.specs.declared.refusal.Refusal.TheVariants.{Shape, Work, Outside, Ambiguous}
use Rattle.code.specs.Refusals.{Least}
use Rattle.code.specs.Stripe.{parity, width}
use Rattle.losses.specs.Losses.{NoMoreNodes}
use Rattle.round.specs.Wanted.{wanted, whole}
use Rattle.store.specs.Meaning.{Meaning, Blank}
use Rattle.stripe.specs.declared.calls.Call.{Call}
use Rattle.stripe.specs.declared.calls.Call.TheVariants as call
use Rattle.code.specs.Held.{Inside}
use Rattle.stripe.specs.Reasons.{LayHolds, ReadHolds, ChangeHolds, LoseCellHolds, LoseNodeHolds}
use Rattle.stripe.specs.Reasons.{MendNodeHolds, MendAllHolds}
use Rattle.stripe.specs.Calls.{Lay, Read, Change, LoseCell, LoseNode, MendNode, MendAll}
use Rattle.stripe.specs.Ledger.{Ledger, empty, told, Mirrors}

-- which refusals of a call hold at a store
abbrev pub Holds : Operations → Code → Meaning → Call → Refusal → Type 0
Holds F code m (call.Lay file) = LayHolds F code m file.now
Holds F code m (call.Read row column work) = ReadHolds F code m row column work
Holds F code m (call.Change row column symbol) = ChangeHolds F code m row column symbol
Holds F code m (call.LoseCell node column) = LoseCellHolds code m node column
Holds F code m (call.LoseNode node) = LoseNodeHolds code m node
Holds F code m (call.MendNode node) = MendNodeHolds F code m node
Holds F code m (call.MendAll work) = MendAllHolds F code m work

-- One call: from what a store means, by the answer, to what it means afterwards. Ok is what an accepted call
-- returned, Err why it was declined.
abbrev pub Step : Operations → Code → Meaning → Call → Result ℕ Refusal → Meaning → Type 0
Step F code m (call.Lay file) answer m' = Lay F code file.now m answer m'
Step F code m (call.Read row column work) answer m' = Read F code row column work m answer m'
Step F code m (call.Change row column symbol) answer m' = Change F code row column symbol m answer m'
Step F code m (call.LoseCell node column) answer m' = LoseCell code node column m answer m'
Step F code m (call.LoseNode node) answer m' = LoseNode code node m answer m'
Step F code m (call.MendNode node) answer m' = MendNode F code node m answer m'
Step F code m (call.MendAll work) answer m' = MendAll F code work m answer m'

-- a list of calls with their answers: a chain of steps
abbrev pub Run : Operations → Code → Meaning → List Call → List (Result ℕ Refusal) → Meaning → Type 0
Run F code m [] [] m' = m' ≡ m
Run F code m (c ∷ calls) (answer ∷ answers) m' =
    (mid : Meaning) × Step F code m c answer mid × Run F code mid calls answers m'
Run F code m _ _ m' = ⊥

-- an accepted read returned this symbol of the ledger's file
abbrev pub SymbolRead : Code → Option (List ℕ) → ℕ → ℕ → ℕ → Type 0
SymbolRead code None row column value = ⊥
SymbolRead code (Some file) row column value = value ≡ slice_index file (row * code.m + column)

-- 3. An accepted read returned the symbol of the ledger's file at its place.
abbrev pub ReadsLedger : Code → Ledger → Call → Result ℕ Refusal → Type 0
ReadsLedger code l (call.Read row column work) (Ok value) = SymbolRead code l.file row column value
ReadsLedger code l _ _ = Unit {0}

-- a read or a mend all for which 2, 4 and 5 do not hold
abbrev pub WellFormed : Operations → Code → Meaning → Call → Type 0
WellFormed F code m c =
    (Holds F code m c Shape → ⊥) × (Holds F code m c Work → ⊥) × (Holds F code m c Outside → ⊥)

-- 4. A well-formed read was called ambiguous exactly if two files that fit the cells before it differ at its
-- place, and a well-formed mend all exactly if two different files fit them.
abbrev pub Ambiguity : Operations → Code → Meaning → Call → Result ℕ Refusal → Type 0
Ambiguity F code m (call.Read row column work) answer =
    WellFormed F code m (call.Read row column work)
    → (answer ≡ Err Ambiguous) ↔ ReadHolds F code m row column work Ambiguous
Ambiguity F code m (call.MendAll work) answer =
    WellFormed F code m (call.MendAll work)
    → (answer ≡ Err Ambiguous) ↔ MendAllHolds F code m work Ambiguous
Ambiguity F code m _ answer = Unit {0}

-- all lost cells lie within these nodes
abbrev pub LostWithin : Code → Meaning → List ℕ → Type 0
LostWithin code m nodes = (j c : ℕ) → Inside code j c → m.cell j c ≡ None → Listed j nodes

-- The stripe survives the loss of any r + a nodes: n > (r + a)·max(m, a − 1).
abbrev pub Wide : Code → Type 0
Wide code = (parity code + code.a) * max code.m (code.a - 1) < code.n

-- 5. If n > (r + a)·max(m, a − 1), no read and no mend all was called ambiguous while all lost cells lay
-- within r + a nodes.
abbrev pub EnoughLeft : Code → Meaning → Result ℕ Refusal → Type 0
EnoughLeft code m answer =
    (nodes : List ℕ) → Wide code → length nodes ≤ parity code + code.a → LostWithin code m nodes
    → answer ≢ Err Ambiguous

-- a read, a change or a mending was not accepted
abbrev pub NotAccepted : Call → Result ℕ Refusal → Type 0
NotAccepted (call.Read row column work) answer = (value : ℕ) → answer ≢ Ok value
NotAccepted (call.Change row column symbol) answer = (value : ℕ) → answer ≢ Ok value
NotAccepted (call.MendNode node) answer = (value : ℕ) → answer ≢ Ok value
NotAccepted (call.MendAll work) answer = (value : ℕ) → answer ≢ Ok value
NotAccepted _ answer = Unit {0}

-- What is promised of one call of a list: l is the ledger before it, m and m' are what the store means before
-- and after it.
pub record Promised (F : Operations) (code : Code) (l : Ledger) (m : Meaning) (c : Call)
    (answer : Result ℕ Refusal) (m' : Meaning) : Type 0 where
  -- 1. it was accepted exactly if none of its refusals held before it
  pub accepted : ((value : ℕ) × (answer ≡ Ok value)) ↔ Least (Holds F code m c) None
  -- 2. afterwards the store holds what the ledger says
  pub mirrored : Mirrors F code (told code l c answer) m'
  pub reads : ReadsLedger code l c answer
  pub ambiguity : Ambiguity F code m c answer
  pub enough_left : EnoughLeft code m answer
  -- 6. with no file, no read, no change and no mending was accepted
  pub nothing_laid : l.file ≡ None → NotAccepted c answer

-- each call of a chain keeps what is promised of it
abbrev pub Throughout : Operations → Code → Ledger → Meaning
    → List Call → List (Result ℕ Refusal) → Meaning → Type 0
Throughout F code l m [] [] m' = m' ≡ m
Throughout F code l m (c ∷ calls) (answer ∷ answers) m' =
    (mid : Meaning) × Step F code m c answer mid × Promised F code l m c answer mid
    × Throughout F code (told code l c answer) mid calls answers m'
Throughout F code l m _ _ m' = ⊥

-- Two stores that hold the same in the cells that a round for node f wants get the same symbols in node f.
abbrev pub MendingIsLocal : Type 0
MendingIsLocal =
    (F : Operations) (code : Code) (f : ℕ) (m₁ m₂ m₁' m₂' : Meaning) (v₁ v₂ : ℕ)
    → MendNode F code f m₁ (Ok v₁) m₁' → MendNode F code f m₂ (Ok v₂) m₂'
    → ((p : ℕ) → p < whole code
    → m₁.cell (wanted code f p).0 (wanted code f p).1 ≡ m₂.cell (wanted code f p).0 (wanted code f p).1)
    → (c : ℕ) → c < width code → m₁'.cell f c ≡ m₂'.cell f c

-- The law, for every field that keeps the laws and every code. 1 to 6 hold after each call of any list of
-- calls on a store that was blank, with any allowance; 7 is about the code alone: if k > a, some r + a + 1
-- nodes may not be lost.
abbrev pub LawOfCalls : Type 0
LawOfCalls =
    ((F : Operations) → Laws F
    → (code : Code) (m m' : Meaning) (calls : List Call) (answers : List (Result ℕ Refusal))
    → Blank m → Run F code m calls answers m' → Throughout F code empty m calls answers m')
    × NoMoreNodes
