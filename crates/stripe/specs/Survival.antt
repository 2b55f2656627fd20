-- That there are runs of which the law speaks: on a store of the code's shape a file is laid, cells are lost
-- and mended, and symbols are read and changed, each call accepted.
use Rattle.std.specs.Prelude.{◌≡◌, ℕ, ◌+◌, ◌*◌, ◌<◌, ◌≤◌, false, List, [], ◌∷◌, length, Ok, Result}
use Rattle.std.specs.Prelude.{slice_index, slice_set}
use Rattle.std.specs.Borrow.{Bor}
use Rattle.field.specs.Laws.{Operations, Laws}
use Rattle.algebra.specs.Vandermonde.{Listed}
use Rattle.code.specs.declared.record.Code.{Code}
use Rattle.code.specs.declared.refusal.Refusal.{Refusal}
use Rattle.code.specs.Stripe.{IsFile, parity, width}
use Rattle.round.specs.Wanted.{whole}
use Rattle.store.specs.Meaning.{Meaning, Blank}
use Rattle.stripe.specs.declared.calls.Call.{Call}
use Rattle.stripe.specs.declared.calls.Call.TheVariants as call
use Rattle.code.specs.Work.{front}
use Rattle.stripe.specs.Reasons.{Shaped}
use Rattle.stripe.specs.Ledger.{HoldsFile}
use Rattle.stripe.specs.Law.{Wide, Run}

-- a code with these four numbers that survives the loss of any r + a nodes, and for which k > a
pub record WideCode (n k m a : ℕ) (code : Code) : Type 0 where
  pub nodes : code.n ≡ n
  pub data_nodes : code.k ≡ k
  pub data_columns : code.m ≡ m
  pub coded_columns : code.a ≡ a
  pub wide : Wide code
  pub more_data : code.a < code.k

-- For every code and every allowance there is a blank store of the code's shape.
abbrev pub BlankStores : Type 0
BlankStores =
    (code : Code) (allowance : ℕ) → (m : Meaning) × Blank m × Shaped code m × (m.allowance ≡ allowance)

-- the nodes are lost one after another, and then the other calls are made
abbrev pub losing : List ℕ → List Call → List Call
losing [] calls = calls
losing (v ∷ nodes) calls = call.LoseNode v ∷ losing nodes calls

-- each loss of a node is accepted and returns m + a, and then come the other answers
abbrev pub each_lost : Code → List ℕ → List (Result ℕ Refusal) → List (Result ℕ Refusal)
each_lost code [] answers = answers
each_lost code (v ∷ nodes) answers = Ok (width code) ∷ each_lost code nodes answers

-- A blank store, on which the file is laid, the nodes are lost, one symbol is read and all is mended with the
-- least work memory that is enough: each call is accepted, and afterwards the store holds the whole stripe.
pub record Survived (F : Operations) (code : Code) (file nodes : List ℕ) (row column : ℕ) : Type 0 where
  pub before : Meaning
  pub after : Meaning
  pub lent : Bor (List ℕ)
  pub lends : lent.now ≡ file
  pub blank : Blank before
  pub shaped : Shaped code before
  pub mended : ℕ
  pub run : Run F code before
      (call.Lay lent ∷ losing nodes (call.Read row column (front code) ∷ call.MendAll (front code) ∷ []))
      (Ok (code.n * width code)
      ∷ each_lost code nodes (Ok (slice_index file (row * code.m + column)) ∷ Ok mended ∷ []))
      after
  pub holds : HoldsFile F code after (λ j c. false) file

-- There is such a run for every field that keeps the laws, every code with n > (r + a)·max(m, a − 1), every
-- file, any r + a nodes or fewer and every symbol of the file.
abbrev pub Survival : Type 0
Survival =
    (F : Operations) → Laws F → (code : Code) → Wide code → (file : List ℕ) → IsFile F code file
    → (nodes : List ℕ) → ((v : ℕ) → Listed v nodes → v < code.n) → length nodes ≤ parity code + code.a
    → (row column : ℕ) → row < code.k → column < code.m → Survived F code file nodes row column

-- A blank store, on which the file is laid, one cell and then the whole node f are lost, node f is mended
-- and one symbol is changed: each call is accepted, and afterwards the store holds the stripe of the
-- changed file.
pub record Repaired (F : Operations) (code : Code) (file : List ℕ) (f c row column symbol : ℕ) : Type 0 where
  pub before : Meaning
  pub after : Meaning
  pub lent : Bor (List ℕ)
  pub lends : lent.now ≡ file
  pub blank : Blank before
  pub shaped : Shaped code before
  pub run : Run F code before
      (call.Lay lent ∷ call.LoseCell f c ∷ call.LoseNode f ∷ call.MendNode f
      ∷ call.Change row column symbol ∷ [])
      (Ok (code.n * width code) ∷ Ok 1 ∷ Ok (width code) ∷ Ok (whole code)
      ∷ Ok ((parity code + 1) * (code.a + 1)) ∷ [])
      after
  pub holds : HoldsFile F code after (λ j d. false) (slice_set file (row * code.m + column) symbol)

-- There is such a run for every field that keeps the laws, every code, every file, every cell, every
-- symbol of the file and every symbol that it may be changed to.
abbrev pub Repair : Type 0
Repair =
    (F : Operations) → Laws F → (code : Code) (file : List ℕ) → IsFile F code file
    → (f c : ℕ) → f < code.n → c < width code
    → (row column symbol : ℕ) → row < code.k → column < code.m → symbol < F.q
    → Repaired F code file f c row column symbol
