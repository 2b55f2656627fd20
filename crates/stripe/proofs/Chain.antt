-- The law: each call of a list keeps what is promised of it.
use Rattle.std.proofs.lemmas.Grind.{common_steps}
use Rattle.std.proofs.Common.{◌≡◌, ℕ, ◌+◌, ◌*◌, Bool, List, ◌∷◌, get_or, Some, None, Ok, Err, Option, Result, sym, refl, ap, subst, arith}
use Rattle.field.specs.Laws.{Operations, Laws}
use Rattle.code.specs.declared.record.Code.{Code}
use Rattle.code.specs.declared.refusal.Refusal.{Refusal}
use Rattle.code.specs.declared.refusal.Refusal.TheVariants.{Ambiguous}
use Rattle.code.specs.Stripe.{Fits}
use Rattle.losses.proofs.Limit.{no_more_nodes}
use Rattle.store.specs.Meaning.{Meaning, Blank}
use Rattle.stripe.specs.declared.calls.Call.{Call}
use Rattle.stripe.specs.declared.calls.Call.TheVariants as call
use Rattle.stripe.specs.Reasons.{ReadHolds, MendAllHolds}
use Rattle.stripe.specs.Calls.{Answers, Laid, Told, Shifted, CellLost, NodeLost, NodeMended, AllMended}
use Rattle.stripe.specs.Ledger.{Ledger, empty, entered, told, HoldsNone, HoldsOr, Mirrors}
use Rattle.stripe.specs.Law.{Holds, Step, Run, ReadsLedger, Ambiguity, EnoughLeft, NotAccepted, Promised, Throughout, LawOfCalls}
use Rattle.stripe.proofs.Answered.{declined, accepted_iff, answered_holds, ambiguous_iff}
use Rattle.stripe.proofs.Fitting.{one_fits}
use Rattle.stripe.proofs.Laying.{lay_mirrors}
use Rattle.stripe.proofs.Losing.{lose_cell_mirrors, lose_node_mirrors}
use Rattle.stripe.proofs.Reading.{read_lower, mend_lower, reads_symbol, nothing_to_mend, mend_all_mirrors}
use Rattle.stripe.proofs.Changing.{nothing_to_change, change_mirrors}
use Rattle.stripe.proofs.Mending.{nothing_to_rebuild, mend_node_mirrors}

-- the ledger with a file or none, and with these lost cells
abbrev book : Option (List ℕ) → (ℕ → ℕ → Bool) → Ledger
book file lost = record { file = file; lost = lost }

-- a ledger has a file or has none
some_file : (file : List ℕ) → ◌≡◌ {A = Option (List ℕ)} (Some file) None → ⊥
some_file file e = let z : ◌≡◌ {A = ℕ} 0 1 = cc in omega arith

module _ (F : Operations) (L : Laws F) (code : Code) where
  -- A call's effect on the store, if it is accepted.
  abbrev Done : Meaning → Call → ℕ → Meaning → Type 0
  Done m (call.Lay file) = Laid F code file.now m
  Done m (call.Read row column work) = Told F code row column m
  Done m (call.Change row column symbol) = Shifted F code row column symbol m
  Done m (call.LoseCell node column) = CellLost code node column m
  Done m (call.LoseNode node) = NodeLost code node m
  Done m (call.MendNode node) = NodeMended F code node m
  Done m (call.MendAll work) = AllMended F code m

  -- every step is an answer by the call's refusals and its effect
  as_answer : (m : Meaning) (c : Call) (answer : Result ℕ Refusal) (m' : Meaning) → Step F code m c answer m'
      → Answers (Holds F code m c) (Done m c) m answer m'
  as_answer m c answer m' S = grind (arith, common_steps)

  -- After an accepted call the store holds what the ledger then says.
  entered_mirrors : (file : Option (List ℕ)) (lost : ℕ → ℕ → Bool) (m : Meaning) (c : Call) (value : ℕ) (m' : Meaning)
      → HoldsOr F code m lost file → ((e : Refusal) → Holds F code m c e → ⊥) → Done m c value m'
      → Mirrors F code (entered code (book file lost) c) m'
  entered_mirrors file lost m (call.Lay u) value m' H none D = lay_mirrors F code m m' u.now value none D
  entered_mirrors file lost m (call.Read row column work) value m' H none D =
      subst (λ x. HoldsOr F code x lost file) (sym D.same) H
  entered_mirrors None lost m (call.Change row column symbol) value m' H none D =
      absurd (nothing_to_change F code m lost H row column symbol value m' none D)
  entered_mirrors (Some file) lost m (call.Change row column symbol) value m' H none D =
      change_mirrors F L code m lost file H row column symbol value m' none D
  entered_mirrors file lost m (call.LoseCell node column) value m' H none D =
      lose_cell_mirrors F code m m' lost file node column value D H
  entered_mirrors file lost m (call.LoseNode node) value m' H none D =
      lose_node_mirrors F code m m' lost file node value none D H
  entered_mirrors None lost m (call.MendNode node) value m' H none D = absurd (nothing_to_rebuild F code m lost H node none)
  entered_mirrors (Some file) lost m (call.MendNode node) value m' H none D =
      mend_node_mirrors F L code m lost file H node value m' none D
  entered_mirrors None lost m (call.MendAll work) value m' H none D =
      absurd (nothing_to_mend F L code m lost H work value m' none D)
  entered_mirrors (Some file) lost m (call.MendAll work) value m' H none D =
      mend_all_mirrors F L code m lost file H work value m' none D

  -- So it does after any call; a declined one changes neither.
  told_mirrors : (l : Ledger) (m : Meaning) (c : Call) (answer : Result ℕ Refusal) (m' : Meaning) → Mirrors F code l m
      → Answers (Holds F code m c) (Done m c) m answer m' → Mirrors F code (told code l c answer) m'
  told_mirrors l m c (Ok value) m' H A = entered_mirrors l.file l.lost m c value m' H A.0 A.1
  told_mirrors l m c (Err e) m' H A = subst (λ x. Mirrors F code l x) (sym A.1) H

  -- An accepted read returned the symbol of the ledger's file.
  reads_ledger : (l : Ledger) (m : Meaning) (c : Call) (answer : Result ℕ Refusal) (m' : Meaning) → Mirrors F code l m
      → Answers (Holds F code m c) (Done m c) m answer m' → ReadsLedger code l c answer
  reads_ledger l m (call.Read row column work) (Ok value) m' H A =
      reads_symbol F L code m l.lost l.file H row column work value m' A.0 A.1
  reads_ledger l m _ answer m' H A = tt

  -- A well-formed read or mend all was called ambiguous exactly if it is.
  ambiguity : (l : Ledger) (m : Meaning) (c : Call) (answer : Result ℕ Refusal) (m' : Meaning) → Mirrors F code l m
      → Answers (Holds F code m c) (Done m c) m answer m' → Ambiguity F code m c answer
  ambiguity l m (call.Read row column work) answer m' H A = λ well.
      ambiguous_iff (ReadHolds F code m row column work) (Told F code row column m) m m'
      (read_lower F L code m l.lost l.file H row column work well.0 well.1 well.2) answer A
  ambiguity l m (call.MendAll work) answer m' H A = λ well.
      ambiguous_iff (MendAllHolds F code m work) (AllMended F code m) m m'
      (mend_lower F L code m l.lost l.file H work well.0 well.1) answer A
  ambiguity l m _ answer m' H A = tt

  -- if any two fitting files are equal, no call is ambiguous
  one_file : (m : Meaning) (c : Call)
      → ((u v : List ℕ) → Fits F code m.cell u → Fits F code m.cell v → u ≡ v) → Holds F code m c Ambiguous → ⊥
  one_file m (call.Read row column work) one h =
      h.4 (ap (λ u. get_or u (row * code.m + column) 0) (one h.0 h.1 h.2 h.3))
  one_file m (call.MendAll work) one h = h.4 (one h.0 h.1 h.2 h.3)
  one_file m _ one h = h

  -- While all lost cells lie within r + a nodes, no call is ambiguous.
  enough_left : (m : Meaning) (c : Call) (answer : Result ℕ Refusal) (m' : Meaning)
      → Answers (Holds F code m c) (Done m c) m answer m' → EnoughLeft code m answer
  enough_left m c answer m' A nodes wide few within is =
      one_file m c (one_fits F L code m nodes wide few within)
      (answered_holds (Holds F code m c) (Done m c) m m' answer A Ambiguous is)

  -- Where the ledger has no file, reads, changes and mendings are declined ..
  not_without : (lost : ℕ → ℕ → Bool) (m : Meaning) (c : Call) (value : ℕ) (m' : Meaning) → HoldsNone m lost
      → ((e : Refusal) → Holds F code m c e → ⊥) → Done m c value m' → NotAccepted c (Ok value)
  not_without lost m (call.Read row column work) value m' H none D =
      absurd (reads_symbol F L code m lost None H row column work value m' none D)
  not_without lost m (call.Change row column symbol) value m' H none D =
      absurd (nothing_to_change F code m lost H row column symbol value m' none D)
  not_without lost m (call.MendNode node) value m' H none D = absurd (nothing_to_rebuild F code m lost H node none)
  not_without lost m (call.MendAll work) value m' H none D = absurd (nothing_to_mend F L code m lost H work value m' none D)
  not_without lost m _ value m' H none D = tt

  -- a declined call was not accepted
  not_declined : (c : Call) (e : Refusal) → NotAccepted c (Err e)
  not_declined c e = grind (arith, common_steps, declined)

  -- .. so none of them was accepted.
  nothing_laid : (file : Option (List ℕ)) (lost : ℕ → ℕ → Bool) (m : Meaning) (c : Call) (answer : Result ℕ Refusal) (m' : Meaning)
      → HoldsOr F code m lost file → Answers (Holds F code m c) (Done m c) m answer m' → file ≡ None → NotAccepted c answer
  nothing_laid file lost m c (Err e) m' H A is = not_declined c e
  nothing_laid None lost m c (Ok value) m' H A is = not_without lost m c value m' H A.0 A.1
  nothing_laid (Some file) lost m c (Ok value) m' H A is = absurd (some_file file is)

  -- each step from a store that holds what the ledger says keeps what is promised
  step_promised : (l : Ledger) (m : Meaning) (c : Call) (answer : Result ℕ Refusal) (m' : Meaning) → Mirrors F code l m
      → Step F code m c answer m' → Promised F code l m c answer m'
  step_promised l m c answer m' H S = record {
    accepted = accepted_iff (Holds F code m c) (Done m c) m m' answer A;
    mirrored = told_mirrors l m c answer m' H A;
    reads = reads_ledger l m c answer m' H A;
    ambiguity = ambiguity l m c answer m' H A;
    enough_left = enough_left m c answer m' A;
    nothing_laid = nothing_laid l.file l.lost m c answer m' H A;
  }
    where
      A : Answers (Holds F code m c) (Done m c) m answer m'
      A = as_answer m c answer m' S

  -- and so does each step of a list of calls
  pub throughout : (l : Ledger) (m : Meaning) (calls : List Call) (answers : List (Result ℕ Refusal)) (m' : Meaning)
      → Mirrors F code l m → Run F code m calls answers m' → Throughout F code l m calls answers m'
  throughout l m (c ∷ calls) (answer ∷ answers) m' H R =
      let kept = step_promised l m c answer R.0 H R.1 in
      (R.0, R.1, kept, throughout (told code l c answer) R.0 calls answers m' kept.mirrored R.2)
  throughout l m _ _ m' H R = R

-- a blank store holds what the empty ledger says
blank_mirrors : (F : Operations) (code : Code) (m : Meaning) → Blank m → Mirrors F code empty m
blank_mirrors F code m blank = record { gone = blank; said = λ j c lj lc. refl }

-- The law over any list of calls.
pub calls_law : LawOfCalls
calls_law = grind (arith, common_steps, blank_mirrors, no_more_nodes, throughout)
