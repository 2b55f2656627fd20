-- The answers of a read, a mend all and a change at a store that some file fits.
use Rattle.std.proofs.lemmas.Grind.{common_steps}
use Rattle.std.proofs.Common.{◌≡◌, ℕ, ◌+◌, ◌*◌, ◌<◌, ◌≤◌, List, get_or, Some, Ok, Err, Result, refl, ap, subst, arith, lit≤}
use Rattle.field.specs.Laws.{Operations}
use Rattle.code.specs.declared.record.Code.{Code}
use Rattle.code.specs.declared.refusal.Refusal.{Refusal}
use Rattle.code.specs.declared.refusal.Refusal.TheVariants.{Shape, Work, Outside, Symbol, Foreign, Lost, Contradiction, Ambiguous, Allowance}
use Rattle.code.specs.Refusals.{number}
use Rattle.code.specs.Stripe.{Fits}
use Rattle.theorems.proofs.Reached.{change_differs}
use Rattle.store.specs.Meaning.{Meaning}
use Rattle.code.specs.Work.{front}
use Rattle.code.specs.Held.{Inside, ForeignAt}
use Rattle.stripe.specs.Reasons.{Shaped, Reached, ReadHolds, ChangeHolds, MendAllHolds, present_cells}
use Rattle.stripe.specs.Calls.{Read, MendAll}
use Rattle.examples.specs.Examples.{Only}

module _ (F : Operations) (code : Code) (m : Meaning) (shaped : Shaped code m) (u : List ℕ) (U : Fits F code m.cell u) where
  -- The cells of the code hold symbols.
  none_foreign : (v c : ℕ) → Inside code v c → ForeignAt F m.cell v c → ⊥
  none_foreign v c inside (w, held, large) =
      omega (arith, U.agrees v c w inside.0 inside.1 held, U.is_stripe.symbols v c inside.0 inside.1)

  -- A read can only be ambiguous.
  read_refused : (j t : ℕ) → j < code.k → t < code.m → (e : Refusal) → ReadHolds F code m j t (front code) e → e ≡ Ambiguous
  read_refused j t lj lt Shape h = absurd (h shaped)
  read_refused j t lj lt Work h = absurd (omega arith)
  read_refused j t lj lt Outside h = absurd (h (lj, lt))
  read_refused j t lj lt (Foreign v c) h = absurd (none_foreign v c h.0 h.1)
  read_refused j t lj lt Contradiction h = absurd (h u U)
  read_refused j t lj lt Ambiguous h = refl
  read_refused j t lj lt _ h = absurd h

  -- A mend all can only be ambiguous, or have too small an allowance, which has a larger number.
  mend_all_refused : (e : Refusal) → MendAllHolds F code m (front code) e → (10 ≤ number e) × (number e ≤ 10 → e ≡ Ambiguous)
  mend_all_refused Shape h = absurd (h shaped)
  mend_all_refused Work h = absurd (omega arith)
  mend_all_refused (Foreign v c) h = absurd (none_foreign v c h.0 h.1)
  mend_all_refused Contradiction h = absurd (h u U)
  mend_all_refused Ambiguous h = (lit≤ tt, λ l. refl)
  mend_all_refused Allowance h = (lit≤ tt, λ l. absurd (omega arith))
  mend_all_refused _ h = absurd h

  pub read_ambiguous : (j t : ℕ) → j < code.k → t < code.m → (w : List ℕ) → Fits F code m.cell w
      → (get_or u (j * code.m + t) 0 ≡ get_or w (j * code.m + t) 0 → ⊥) → Only (Read F code j t (front code) m) (Err Ambiguous)
  read_ambiguous j t lj lt w W differ = grind (arith, common_steps, read_refused)

  pub read_told : (j t value : ℕ) → j < code.k → t < code.m
      → ((w : List ℕ) → Fits F code m.cell w → get_or w (j * code.m + t) 0 ≡ value) → Only (Read F code j t (front code) m) (Ok value)
  read_told j t value lj lt shared = grind (arith, common_steps, read_refused)

  pub mend_all_ambiguous : (w : List ℕ) → Fits F code m.cell w → (u ≡ w → ⊥) → Only (MendAll F code (front code) m) (Err Ambiguous)
  mend_all_ambiguous w W differ = ((m, (((u, w, U, W, differ), λ e h. (mend_all_refused e h).0), refl)), only)
    where
      only : (other : Result ℕ Refusal) (after : Meaning) → MendAll F code (front code) m other after → other ≡ Err Ambiguous
      only (Ok value) after done = absurd (done.0 Ambiguous (u, w, U, W, differ))
      only (Err e) after declined =
          ap Err ((mend_all_refused e declined.0.0).1 (declined.0.1 Ambiguous (u, w, U, W, differ)))

  -- No refusal of a change holds where its cell is present and the allowance suffices.
  pub change_taken : (j t s old : ℕ) → j < code.k → t < code.m → s < F.q → m.cell j t ≡ Some old
      → present_cells code m j t ≤ m.allowance → (e : Refusal) → ChangeHolds F code m j t s e → ⊥
  change_taken j t s old lj lt ls held enough Shape h = h shaped
  change_taken j t s old lj lt ls held enough Outside h = h (lj, lt)
  change_taken j t s old lj lt ls held enough Symbol h = omega arith
  change_taken j t s old lj lt ls held enough (Foreign v c) h = none_foreign v c (reached_inside h.0) h.1
    where
      reached_inside : Reached code j t v c → Inside code v c
      reached_inside (e, i, le, li, there) = subst (λ (p : ℕ × ℕ). Inside code p.0 p.1) there ((change_differs code j t lj lt).0 e i le li)
  change_taken j t s old lj lt ls held enough (Lost v c) h =
      let clash : ◌≡◌ {A = ℕ} 0 1 = cc (held, h.2) in omega arith
  change_taken j t s old lj lt ls held enough Allowance h = omega arith
  change_taken j t s old lj lt ls held enough _ h = h
