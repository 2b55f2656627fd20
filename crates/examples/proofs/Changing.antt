-- The change of (2, 1) from 6 to 7 in five nodes that hold 1 to 8.
use Rattle.std.proofs.lemmas.Grind.{common_steps}
use Rattle.std.proofs.Common.{◌≡◌, ℕ, zero, suc, ◌<◌, ◌≤◌, List, [], get_or, Some, Ok, Err, Option, Result, sym, refl, ap, ◌∙◌, subst, inl, inr, arith, lit<}
use Rattle.std.specs.Option.{option_map}
use Rattle.std.proofs.lemmas.Bool.{cases_eq, and_parts, eqb-true, cond-false}
use Rattle.field.specs.Laws.{Operations}
use Rattle.field.specs.Prime.{prime}
use Rattle.field.specs.PrimeLaws.{prime_laws}
use Rattle.code.specs.declared.record.Code.{Code}
use Rattle.code.specs.declared.refusal.Refusal.{Refusal}
use Rattle.code.specs.Stripe.{StripeOf}
use Rattle.theorems.specs.Linear.{SingleFile}
use Rattle.theorems.specs.Change.{changed}
use Rattle.theorems.proofs.Files.{same_file}
use Rattle.theorems.proofs.Stripes.{stripe_unique}
use Rattle.store.specs.Meaning.{Meaning, Cells, put}
use Rattle.stripe.specs.Reasons.{ChangeHolds, Reached, present_cells}
use Rattle.stripe.specs.Calls.{Change, Shifted}
use Rattle.examples.specs.Small.{five, one_to_eight, HoldsWithout}
use Rattle.examples.specs.Examples.{Only}
use Rattle.examples.proofs.Answering.{change_taken}
use Rattle.examples.proofs.Fitting.{held, own_fits}
use Rattle.examples.proofs.Stripes.{prime_cells, one_to_eight_is, prime_stripe, step, step_cells, step_is, step_stripe}

-- what holds of 0 and of 1 holds of each number below 2
below_two : (P : ℕ → Type 0) → P 0 → P 1 → (i : ℕ) → i < 2 → P i
below_two P p q zero l = p
below_two P p q (suc zero) l = q
below_two P p q (suc (suc i)) l = absurd (omega arith)

-- There is one file that is s at place p and 0 elsewhere.
one_single : (F : Operations) (code : Code) (p s : ℕ) (u v : List ℕ) → SingleFile F code p s u → SingleFile F code p s v → u ≡ v
one_single F code p s u v U V =
    same_file F code u v U.is_file V.is_file (λ o l. elim (cases_eq o p) [
      | inl e ↦ ap (λ (i : ℕ). get_or u i 0) e ∙ U.there ∙ sym V.there ∙ ap (λ (i : ℕ). get_or v i 0) (sym e)
      | inr away ↦ U.elsewhere o away ∙ sym (V.elsewhere o away)
    ])

-- a write changes no other cell
put_other : (f : Cells) (j c : ℕ) (o : Option ℕ) (i d : ℕ) → (◌≡◌ {A = ℕ × ℕ} (j, c) (i, d) → ⊥) → put f j c o i d ≡ f i d
put_other f j c o i d away = grind (arith, common_steps, and_parts, cond-false, eqb-true)

-- the four cells of the change, written one after another
abbrev pub written : Cells → Cells
written f = put (put (put (put f 2 1 (Some 7)) 4 1 (Some 236)) 1 2 (Some 237)) 4 2 (Some 14)

module _ (m : Meaning) (H : HoldsWithout prime five one_to_eight [] m) where
  holds : (j c : ℕ) → j < 5 → c < 3 → m.cell j c ≡ Some (prime_cells j c)
  holds j c lj lc = held prime prime_laws five one_to_eight prime_cells prime_stripe [] m H j c (lj, lc) refl

  four_present : 4 ≡ present_cells five m 2 1
  four_present =
      cc (holds 2 1 (lit< tt) (lit< tt), holds 4 2 (lit< tt) (lit< tt), holds 4 1 (lit< tt) (lit< tt), holds 1 2 (lit< tt) (lit< tt))

  Added : ℕ × ℕ → Type 0
  Added p = written m.cell p.0 p.1 ≡ option_map (λ x. prime.add x (step_cells p.0 p.1)) (m.cell p.0 p.1)

  added : (e i : ℕ) → e < 2 → i < 2 → Added (changed five 2 1 e i)
  unfolding Added
  added e i le li = grind (arith, common_steps, Added, below_two, holds)

  others : (v c : ℕ) → (Reached five 2 1 v c → ⊥) → written m.cell v c ≡ m.cell v c
  others v c out =
      put_other (put (put (put m.cell 2 1 (Some 7)) 4 1 (Some 236)) 1 2 (Some 237)) 4 2 (Some 14) v c (λ e. out (0, 1, lit< tt, lit< tt, e))
      ∙ put_other (put (put m.cell 2 1 (Some 7)) 4 1 (Some 236)) 1 2 (Some 237) v c (λ e. out (1, 1, lit< tt, lit< tt, e))
      ∙ put_other (put m.cell 2 1 (Some 7)) 4 1 (Some 236) v c (λ e. out (1, 0, lit< tt, lit< tt, e))
      ∙ put_other m.cell 2 1 (Some 7) v c (λ e. out (0, 0, lit< tt, lit< tt, e))

  -- the store after the change
  after_change : Meaning
  after_change = record { nodes = m.nodes; columns = m.columns; cell = written m.cell; allowance = m.allowance }

  module _ (enough : 4 ≤ m.allowance) where
    none_refused : (e : Refusal) → ChangeHolds prime five m 2 1 7 e → ⊥
    none_refused =
        change_taken prime five m H.shaped one_to_eight
        (own_fits prime prime_laws five one_to_eight prime_cells prime_stripe [] m H one_to_eight_is)
        2 1 7 6 (lit< tt) (lit< tt) (lit< tt) (holds 2 1 (lit< tt) (lit< tt)) (rw (← four_present) enough)

    done : Shifted prime five 2 1 7 m 4 after_change
    unfolding Added after_change
    done = record {
      returned = four_present;
      kept = record { nodes = refl; columns = refl; most = omega arith; least = omega arith };
      old = 6;
      held = holds 2 1 (lit< tt) (lit< tt);
      step = step;
      is_step = step_is;
      stripe = step_cells;
      is_stripe = step_stripe;
      cells = λ v c (e, i, le, li, there). subst Added there (added e i le li);
      others = others;
    }

    pub five_change : Only (Change prime five 2 1 7 m) (Ok 4)
    five_change = ((after_change, (none_refused, done)), only)
      where
        only : (other : Result ℕ Refusal) (after : Meaning) → Change prime five 2 1 7 m other after → other ≡ Ok 4
        only (Ok value) after shifted = ap Ok (shifted.1.returned ∙ sym four_present)
        only (Err e) after declined = absurd (none_refused e declined.0.0)

  -- The file that a change adds is the step, so its stripe has the step's cells.
  pub five_changed : (after : Meaning) → Shifted prime five 2 1 7 m 4 after → (v c : ℕ) → v < 5 → c < 3 → Reached five 2 1 v c
      → after.cell v c ≡ Some (prime.add (prime_cells v c) (step_cells v c))
  five_changed after S v c lv lc reached =
      S.cells v c reached
      ∙ ap (option_map (λ x. prime.add x (S.stripe v c))) (holds v c lv lc)
      ∙ ap (λ y. Some (prime.add (prime_cells v c) y))
      (stripe_unique prime prime_laws five step S.stripe step_cells same_step step_stripe v c lv lc)
    where
      old_is : S.old ≡ 6
      old_is = cc (S.held, holds 2 1 (lit< tt) (lit< tt))

      is_step : SingleFile prime five 5 1 S.step
      is_step = subst (λ (o : ℕ). SingleFile prime five 5 (prime.sub 7 o) S.step) old_is S.is_step

      same_step : StripeOf prime five step S.stripe
      same_step = subst (λ (u : List ℕ). StripeOf prime five u S.stripe) (one_single prime five 5 1 S.step step is_step step_is) S.is_stripe
