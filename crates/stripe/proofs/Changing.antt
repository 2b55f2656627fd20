-- Changing one symbol: afterwards the store holds the changed file.
use Rattle.std.proofs.lemmas.Grind.{common_steps}
use Rattle.std.proofs.Common.{◌≡◌, ℕ, ◌+◌, ◌*◌, ◌<◌, Bool, List, get_or, set, Some, None, sym, ap, ◌∙◌, arith}
use native.Mathlib.Decide.{dec_lt}
use Rattle.std.specs.Option.{option_map}
use Rattle.std.proofs.lemmas.List.{length-set, get_or-set_same, get_or-set_other}
use Rattle.field.specs.Laws.{Operations, Laws}
use Rattle.algebra.proofs.Numbers.{add_comm, add-zero, sub-add}
use Rattle.code.specs.declared.record.Code.{Code}
use Rattle.code.specs.declared.refusal.Refusal.{Refusal}
use Rattle.code.specs.declared.refusal.Refusal.TheVariants.{Shape, Outside, Symbol}
use Rattle.code.specs.Stripe.{Symbols, IsFile, StripeOf}
use Rattle.theorems.specs.Linear.{HasSymbols}
use Rattle.theorems.proofs.Files.{file_below}
use Rattle.code.proofs.Places.{place_below}
use Rattle.theorems.proofs.Reached.{change_reaches}
use Rattle.theorems.proofs.Stripes.{stripes_linear}
use Rattle.store.specs.Meaning.{Meaning}
use Rattle.code.specs.Held.{Inside}
use Rattle.stripe.specs.Reasons.{Shaped, Reached, ChangeHolds}
use Rattle.stripe.specs.Calls.{Shifted}
use Rattle.stripe.specs.Ledger.{HoldsFile, HoldsNone}
use Rattle.stripe.proofs.Decisions.{decided, decide_reached}
use Rattle.stripe.proofs.Fitting.{lost_held, in_store, in_code, held_agrees}
use Rattle.stripe.proofs.Laying.{shape_kept}
use Rattle.stripe.proofs.Reading.{has_shape, has_place}

-- a data cell of the first k nodes is a cell of the code
pub data_inside : (code : Code) (j t : ℕ) → j < code.k → t < code.m → Inside code j t
data_inside code j t lj lt = (omega (arith, code.data_nodes), omega arith)

-- setting a symbol of a file makes a file
set_file : (F : Operations) → Laws F → (code : Code) (file : List ℕ) (p s : ℕ) → IsFile F code file → s < F.q
    → IsFile F code (set file p s)
set_file F L code file p s I below = grind (arith, common_steps, below, file_below, get_or-set_other, get_or-set_same, length-set)

-- with no file no change is accepted: its cell is lost
pub nothing_to_change : (F : Operations) (code : Code) (m : Meaning) (lost : ℕ → ℕ → Bool) → HoldsNone m lost
    → (j t s value : ℕ) (m' : Meaning) → ((e : Refusal) → ChangeHolds F code m j t s e → ⊥) → Shifted F code j t s m value m' → ⊥
nothing_to_change F code m lost H j t s value m' none D =
    let at = has_place code j t (none Outside) in
    let here = in_store code m (has_shape code m (none Shape)) j t (data_inside code j t at.0 at.1) in
    lost_held (m.cell j t) D.old (H.gone j t here.0 here.1) D.held

module _ (F : Operations) (L : Laws F) (code : Code) (m : Meaning) (lost : ℕ → ℕ → Bool) (file : List ℕ) (H : HoldsFile F code m lost file)
    (j t s value : ℕ) (m' : Meaning) (none : (e : Refusal) → ChangeHolds F code m j t s e → ⊥) (D : Shifted F code j t s m value m') where
  shaped : Shaped code m
  shaped = has_shape code m (none Shape)

  place : (j < code.k) × (t < code.m)
  place = has_place code j t (none Outside)

  below : s < F.q
  below = decided (dec_lt s F.q) (λ large. none Symbol (omega arith))

  -- the number that the store holds at (j, t) is the file's symbol
  old_symbol : D.old ≡ get_or file (j * code.m + t) 0
  old_symbol =
      sym (held_agrees F L code m lost shaped file H j t D.old (data_inside code j t place.0 place.1) D.held)
      ∙ H.is_stripe.starts j t place.0 place.1

  -- the changed file is the sum of the file and the step
  sums : HasSymbols code (λ o. F.add (get_or file o 0) (get_or D.step o 0)) (set file (j * code.m + t) s)
  sums o l = grind (arith, common_steps, add-zero, add_comm, below, file_below, get_or-set_other, get_or-set_same, old_symbol, place_below, sub-add)

  -- the stripe of the changed file
  sum_stripe : Symbols
  sum_stripe v c = F.add (H.stripe v c) (D.stripe v c)

  is_sum : StripeOf F code (set file (j * code.m + t) s) sum_stripe
  unfolding sum_stripe
  is_sum =
      (stripes_linear F L code).sums file D.step (set file (j * code.m + t) s) H.stripe D.stripe
      H.is_file D.is_step.is_file (set_file F L code file (j * code.m + t) s H.is_file below)
      H.is_stripe D.is_stripe sums

  -- a cell that the change does not reach has the same symbol in both stripes
  unreached : (v c : ℕ) → Inside code v c → (Reached code j t v c → ⊥) → H.stripe v c ≡ sum_stripe v c
  unfolding sum_stripe
  unreached v c inside out =
      sym (add-zero F L (H.stripe v c) (H.is_stripe.symbols v c inside.0 inside.1))
      ∙ ap (F.add (H.stripe v c)) (sym (change_reaches F L code j t (F.sub s D.old) D.step D.stripe place.0 place.1
      D.is_step D.is_stripe v c inside.0 inside.1 (λ e i le li is. out (e, i, le, li, is))))

  still_lost : (v c : ℕ) → m.cell v c ≡ None → Dec (Reached code j t v c) → m'.cell v c ≡ None
  still_lost v c gone (yes h) = D.cells v c h ∙ ap (option_map (λ x. F.add x (D.stripe v c))) gone
  still_lost v c gone (no out) = D.others v c out ∙ gone

  now_holds : (v c : ℕ) → Inside code v c → m.cell v c ≡ Some (H.stripe v c) → Dec (Reached code j t v c)
      → m'.cell v c ≡ Some (sum_stripe v c)
  unfolding sum_stripe
  now_holds v c inside held (yes h) = D.cells v c h ∙ ap (option_map (λ x. F.add x (D.stripe v c))) held
  now_holds v c inside held (no out) = D.others v c out ∙ held ∙ ap Some (unreached v c inside out)

  -- after a change the store holds the changed file, and the same cells are lost
  pub change_mirrors : HoldsFile F code m' lost (set file (j * code.m + t) s)
  change_mirrors = record {
    is_file = set_file F L code file (j * code.m + t) s H.is_file below;
    stripe = sum_stripe;
    is_stripe = is_sum;
    gone = λ v c lv lc is.
        let at = in_store code m shaped v c (inside v c lv lc) in
        still_lost v c (H.gone v c at.0 at.1 is) (decide_reached code j t v c);
    held = λ v c lv lc is.
        let at = in_store code m shaped v c (inside v c lv lc) in
        now_holds v c (inside v c lv lc) (H.held v c at.0 at.1 is) (decide_reached code j t v c);
  }
    where
      inside : (v c : ℕ) → v < m'.nodes → c < m'.columns → Inside code v c
      inside = in_code code m' (shape_kept code m m' _ D.kept shaped)
