-- Reading a symbol, and writing all lost cells: both rest on the files that fit.
use Rattle.std.proofs.Common.{◌≡◌, ℕ, ◌+◌, ◌*◌, ◌<◌, Bool, false, List, get_or, Some, None, Option, sym, ap, ◌∙◌, subst, inl, inr, mul-le-mul, arith}
use native.Mathlib.Decide.{dec_lt}
use Rattle.std.proofs.lemmas.Bool.{false≢true}
use Rattle.field.specs.Laws.{Operations, Laws}
use Rattle.code.specs.declared.record.Code.{Code}
use Rattle.code.specs.declared.refusal.Refusal.{Refusal}
use Rattle.code.specs.declared.refusal.Refusal.TheVariants.{Shape, Work, Outside, Foreign, Contradiction, Ambiguous, Allowance}
use Rattle.code.specs.Refusals.{number}
use Rattle.code.specs.Stripe.{StripeOf}
use Rattle.code.proofs.Places.{place_below}
use Rattle.theorems.proofs.Stripes.{stripe_unique}
use Rattle.store.specs.Meaning.{Meaning}
use Rattle.code.specs.Held.{Inside}
use Rattle.stripe.specs.Reasons.{Shaped, ReadHolds, MendAllHolds}
use Rattle.stripe.specs.Calls.{Told, AllMended}
use Rattle.stripe.specs.Ledger.{HoldsFile, HoldsNone, HoldsOr}
use Rattle.stripe.specs.Law.{SymbolRead}
use Rattle.stripe.proofs.Decisions.{decided, decide_both, decide_shaped, lost_or_held}
use Rattle.stripe.proofs.Fitting.{in_code, ledger_fits, zero_and_one, some_fits, none_foreign, held_agrees}
use Rattle.stripe.proofs.Laying.{shape_kept}

-- a store for which 2 does not hold has the code's shape
pub has_shape : (code : Code) (m : Meaning) → ((Shaped code m → ⊥) → ⊥) → Shaped code m
has_shape code m h = decided (decide_shaped code m) h

-- a place for which 5 does not hold is a place of the file
pub has_place : (code : Code) (j t : ℕ) → (((j < code.k) × (t < code.m) → ⊥) → ⊥) → (j < code.k) × (t < code.m)
has_place code j t h = decided (decide_both (dec_lt j code.k) (dec_lt t code.m)) h

module _ (F : Operations) (L : Laws F) (code : Code) (m : Meaning) (lost : ℕ → ℕ → Bool) where
  -- of a well-formed read no refusal below 10 holds
  pub read_lower : (file : Option (List ℕ)) → HoldsOr F code m lost file → (j t work : ℕ)
      → (ReadHolds F code m j t work Shape → ⊥) → (ReadHolds F code m j t work Work → ⊥) → (ReadHolds F code m j t work Outside → ⊥)
      → (e : Refusal) → number e < 10 → ReadHolds F code m j t work e → ⊥
  read_lower file H j t work shape long place Shape l h = shape h
  read_lower file H j t work shape long place Work l h = long h
  read_lower file H j t work shape long place Outside l h = place h
  read_lower file H j t work shape long place (Foreign v c) l h =
      none_foreign F L code m lost (has_shape code m shape) file H v c h.0 h.1
  read_lower file H j t work shape long place Contradiction l h =
      let u = some_fits F L code m lost (has_shape code m shape) file H in h u.0 u.1
  read_lower file H j t work shape long place Ambiguous l h = omega arith
  read_lower file H j t work shape long place Allowance l h = omega arith
  read_lower file H j t work shape long place _ l h = h

  -- of a well-formed mend all no refusal below 10 holds
  pub mend_lower : (file : Option (List ℕ)) → HoldsOr F code m lost file → (work : ℕ)
      → (MendAllHolds F code m work Shape → ⊥) → (MendAllHolds F code m work Work → ⊥)
      → (e : Refusal) → number e < 10 → MendAllHolds F code m work e → ⊥
  mend_lower file H work shape long Shape l h = shape h
  mend_lower file H work shape long Work l h = long h
  mend_lower file H work shape long (Foreign v c) l h =
      none_foreign F L code m lost (has_shape code m shape) file H v c h.0 h.1
  mend_lower file H work shape long Contradiction l h =
      let u = some_fits F L code m lost (has_shape code m shape) file H in h u.0 u.1
  mend_lower file H work shape long Ambiguous l h = omega arith
  mend_lower file H work shape long Allowance l h = omega arith
  mend_lower file H work shape long _ l h = h

  -- An accepted read returned the symbol of the ledger's file; with no file there is none.
  pub reads_symbol : (file : Option (List ℕ)) → HoldsOr F code m lost file → (j t work value : ℕ) (m' : Meaning)
      → ((e : Refusal) → ReadHolds F code m j t work e → ⊥) → Told F code j t m value m' → SymbolRead code file j t value
  reads_symbol None H j t work value m' none D =
      let at = has_place code j t (none Outside) in
      let two = zero_and_one F L code m lost (has_shape code m (none Shape)) H (j * code.m + t)
      (place_below code.k code.m j t at.0 at.1) in
      let zeros : get_or two.0 (j * code.m + t) 0 ≡ value = D.shared two.0 two.2 in
      let ones : get_or two.1 (j * code.m + t) 0 ≡ value = D.shared two.1 two.3 in
      omega (arith, two.4, two.5)
  reads_symbol (Some file) H j t work value m' none D =
      sym (D.shared file (ledger_fits F L code m lost (has_shape code m (none Shape)) file H))

  -- with no file no mend all is accepted
  pub nothing_to_mend : HoldsNone m lost → (work value : ℕ) (m' : Meaning)
      → ((e : Refusal) → MendAllHolds F code m work e → ⊥) → AllMended F code m value m' → ⊥
  nothing_to_mend H work value m' none D =
      let place : 0 < code.k * code.m = mul-le-mul code.data_nodes.0 code.data_columns.0 in
      let two = zero_and_one F L code m lost (has_shape code m (none Shape)) H 0 place in
      let same : two.0 ≡ two.1 = D.only two.0 two.2 ∙ sym (D.only two.1 two.3) in
      omega (arith, ap (λ u. get_or u 0 0) same, two.4, two.5)

  -- after all lost cells are written the store holds the ledger's file, and nothing is lost
  pub mend_all_mirrors : (file : List ℕ) → HoldsFile F code m lost file → (work value : ℕ) (m' : Meaning)
      → ((e : Refusal) → MendAllHolds F code m work e → ⊥) → AllMended F code m value m' → HoldsFile F code m' (λ j c. false) file
  mend_all_mirrors file H work value m' none D = record {
    is_file = H.is_file;
    stripe = H.stripe;
    is_stripe = H.is_stripe;
    gone = λ j c lj lc is. absurd (false≢true is);
    held = λ j c lj lc is. all_held j c (in_code code m' (shape_kept code m m' _ D.kept shaped) j c lj lc);
  }
    where
      shaped : Shaped code m
      shaped = has_shape code m (none Shape)

      -- the only fitting file is the ledger's, and it has only one stripe
      same_stripe : (j c : ℕ) → Inside code j c → D.fits.stripe j c ≡ H.stripe j c
      same_stripe j c inside =
          stripe_unique F L code file D.fits.stripe H.stripe
          (subst (λ u. StripeOf F code u D.fits.stripe) (sym (D.only file (ledger_fits F L code m lost shaped file H))) D.fits.is_stripe)
          H.is_stripe j c inside.0 inside.1

      all_held : (j c : ℕ) → Inside code j c → m'.cell j c ≡ Some (H.stripe j c)
      all_held j c inside =
          elim (lost_or_held (m.cell j c)) [
            | inl gone ↦ D.lost j c inside gone ∙ ap Some (same_stripe j c inside)
            | inr held ↦ D.present j c held.0 inside held.1
                ∙ ap Some (sym (held_agrees F L code m lost shaped file H j c held.0 inside held.1))
          ]
