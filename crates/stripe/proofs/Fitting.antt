-- Which files fit a store that holds what the ledger says.
use Rattle.std.proofs.lemmas.Grind.{common_steps}
use Rattle.std.proofs.Common.{◌≡◌, ℕ, ◌+◌, ◌-◌, ◌*◌, ◌<◌, ◌≤◌, max, Bool, List, length, get_or, Some, None, Option, sym, ◌∙◌, inl, inr, mul-le-mul, arith}
use Rattle.field.specs.Laws.{Operations, Laws}
use Rattle.code.specs.declared.record.Code.{Code}
use Rattle.code.specs.Stripe.{IsFile, Fits, parity}
use Rattle.theorems.proofs.Files.{single_file}
use Rattle.theorems.proofs.Stripes.{one_stripe}
use Rattle.losses.specs.Losses.{SameOutside}
use Rattle.losses.proofs.Recovery.{any_nodes_lost}
use Rattle.store.specs.Meaning.{Meaning}
use Rattle.code.specs.Held.{Inside, ForeignAt}
use Rattle.stripe.specs.Reasons.{Shaped}
use Rattle.stripe.specs.Ledger.{HoldsFile, HoldsNone, HoldsOr}
use Rattle.stripe.specs.Law.{LostWithin}
use Rattle.stripe.proofs.Decisions.{lost_or_held}

-- a lost cell holds no number
pub lost_held : (o : Option ℕ) (v : ℕ) → o ≡ None → o ≡ Some v → ⊥
lost_held o v l h = let z : ◌≡◌ {A = ℕ} 0 1 = cc in omega arith

-- a cell of the code is inside a store of its shape
pub in_store : (code : Code) (m : Meaning) → Shaped code m → (j c : ℕ) → Inside code j c → (j < m.nodes) × (c < m.columns)
in_store code m shaped j c inside = (omega (arith, shaped, inside), omega (arith, shaped, inside))

-- a cell inside a store of the code's shape is a cell of the code
pub in_code : (code : Code) (m : Meaning) → Shaped code m → (j c : ℕ) → j < m.nodes → c < m.columns → Inside code j c
in_code code m shaped j c lj lc = (omega (arith, shaped), omega (arith, shaped))

module _ (F : Operations) (L : Laws F) (code : Code) (m : Meaning) (lost : ℕ → ℕ → Bool) (shaped : Shaped code m) where
  -- with a file, a present cell holds its symbol in the file's stripe
  pub held_agrees : (file : List ℕ) (H : HoldsFile F code m lost file) (j c v : ℕ) → Inside code j c
      → m.cell j c ≡ Some v → H.stripe j c ≡ v
  held_agrees file H j c v inside is = grind (arith, common_steps)

  -- the ledger's file fits
  pub ledger_fits : (file : List ℕ) → HoldsFile F code m lost file → Fits F code m.cell file
  ledger_fits file H = grind (arith, common_steps)

  -- with no file every file fits
  pub any_fits : HoldsNone m lost → (u : List ℕ) → IsFile F code u → Fits F code m.cell u
  any_fits H u I = grind (arith, common_steps, in_store, lost_held, one_stripe)

  -- with no file some fitting files have 0 and 1 at a place of the file
  pub zero_and_one : HoldsNone m lost → (p : ℕ) → p < code.k * code.m
      → (u v : List ℕ) × Fits F code m.cell u × Fits F code m.cell v × (get_or u p 0 ≡ 0) × (get_or v p 0 ≡ 1)
  zero_and_one H p inside =
      let zeros = single_file F L code p 0 inside (omega (arith, L.one_below)) in
      let unit = single_file F L code p 1 inside L.one_below in (
        zeros.0,
        unit.0,
        any_fits H zeros.0 zeros.1.is_file,
        any_fits H unit.0 unit.1.is_file,
        zeros.1.there,
        unit.1.there,
      )

  -- some file fits
  pub some_fits : (file : Option (List ℕ)) → HoldsOr F code m lost file → (u : List ℕ) × Fits F code m.cell u
  some_fits None H =
      let place : 0 < code.k * code.m = mul-le-mul code.data_nodes.0 code.data_columns.0 in
      let two = zero_and_one H 0 place in (two.0, two.2)
  some_fits (Some file) H = (file, ledger_fits file H)

  -- no cell of the code holds a number that is no symbol
  pub none_foreign : (file : Option (List ℕ)) → HoldsOr F code m lost file → (j c : ℕ) → Inside code j c → ForeignAt F m.cell j c → ⊥
  none_foreign None H j c inside foreign =
      let at = in_store code m shaped j c inside in
      lost_held (m.cell j c) foreign.0 (H.gone j c at.0 at.1) foreign.1
  none_foreign (Some file) H j c inside foreign =
      let below : H.stripe j c < F.q = H.is_stripe.symbols j c inside.0 inside.1 in
      let same : H.stripe j c ≡ foreign.0 = held_agrees file H j c foreign.0 inside foreign.1 in
      omega (arith, foreign.2)

-- Two files that fit the same cells are equal, if all lost cells lie within r + a nodes and n > (r + a)·max(m, a − 1).
pub one_fits : (F : Operations) → Laws F → (code : Code) (m : Meaning) (nodes : List ℕ)
    → (parity code + code.a) * max code.m (code.a - 1) < code.n → length nodes ≤ parity code + code.a
    → LostWithin code m nodes → (u v : List ℕ) → Fits F code m.cell u → Fits F code m.cell v → u ≡ v
one_fits F L code m nodes wide few within u v U V =
    any_nodes_lost F L code nodes wide few u v U.stripe V.stripe U.is_file V.is_file U.is_stripe V.is_stripe same
  where
    same : SameOutside code nodes U.stripe V.stripe
    same j c lj lc out =
        elim (lost_or_held (m.cell j c)) [
          | inl gone ↦ absurd (out (within j c (lj, lc) gone))
          | inr held ↦ U.agrees j c held.0 lj lc held.1 ∙ sym (V.agrees j c held.0 lj lc held.1)
        ]
