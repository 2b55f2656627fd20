-- A run in which a file is laid, nodes are lost, a symbol is read and all is mended.
use Rattle.std.proofs.lemmas.Grind.{common_steps}
use Rattle.std.proofs.Common.{◌≡◌, ℕ, ◌+◌, ◌*◌, ◌<◌, ◌≤◌, Bool, true, false, ◌&&◌, eqb, ltb, ◌⊎◌, List, [], ◌∷◌, length, get_or, Some, None, Ok, Option, Result, sym, refl, ap, ◌∙◌, inl, inr, le_refl, arith}
use Rattle.std.proofs.lemmas.Bool.{eqb-true, and_parts, cases_Bool, cond-true, cond-false, false≢true}
use Rattle.field.specs.Laws.{Operations, Laws}
use Rattle.algebra.specs.Vandermonde.{Listed}
use Rattle.code.specs.declared.record.Code.{Code}
use Rattle.code.specs.declared.refusal.Refusal.{Refusal}
use Rattle.code.specs.declared.refusal.Refusal.TheVariants.{Ambiguous, Allowance}
use Rattle.code.specs.Refusals.{number}
use Rattle.code.specs.Stripe.{Symbols, IsFile, StripeOf, Fits, parity, width}
use Rattle.theorems.proofs.Stripes.{one_stripe}
use Rattle.store.specs.Meaning.{Meaning, Cells}
use Rattle.stripe.specs.declared.calls.Call.{Call}
use Rattle.code.specs.Work.{front}
use Rattle.stripe.specs.Reasons.{Shaped, lost_cells, ReadHolds, MendAllHolds}
use Rattle.stripe.specs.Calls.{Read, MendAll, without_node}
use Rattle.stripe.specs.Ledger.{HoldsFile}
use Rattle.stripe.specs.Law.{Wide, Run, LostWithin}
use Rattle.stripe.specs.Survival.{losing, each_lost, Survived, Survival}
use Rattle.stripe.proofs.Fitting.{lost_held, held_agrees, one_fits}
use Rattle.stripe.proofs.Reading.{read_lower, mend_lower}
use Rattle.stripe.proofs.Stores.{store, same_shape, lost_most, whole_cells, inside_whole, outside_whole, whole_holds, lays, loses}

-- where neither a refusal below 10 holds nor 10 nor 11, none does
no_refusal : (Holds : Refusal → Type 0) → ((e : Refusal) → number e < 10 → Holds e → ⊥) → (Holds Ambiguous → ⊥) → (Holds Allowance → ⊥)
    → (e : Refusal) → Holds e → ⊥
no_refusal Holds lower ambiguous allowance e h = grind (arith, common_steps)

-- the cells with all those of the nodes lost, one node after another
abbrev without : Code → Cells → List ℕ → Cells
without code cells [] = cells
without code cells (v ∷ nodes) = without code (without_node code cells v) nodes

-- a cell is as it was, or it is lost and its node is one of them
left_or_lost : (code : Code) (cells : Cells) (nodes : List ℕ) (j c : ℕ)
    → (without code cells nodes j c ≡ cells j c) ⊎ ((without code cells nodes j c ≡ None) × Listed j nodes)
left_or_lost code cells [] j c = inl refl
left_or_lost code cells (v ∷ nodes) j c = by_case (left_or_lost code (without_node code cells v) nodes j c) (cases_Bool (eqb j v && ltb c (width code)))
  where
    by_case : (without code (without_node code cells v) nodes j c ≡ without_node code cells v j c)
        ⊎ ((without code (without_node code cells v) nodes j c ≡ None) × Listed j nodes)
        → ((eqb j v && ltb c (width code)) ≡ true) ⊎ ((eqb j v && ltb c (width code)) ≡ false)
        → (without code (without_node code cells v) nodes j c ≡ cells j c)
        ⊎ ((without code (without_node code cells v) nodes j c ≡ None) × Listed j (v ∷ nodes))
    by_case (inl e) (inl picked) =
        inr (
          e ∙ cond-true (eqb j v && ltb c (width code)) None (cells j c) picked,
          inl (eqb-true j v (and_parts (eqb j v) (ltb c (width code)) picked).0),
        )
    by_case (inl e) (inr other) = inl (e ∙ cond-false (eqb j v && ltb c (width code)) None (cells j c) other)
    by_case (inr gone) d = inr (gone.0, inr gone.1)

module _ (F : Operations) (L : Laws F) (code : Code) (file : List ℕ) (I : IsFile F code file) (x : Symbols) (X : StripeOf F code file x) where
  abbrev room : ℕ
  room = code.n * width code

  abbrev whole : Cells
  whole = whole_cells code x

  -- nodes can be lost one after another
  loses_all : (nodes : List ℕ) → ((v : ℕ) → Listed v nodes → v < code.n) → (cells : Cells)
      (calls : List Call) (answers : List (Result ℕ Refusal)) (after : Meaning)
      → Run F code (store code room (without code cells nodes)) calls answers after
      → Run F code (store code room cells) (losing nodes calls) (each_lost code nodes answers) after
  loses_all [] all cells calls answers after R = R
  loses_all (v ∷ nodes) all cells calls answers after R = (
    store code room (without_node code cells v),
    loses F code room (le_refl room) cells v (all v (inl refl)),
    loses_all nodes (λ w l. all w (inr l)) (without_node code cells v) calls answers after R,
  )

  -- What is left after the losses: the nodes are at most r + a, and the code is wide.
  module _ (wide : Wide code) (nodes : List ℕ) (few : length nodes ≤ parity code + code.a) where
    left : Meaning
    left = store code room (without code whole nodes)

    missing : Option ℕ → Bool
    missing None = true
    missing (Some v) = false

    missing_true : (o : Option ℕ) → missing o ≡ true → o ≡ None
    unfolding missing
    missing_true None e = refl
    missing_true (Some v) e = absurd (false≢true e)

    missing_false : (o : Option ℕ) → missing o ≡ false → o ≡ None → ⊥
    unfolding missing
    missing_false None e is = false≢true (sym e)
    missing_false (Some v) e is = lost_held (Some v) v is refl

    -- what is left is of the stripe
    left_holds : HoldsFile F code left (λ j c. missing (left.cell j c)) file
    unfolding left
    left_holds = record {
      is_file = I;
      stripe = x;
      is_stripe = X;
      gone = λ j c lj lc is. missing_true (without code whole nodes j c) is;
      held = λ j c lj lc is. elim (left_or_lost code whole nodes j c) [
        | inl e ↦ e ∙ inside_whole code x j c (lj, lc)
        | inr gone ↦ absurd (missing_false (without code whole nodes j c) is gone.0)
      ];
    }

    within : LostWithin code left nodes
    unfolding left
    within j c inside is =
        elim (left_or_lost code whole nodes j c) [
          | inl e ↦ absurd (lost_held (without code whole nodes j c) (x j c) is (e ∙ inside_whole code x j c inside))
          | inr gone ↦ gone.1
        ]

    left_shaped : Shaped code left
    unfolding left
    left_shaped = (refl, refl)

    left_fits : Fits F code left.cell file
    unfolding left_holds
    left_fits = record {
      is_file = I;
      stripe = x;
      is_stripe = X;
      agrees = λ j c v lj lc is.
          held_agrees F L code left (λ j c. missing (left.cell j c)) left_shaped file left_holds j c v (lj, lc) is;
    }

    only : (u : List ℕ) → Fits F code left.cell u → u ≡ file
    only u U = one_fits F L code left nodes wide few within u file U left_fits

    -- every symbol of the file can be read
    reads : (row column : ℕ) → row < code.k → column < code.m
        → Read F code row column (front code) left (Ok (get_or file (row * code.m + column) 0)) left
    reads row column lr lc = (
      none,
      record {
        same = refl;
        fitting = file;
        fits = left_fits;
        shared = λ u U. ap (λ v. get_or v (row * code.m + column) 0) (only u U);
      },
    )
      where
        none : (e : Refusal) → ReadHolds F code left row column (front code) e → ⊥
        none =
            no_refusal (ReadHolds F code left row column (front code))
            (read_lower F L code left (λ j c. missing (left.cell j c)) (Some file) left_holds row column (front code)
            (λ h. h left_shaped) (λ h. omega arith) (λ h. h (lr, lc)))
            (λ h. h.4 (ap (λ u. get_or u (row * code.m + column) 0) (only h.0 h.2 ∙ sym (only h.1 h.3))))
            (λ h. h)

    -- all lost cells can be written
    mends : MendAll F code (front code) left (Ok (lost_cells code left)) (store code room whole)
    unfolding left left_fits
    mends = (
      none,
      record {
        returned = refl;
        kept = same_shape code (code.n * width code) (without code whole nodes) whole (lost_cells code left);
        fitting = file;
        fits = left_fits;
        only = only;
        lost = λ j c inside gone. inside_whole code x j c inside;
        present = λ j c v inside is. inside_whole code x j c inside ∙ ap Some (left_fits.agrees j c v inside.0 inside.1 is);
        others = λ j c out. outside_whole code x j c out ∙ sym (elim (left_or_lost code whole nodes j c)
            [ inl e ↦ e ∙ outside_whole code x j c out | inr gone ↦ gone.0 ]);
      },
    )
      where
        none : (e : Refusal) → MendAllHolds F code left (front code) e → ⊥
        none =
            no_refusal (MendAllHolds F code left (front code))
            (mend_lower F L code left (λ j c. missing (left.cell j c)) (Some file) left_holds (front code)
            (λ h. h left_shaped) (λ h. omega arith))
            (λ h. h.4 (only h.0 h.2 ∙ sym (only h.1 h.3)))
            (λ h. omega (arith, lost_most code left, h))

    survived : ((v : ℕ) → Listed v nodes → v < code.n) → (row column : ℕ) → row < code.k → column < code.m
        → Survived F code file nodes row column
    unfolding left
    survived all row column lr lc = record {
      before = store code room (λ j c. None);
      after = store code room whole;
      lent = record { ref_ptr = (0, 0); now = file };
      lends = refl;
      blank = λ j c lj lc. refl;
      shaped = (refl, refl);
      mended = lost_cells code left;
      run = (
        store code room whole,
        lays F code room (le_refl room) file I x X,
        loses_all nodes all whole _ _ (store code room whole)
            (left, reads row column lr lc, (store code room whole, mends, refl)),
      );
      holds = whole_holds F code room (le_refl room) file I x X;
    }

pub survives : Survival
survives F L code wide file I nodes all few =
    let one = (one_stripe F L code file I).0 in survived F L code file I one.0 one.1 wide nodes few all
