-- Mending one node by a round.
use Rattle.std.proofs.lemmas.Grind.{common_steps}
use Rattle.std.proofs.Common.{◌≡◌, ℕ, ◌+◌, ◌*◌, ◌<◌, Bool, false, not, ◌&&◌, eqb, ◌⊎◌, List, Some, None, unwrap_or, sym, refl, ap, ◌∙◌, subst, inl, inr, arith}
use native.Mathlib.Decide.{dec_lt}
use Rattle.std.proofs.lemmas.Bool.{and_parts, and_cases, not-true, not-false, eqb-true, eqb-false}
use Rattle.field.specs.Laws.{Operations, Laws}
use Rattle.code.specs.declared.record.Code.{Code}
use Rattle.code.specs.declared.refusal.Refusal.{Refusal}
use Rattle.code.specs.declared.refusal.Refusal.TheVariants.{Shape, Outside, Lost}
use Rattle.code.specs.Stripe.{width}
use Rattle.round.specs.Wanted.{wanted, whole, rebuilt}
use Rattle.round.proofs.Fetches.{below_whole}
use Rattle.round.proofs.Making.{made_same}
use Rattle.round.proofs.Rounds.{every_round}
use Rattle.store.specs.Meaning.{Meaning}
use Rattle.code.specs.Held.{Inside, LostAt}
use Rattle.stripe.specs.Reasons.{Shaped, MendNodeHolds}
use Rattle.stripe.specs.Calls.{NodeMended, read_for}
use Rattle.stripe.specs.Ledger.{HoldsFile, HoldsNone}
use Rattle.stripe.specs.Law.{MendingIsLocal}
use Rattle.stripe.proofs.Decisions.{decided, decide_lost, none_listed}
use Rattle.stripe.proofs.Fitting.{in_store, in_code}
use Rattle.stripe.proofs.Laying.{shape_kept}
use Rattle.stripe.proofs.Reading.{has_shape}

-- a round wants at least one cell
some_wanted : (code : Code) → 0 < whole code
some_wanted code = grind (arith, common_steps)

-- with no file no mending of a node is accepted: the first wanted cell is lost
pub nothing_to_rebuild : (F : Operations) (code : Code) (m : Meaning) (lost : ℕ → ℕ → Bool) → HoldsNone m lost → (f : ℕ)
    → ((e : Refusal) → MendNodeHolds F code m f e → ⊥) → ⊥
nothing_to_rebuild F code m lost H f none =
    none (Lost (wanted code f 0).0 (wanted code f 0).1)
    (0, some_wanted code, refl, H.gone (wanted code f 0).0 (wanted code f 0).1 at.0 at.1, λ o l. absurd (omega arith))
  where
    known : f < code.n
    known = decided (dec_lt f code.n) (λ out. none Outside (omega arith))

    at : ((wanted code f 0).0 < m.nodes) × ((wanted code f 0).1 < m.columns)
    at =
        in_store code m (has_shape code m (none Shape)) (wanted code f 0).0 (wanted code f 0).1
        ((every_round code f known).inside 0 (some_wanted code))

-- With a file, and where no wanted cell is lost.
module _ (F : Operations) (L : Laws F) (code : Code) (m : Meaning) (lost : ℕ → ℕ → Bool) (shaped : Shaped code m)
    (file : List ℕ) (H : HoldsFile F code m lost file) (f : ℕ) (known : f < code.n)
    (present : (p : ℕ) → p < whole code → m.cell (wanted code f p).0 (wanted code f p).1 ≡ None → ⊥) where
  -- each wanted cell holds its symbol in the stripe
  wanted_held : (p : ℕ) → p < whole code
      → unwrap_or (m.cell (wanted code f p).0 (wanted code f p).1) 0 ≡ H.stripe (wanted code f p).0 (wanted code f p).1
  wanted_held p l = grind (arith, common_steps)

  -- the round makes the stripe's symbols of the node
  pub node_rebuilt : (c : ℕ) → c < width code → rebuilt F code c (read_for code m f c) ≡ H.stripe f c
  node_rebuilt c lc =
      made_same F code c code.m (read_for code m f c)
      (λ s. H.stripe (wanted code f (c * code.m + s)).0 (wanted code f (c * code.m + s)).1)
      code.data_columns.0 (λ s ls. wanted_held (c * code.m + s) (below_whole code c s lc ls))
      ∙ (every_round code f known).mends F L file H.stripe H.is_stripe c lc

module _ (F : Operations) (L : Laws F) (code : Code) (m : Meaning) (lost : ℕ → ℕ → Bool) (file : List ℕ) (H : HoldsFile F code m lost file)
    (f value : ℕ) (m' : Meaning) (none : (e : Refusal) → MendNodeHolds F code m f e → ⊥) (D : NodeMended F code f m value m') where
  shaped : Shaped code m
  shaped = has_shape code m (none Shape)

  -- the symbols of the node are those of the stripe
  mended : (c : ℕ) → c < width code → m'.cell f c ≡ Some (H.stripe f c)
  mended c lc =
      D.cells c lc
      ∙ ap Some (node_rebuilt F L code m lost shaped file H f (decided (dec_lt f code.n) (λ out. none Outside (omega arith)))
      (none_listed (whole code) (wanted code f) (LostAt m.cell) (λ j c. decide_lost (m.cell j c)) (λ j c. none (Lost j c))) c lc)

  now_held : (j c : ℕ) → Inside code j c → (not (eqb j f) && lost j c) ≡ false → (j ≡ f) ⊎ (j ≡ f → ⊥)
      → m'.cell j c ≡ Some (H.stripe j c)
  now_held j c inside is (inl e) =
      subst (λ v. m'.cell v c ≡ Some (H.stripe v c)) (sym e) (mended c inside.1)
  now_held j c inside is (inr away) =
      let at = in_store code m shaped j c inside in
      D.others j c (λ h. away h.0) ∙ H.held j c at.0 at.1 present
    where
      present : lost j c ≡ false
      present = elim (and_cases (not (eqb j f)) (lost j c) is) [ inl e ↦ absurd (away (eqb-true j f (not-false (eqb j f) e))) | inr h ↦ h ]

  -- after node f is mended the store holds the ledger's file, and no cell of node f is lost
  pub mend_node_mirrors : HoldsFile F code m' (λ j c. not (eqb j f) && lost j c) file
  mend_node_mirrors = grind (arith, common_steps, and_parts, eqb-false, in_store, in_code, not-true, now_held, shape_kept, shaped)

-- Mending a node depends on nothing but the cells that its round wants.
pub mending_local : MendingIsLocal
mending_local F code f m₁ m₂ m₁' m₂' v₁ v₂ A B cells c lc =
    A.1.cells c lc
    ∙ ap Some (made_same F code c code.m (read_for code m₁ f c) (read_for code m₂ f c) code.data_columns.0
    (λ s ls. ap (λ o. unwrap_or o 0) (cells (c * code.m + s) (below_whole code c s lc ls))))
    ∙ sym (B.1.cells c lc)
