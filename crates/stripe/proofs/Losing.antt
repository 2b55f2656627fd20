-- Losing cells: afterwards they are lost, and all else is as it was.
use Rattle.std.proofs.lemmas.Grind.{common_steps}
use Rattle.std.proofs.Common.{◌≡◌, ℕ, ◌<◌, Bool, true, false, cond, ◌&&◌, ◌||◌, eqb, ltb, List, Some, None, Option, refl, ap, ◌∙◌, arith}
use Rattle.std.proofs.lemmas.Bool.{lt-ltb}
use Rattle.field.specs.Laws.{Operations}
use Rattle.code.specs.declared.record.Code.{Code}
use Rattle.code.specs.declared.refusal.Refusal.{Refusal}
use Rattle.code.specs.declared.refusal.Refusal.TheVariants.{Shape}
use Rattle.code.specs.Stripe.{width}
use Rattle.store.specs.Meaning.{Meaning}
use Rattle.stripe.specs.Reasons.{Shaped, LoseNodeHolds}
use Rattle.stripe.specs.Calls.{CellLost, NodeLost}
use Rattle.stripe.specs.Ledger.{HoldsOr}
use Rattle.stripe.proofs.Decisions.{decided, decide_shaped}

-- what a cell holds, or nothing where a test says so
gone_cond : (t o : Bool) (x : Option ℕ) → (o ≡ true → x ≡ None) → (t || o) ≡ true → cond t None x ≡ None
gone_cond true o x h is = refl
gone_cond false o x h is = h is

held_cond : (t o : Bool) (x : Option ℕ) (v : ℕ) → (o ≡ false → x ≡ Some v) → (t || o) ≡ false → cond t None x ≡ Some v
held_cond true o x v h is = absurd (let z : ◌≡◌ {A = ℕ} 0 1 = cc in omega arith)
held_cond false o x v h is = h is

-- a lost cell stays lost
pub still_lost : (t : Bool) (x : Option ℕ) → x ≡ None → cond t None x ≡ None
still_lost true x h = refl
still_lost false x h = h

or_true : (t o : Bool) → o ≡ true → (t || o) ≡ true
or_true true o h = refl
or_true false o h = h

-- Losing the cells that a test picks: the store loses them, and the ledger adds them.
module _ (F : Operations) (code : Code) (m m' : Meaning) (lost : ℕ → ℕ → Bool) (picked : ℕ → ℕ → Bool)
    (nodes : m'.nodes ≡ m.nodes) (columns : m'.columns ≡ m.columns)
    (cells : (j c : ℕ) → j < m.nodes → c < m.columns → m'.cell j c ≡ cond (picked j c) None (m.cell j c)) where
  lost_mirrors : (file : Option (List ℕ)) → HoldsOr F code m lost file → HoldsOr F code m' (λ j c. picked j c || lost j c) file
  lost_mirrors None H = record {
    gone = λ j c lj lc.
        let i : j < m.nodes = omega arith in let d : c < m.columns = omega arith in
        cells j c i d ∙ still_lost (picked j c) (m.cell j c) (H.gone j c i d);
    said = λ j c lj lc. or_true (picked j c) (lost j c) (H.said j c (omega arith) (omega arith));
  }
  lost_mirrors (Some file) H = record {
    is_file = H.is_file;
    stripe = H.stripe;
    is_stripe = H.is_stripe;
    gone = λ j c lj lc is.
        let i : j < m.nodes = omega arith in let d : c < m.columns = omega arith in
        cells j c i d ∙ gone_cond (picked j c) (lost j c) (m.cell j c) (H.gone j c i d) is;
    held = λ j c lj lc is.
        let i : j < m.nodes = omega arith in let d : c < m.columns = omega arith in
        cells j c i d ∙ held_cond (picked j c) (lost j c) (m.cell j c) (H.stripe j c) (H.held j c i d) is;
  }

-- after a cell is lost the ledger has it among the lost ones
pub lose_cell_mirrors : (F : Operations) (code : Code) (m m' : Meaning) (lost : ℕ → ℕ → Bool) (file : Option (List ℕ)) (node column value : ℕ)
    → CellLost code node column m value m' → HoldsOr F code m lost file
    → HoldsOr F code m' (λ j c. (eqb j node && eqb c column) || lost j c) file
lose_cell_mirrors F code m m' lost file node column value D = grind (arith, common_steps)

-- after a node is lost the ledger has its cells among the lost ones
pub lose_node_mirrors : (F : Operations) (code : Code) (m m' : Meaning) (lost : ℕ → ℕ → Bool) (file : Option (List ℕ)) (node value : ℕ)
    → ((e : Refusal) → LoseNodeHolds code m node e → ⊥) → NodeLost code node m value m' → HoldsOr F code m lost file
    → HoldsOr F code m' (λ j c. eqb j node || lost j c) file
lose_node_mirrors F code m m' lost file node value none D =
    lost_mirrors F code m m' lost (λ j c. eqb j node) D.kept.nodes D.kept.columns
    (λ j c lj lc. ap (λ f. f j c) D.cells ∙ ap (λ t. cond t None (m.cell j c)) (narrow j c lc)) file
  where
    shaped : Shaped code m
    shaped = decided (decide_shaped code m) (none Shape)

    drop_true : (t u : Bool) → u ≡ true → (t && u) ≡ t
    drop_true true u h = h
    drop_true false u h = refl

    narrow : (j c : ℕ) → c < m.columns → (eqb j node && ltb c (width code)) ≡ eqb j node
    narrow j c lc = drop_true (eqb j node) (ltb c (width code)) (lt-ltb c (width code) (omega (arith, shaped)))
