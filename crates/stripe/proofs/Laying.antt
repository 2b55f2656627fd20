-- Laying a file: afterwards the store holds it.
use Rattle.std.proofs.Common.{ℕ, ◌*◌, false, List, length, get_or, ◌∙◌, arith}
use native.Mathlib.Decide.{ℕ_discrete, dec_lt}
use Rattle.std.proofs.lemmas.Bool.{false≢true}
use Rattle.field.specs.Laws.{Operations}
use Rattle.code.specs.declared.record.Code.{Code}
use Rattle.code.specs.declared.refusal.Refusal.{Refusal}
use Rattle.code.specs.declared.refusal.Refusal.TheVariants.{Shape, Length, Symbol}
use Rattle.code.specs.Stripe.{IsFile}
use Rattle.store.specs.Meaning.{Meaning}
use Rattle.stripe.specs.Reasons.{Shaped, LayHolds}
use Rattle.stripe.specs.Calls.{Kept, Laid}
use Rattle.stripe.specs.Ledger.{HoldsFile}
use Rattle.stripe.proofs.Decisions.{decided, decide_shaped}
use Rattle.stripe.proofs.Fitting.{in_code}

-- an accepted call left the shape as it was
pub shape_kept : (code : Code) (m m' : Meaning) (count : ℕ) → Kept m count m' → Shaped code m → Shaped code m'
shape_kept code m m' count K shaped = (K.nodes ∙ shaped.0, K.columns ∙ shaped.1)

-- a list that a lay accepts is a file of the code
laid_file : (F : Operations) (code : Code) (m : Meaning) (file : List ℕ) → ((e : Refusal) → LayHolds F code m file e → ⊥) → IsFile F code file
laid_file F code m file none = record {
  long = decided (ℕ_discrete (length file) (code.k * code.m)) (none Length);
  symbols = λ p l. decided (dec_lt (get_or file p 0) F.q) (λ large. none Symbol (p, l, omega arith));
}

-- after a lay the store holds the file, and nothing is lost
pub lay_mirrors : (F : Operations) (code : Code) (m m' : Meaning) (file : List ℕ) (value : ℕ)
    → ((e : Refusal) → LayHolds F code m file e → ⊥) → Laid F code file m value m' → HoldsFile F code m' (λ j c. false) file
lay_mirrors F code m m' file value none D = record {
  is_file = laid_file F code m file none;
  stripe = D.stripe;
  is_stripe = D.is_stripe;
  gone = λ j c lj lc is. absurd (false≢true is);
  held = λ j c lj lc is. D.cells j c (in_code code m' shaped j c lj lc);
}
  where
    shaped : Shaped code m'
    shaped = shape_kept code m m' _ D.kept (decided (decide_shaped code m) (none Shape))
