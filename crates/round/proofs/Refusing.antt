-- Which refusals a rebuilding has, and what it writes.
use Rattle.std.proofs.lemmas.Grind.{common_steps}
use Rattle.std.proofs.Common.{◌≡◌, ℕ, ◌*◌, ◌<◌, ◌≤◌, List, length, get_or, take, Result, ◌∙◌, arith}
use Rattle.std.proofs.lemmas.List.FromFn.{fill_by_all}
use Rattle.std.proofs.lemmas.List.{length-take-le, get_or-take}
use Rattle.field.specs.Laws.{Operations}
use Rattle.code.specs.declared.record.Code.{Code}
use Rattle.code.specs.declared.refusal.Refusal.{Refusal}
use Rattle.code.specs.Stripe.{width}
use Rattle.round.specs.Wanted.{whole}
use Rattle.round.specs.Rebuild.{asked, mended, Refused}
use Rattle.round.specs.Fetching.{made_in, Runs}

module _ (F : Operations) (code : Code) (f : ℕ) (cells out : List ℕ)
    (long : code.n * width code ≤ length cells) (room : width code ≤ length out) (known : f < code.n) where
  -- with arrays long enough, a node of the code and symbols of the field there is no refusal
  pub none_refused : ((p : ℕ) → p < whole code → asked code f cells p < F.q) → (e : Refusal) → Refused F code f cells out e → ⊥
  none_refused all e r = grind (arith, common_steps)

-- the front of the symbols that were taken
pub front_is : (F : Operations) (code : Code) (f : ℕ) (cells front : List ℕ) → width code ≤ length front
    → ((c : ℕ) → c < width code → get_or front c 0 ≡ made_in F code f cells c) → take (width code) front ≡ mended F code f cells
front_is F code f cells front long all =
    fill_by_all (made_in F code f cells) (take (width code) front) (width code) 0 (length-take-le (width code) front long)
    (λ k h. get_or-take (width code) front k 0 h ∙ all k h)

-- the same run, by the code and the node that were asked for
pub runs_for : (F : Operations) (code code' : Code) (f f' : ℕ) (cells : List ℕ) (r : Result (ℕ × List ℕ) Refusal) → code ≡ code' → f ≡ f'
    → Runs F code f cells r → Runs F code' f' cells r
runs_for F code code' f f' cells r c-is f-is ran = grind (arith, common_steps)
