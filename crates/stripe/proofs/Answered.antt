-- What follows from any answer, whatever the call.
use Rattle.std.proofs.lemmas.Grind.{common_steps}
use Rattle.std.proofs.Common.{◌≡◌, ℕ, ◌<◌, ◌≤◌, ◌↔◌, None, Ok, Err, Result, sym, refl, ap, subst, arith}
use Rattle.code.specs.declared.refusal.Refusal.{Refusal}
use Rattle.code.specs.declared.refusal.Refusal.TheVariants.{Ambiguous}
use Rattle.code.specs.Refusals.{Least, number}
use Rattle.store.specs.Meaning.{Meaning}
use Rattle.stripe.specs.Calls.{Answers}

-- a declined call was not accepted
pub declined : (e : Refusal) (value : ℕ) → ◌≡◌ {A = Result ℕ Refusal} (Err e) (Ok value) → ⊥
declined e value same = let z : ◌≡◌ {A = ℕ} 0 1 = cc in omega arith

module _ (Holds : Refusal → Type 0) (Done : ℕ → Meaning → Type 0) (m m' : Meaning) where
  -- a call is accepted exactly if none of its refusals holds
  pub accepted_iff : (answer : Result ℕ Refusal) → Answers Holds Done m answer m'
      → ((value : ℕ) × (answer ≡ Ok value)) ↔ Least Holds None
  accepted_iff (Ok value) A = (λ _. A.0, λ _. (value, refl))
  accepted_iff (Err e) A = (λ ok. absurd (declined e ok.0 ok.1), λ none. absurd (none e A.0.0))

  -- the refusal that was answered holds
  pub answered_holds : (answer : Result ℕ Refusal) → Answers Holds Done m answer m' → (e : Refusal) → answer ≡ Err e → Holds e
  answered_holds (Ok value) A e same = absurd (declined e value (sym same))
  answered_holds (Err f) A e same = let f_e : f ≡ e = cc in subst Holds f_e A.0.0

  -- the only refusal with the number 10
  numbered_ten : (e : Refusal) → number e ≡ 10 → e ≡ Ambiguous
  numbered_ten e h = grind (arith, common_steps)

  -- where no refusal with a smaller number holds, a call is called ambiguous exactly if it is
  pub ambiguous_iff : ((e : Refusal) → number e < 10 → Holds e → ⊥) → (answer : Result ℕ Refusal)
      → Answers Holds Done m answer m' → (answer ≡ Err Ambiguous) ↔ Holds Ambiguous
  ambiguous_iff lower (Ok value) A =
      (answered_holds (Ok value) A Ambiguous, λ h. absurd (A.0 Ambiguous h))
  ambiguous_iff lower (Err e) A =
      (answered_holds (Err e) A Ambiguous, λ h. ap Err (numbered_ten e (exact h)))
    where
      exact : Holds Ambiguous → number e ≡ 10
      exact h =
          let most : number e ≤ 10 = A.0.1 Ambiguous h in
          let least : number e < 10 → ⊥ = λ l. lower e l A.0.0 in
          omega arith
