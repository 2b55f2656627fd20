-- What `all` over the numbers below n answers.
use Rattle.std.proofs.Common.{ℕ, ◌<◌, Bool, true, false, length, Decides, MatchBool, refl, zero-add, arith}
use Rattle.std.specs.List.{AllWithin, HoldsAt, range_with_len}
use Rattle.std.proofs.lemmas.Bool.{false≢true}
use Rattle.std.proofs.lemmas.List.FromFn.{length-range_with_len, get_or-range_with_len}

pub decides_each : (r : Bool) (n : ℕ) (P : ℕ → Type 0)
    → MatchBool r (AllWithin P (range_with_len 0 n) 0 (length (range_with_len 0 n)))
    ((k : ℕ) × (k < length (range_with_len 0 n)) × HoldsAt (λ i. P i → ⊥) (range_with_len 0 n) k)
    → Decides r ((i : ℕ) → i < n → P i)
decides_each true n P h =
    (λ _ i l. rw (get_or-range_with_len, zero-add) at (h i 0 (omega arith) (omega (arith, length-range_with_len 0 n))), λ _. refl)
decides_each false n P h = (
  λ e. absurd (false≢true e),
  λ all.
      let l : h.0 < n = omega (arith, h.1, length-range_with_len 0 n) in
      absurd ((rw (get_or-range_with_len, zero-add) at (h.2 0)) (all h.0 l)),
)
