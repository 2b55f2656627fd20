-- The sum of the products of two lists, as a fold over both and as a sum over the places.
use Rattle.std.proofs.Common.{◌≡◌, ℕ, suc, ◌+◌, ◌≤◌, ◌<◌, List, [], ◌∷◌, length, get_or, sym, ap, ◌∙◌, arith}
use Rattle.std.specs.Prelude.{fold, zip}
use Rattle.field.specs.Laws.{Operations}
use Rattle.algebra.specs.Sums.{sum}
use Rattle.algebra.proofs.Numbers.{sum_next}

module _ (F : Operations) where
  -- the k terms of f before the products of the lists, which are its next terms
  from : (k : ℕ) (f : ℕ → ℕ) (ws xs : List ℕ) → length xs ≤ length ws → ((j : ℕ) → j < length xs → f (k + j) ≡ F.mul (get_or ws j 0) (get_or xs j 0))
      → fold (λ s p. F.add s (F.mul p.0 p.1)) (sum F k f) (zip ws xs) ≡ sum F (k + length xs) f
  from k f [] [] l same = let none : k ≡ k + 0 = omega arith in ap (λ n. sum F n f) none
  from k f (w ∷ ws) [] l same = let none : k ≡ k + 0 = omega arith in ap (λ n. sum F n f) none
  from k f [] (x ∷ xs) l same = absurd (omega arith)
  from k f (w ∷ ws) (x ∷ xs) l same =
      let here : k ≡ k + 0 = omega arith in
      let one : F.add (sum F k f) (F.mul w x) ≡ sum F (k + 1) f = ap (F.add (sum F k f)) (sym (ap f here ∙ same 0 (omega arith))) ∙ sym (sum_next F k f) in
      let end : k + 1 + length xs ≡ k + suc (length xs) = omega arith in
      ap (λ s. fold (λ s p. F.add s (F.mul p.0 p.1)) s (zip ws xs)) one
      ∙ from (k + 1) f ws xs (omega arith) (λ j h. let at : k + 1 + j ≡ k + suc j = omega arith in ap f at ∙ same (suc j) (omega arith))
      ∙ ap (λ n. sum F n f) end

  pub zip_sum : (ws xs : List ℕ) → length xs ≤ length ws
      → fold (λ s p. F.add s (F.mul p.0 p.1)) 0 (zip ws xs) ≡ sum F (length xs) (λ j. F.mul (get_or ws j 0) (get_or xs j 0))
  unfolding sum
  zip_sum ws xs l =
      from 0 (λ j. F.mul (get_or ws j 0) (get_or xs j 0)) ws xs l (λ j h. let at : 0 + j ≡ j = omega arith in ap (λ j. F.mul (get_or ws j 0) (get_or xs j 0)) at)
      ∙ (let end : 0 + length xs ≡ length xs = omega arith in ap (λ n. sum F n (λ j. F.mul (get_or ws j 0) (get_or xs j 0))) end)
