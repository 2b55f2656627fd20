-- The answers of the examples' reads and of their mend all.
use Rattle.std.proofs.Common.{◌≡◌, ℕ, ◌+◌, ◌*◌, ◌<◌, List, [], ◌∷◌, get_or, Ok, Err, sym, refl, ap, ◌∙◌, ap₂, arith, lit<}
use Rattle.field.specs.Laws.{Operations, Laws, power}
use Rattle.field.specs.Prime.{prime}
use Rattle.field.specs.PrimeLaws.{prime_laws}
use Rattle.algebra.specs.Sums.{sum}
use Rattle.algebra.proofs.Numbers.{add_comm, zero-add, one-mul, sum_to_difference}
use Rattle.code.specs.declared.refusal.Refusal.TheVariants.{Ambiguous}
use Rattle.code.specs.Positions.{behind}
use Rattle.code.specs.Stripe.{Fits}
use Rattle.store.specs.Meaning.{Meaning}
use Rattle.code.specs.Work.{front}
use Rattle.stripe.specs.Calls.{Read, MendAll}
use Rattle.examples.specs.Small.{five, four, one_to_eight, zeros, HoldsWithout}
use Rattle.examples.specs.Examples.{Only}
use Rattle.examples.proofs.Answering.{read_ambiguous, read_told, mend_all_ambiguous}
use Rattle.examples.proofs.Fitting.{fits, own_fits, kept}
use Rattle.examples.proofs.Stripes.{prime_cells, one_to_eight_is, prime_stripe, zero_cells, zeros_is, zero_stripe}
use Rattle.examples.proofs.Stripes.{two_first, two_first_cells, two_first_is, two_first_stripe, two_first_same}
use Rattle.examples.proofs.Stripes.{opposite, opposite_cells, opposite_is, opposite_stripe, opposite_same}

-- In the first coded column a group with two data columns is a plain sum, so each of its symbols is a
-- difference of the two others.
module _ (F : Operations) (L : Laws F) (f : ℕ → ℕ) (l0 : f 0 < F.q) (l1 : f 1 < F.q) (s : ℕ)
    (group : s ≡ sum F 2 (λ t. F.mul (power F F.α (0 * t)) (f t))) where
  two_terms : F.add (f 0) (f 1) ≡ s
  unfolding sum power
  two_terms = cc (one-mul F L (f 0) l0, one-mul F L (f 1) l1, zero-add F L (f 0) l0)

  first_term : f 0 ≡ F.sub s (f 1)
  first_term = sum_to_difference F L (f 0) (f 1) s l0 two_terms

  second_term : f 1 ≡ F.sub s (f 0)
  second_term = sum_to_difference F L (f 1) (f 0) s l1 (add_comm F L (f 1) (f 0) ∙ two_terms)

-- five nodes that hold 1 to 8, without nodes 0, 1 and 4
module _ (m : Meaning) (H : HoldsWithout prime five one_to_eight (0 ∷ 1 ∷ 4 ∷ []) m) where
  one_to_eight_fits : Fits prime five m.cell one_to_eight
  one_to_eight_fits = own_fits prime prime_laws five one_to_eight prime_cells prime_stripe (0 ∷ 1 ∷ 4 ∷ []) m H one_to_eight_is

  two_first_fits : Fits prime five m.cell two_first
  two_first_fits =
      fits prime prime_laws five one_to_eight prime_cells prime_stripe (0 ∷ 1 ∷ 4 ∷ []) m H
      two_first two_first_cells two_first_is two_first_stripe two_first_same

  pub five_read_ambiguous : Only (Read prime five 0 0 (front five) m) (Err Ambiguous)
  five_read_ambiguous =
      read_ambiguous prime five m H.shaped one_to_eight one_to_eight_fits 0 0 (lit< tt) (lit< tt) two_first two_first_fits
      (λ e. omega arith)

  pub five_mend_ambiguous : Only (MendAll prime five (front five) m) (Err Ambiguous)
  five_mend_ambiguous =
      mend_all_ambiguous prime five m H.shaped one_to_eight one_to_eight_fits two_first two_first_fits
      (λ e. omega (arith, ap (λ (u : List ℕ). get_or u 0 0) e))

  -- The group of (3, 2), which is present, has (2, 0), which is present too, and (1, 1).
  pub five_read_told : Only (Read prime five 1 1 (front five) m) (Ok 4)
  five_read_told = read_told prime five m H.shaped one_to_eight one_to_eight_fits 1 1 4 (lit< tt) (lit< tt) shared
    where
      shared : (u : List ℕ) → Fits prime five m.cell u → get_or u 3 0 ≡ 4
      shared u U =
          let same = kept prime prime_laws five one_to_eight prime_cells prime_stripe (0 ∷ 1 ∷ 4 ∷ []) m H u U in
          sym (U.is_stripe.starts 1 1 (lit< tt) (lit< tt))
          ∙ second_term prime prime_laws (λ t. U.stripe (behind 5 3 (t + 1)) t)
          (U.is_stripe.symbols 2 0 (lit< tt) (lit< tt)) (U.is_stripe.symbols 1 1 (lit< tt) (lit< tt))
          (U.stripe 3 2) (U.is_stripe.groups 3 0 (lit< tt) (lit< tt))
          ∙ ap₂ prime.sub (same 3 2 (lit< tt, lit< tt) refl) (same 2 0 (lit< tt, lit< tt) refl)

-- four nodes that hold zeros, without nodes 0 and 2
module _ (m : Meaning) (H : HoldsWithout prime four zeros (0 ∷ 2 ∷ []) m) where
  zeros_fit : Fits prime four m.cell zeros
  zeros_fit = own_fits prime prime_laws four zeros zero_cells zero_stripe (0 ∷ 2 ∷ []) m H zeros_is

  opposite_fits : Fits prime four m.cell opposite
  opposite_fits =
      fits prime prime_laws four zeros zero_cells zero_stripe (0 ∷ 2 ∷ []) m H
      opposite opposite_cells opposite_is opposite_stripe opposite_same

  pub four_read_ambiguous : Only (Read prime four 0 1 (front four) m) (Err Ambiguous)
  four_read_ambiguous =
      read_ambiguous prime four m H.shaped zeros zeros_fit 0 1 (lit< tt) (lit< tt) opposite opposite_fits (λ e. omega arith)

  -- The group of (1, 2), which is present, has (0, 0), and (3, 1), which is present.
  pub four_read_told : Only (Read prime four 0 0 (front four) m) (Ok 0)
  four_read_told = read_told prime four m H.shaped zeros zeros_fit 0 0 0 (lit< tt) (lit< tt) shared
    where
      shared : (u : List ℕ) → Fits prime four m.cell u → get_or u 0 0 ≡ 0
      shared u U =
          let same = kept prime prime_laws four zeros zero_cells zero_stripe (0 ∷ 2 ∷ []) m H u U in
          sym (U.is_stripe.starts 0 0 (lit< tt) (lit< tt))
          ∙ first_term prime prime_laws (λ t. U.stripe (behind 4 1 (t + 1)) t)
          (U.is_stripe.symbols 0 0 (lit< tt) (lit< tt)) (U.is_stripe.symbols 3 1 (lit< tt) (lit< tt))
          (U.stripe 1 2) (U.is_stripe.groups 1 0 (lit< tt) (lit< tt))
          ∙ ap₂ prime.sub (same 1 2 (lit< tt, lit< tt) refl) (same 3 1 (lit< tt, lit< tt) refl)
