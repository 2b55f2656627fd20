-- Every example of the list holds, in the order of the list.
use Rattle.std.proofs.Common.{◌≡◌, ℕ, List, [], ◌∷◌, refl, lit<}
use Rattle.field.specs.Polynomials.{times, xtime}
use Rattle.field.specs.Reciprocals.{reciprocal}
use Rattle.field.specs.Bytes as byte
use Rattle.field.specs.Prime.{prime}
use Rattle.store.specs.Meaning.{Meaning}
use Rattle.examples.specs.Small.{five, four, one_to_eight, zeros, HoldsWithout}
use Rattle.examples.specs.Examples.{ExamplesHold}
use Rattle.examples.proofs.Fitting.{store_exists}
use Rattle.examples.proofs.Stripes.{prime_cells, prime_stripe, byte_cells, byte_stripe, zero_cells, zero_stripe}
use Rattle.examples.proofs.Reading.{five_read_ambiguous, five_read_told, five_mend_ambiguous, four_read_told, four_read_ambiguous}
use Rattle.examples.proofs.Changing.{five_change, five_changed}

-- There are stores that hold 1 to 8 in five nodes, and zeros in four.
five_stores : (lost : List ℕ) (allowance : ℕ) → (m : Meaning) × HoldsWithout prime five one_to_eight lost m × (m.allowance ≡ allowance)
five_stores = store_exists prime five one_to_eight prime_cells prime_stripe

four_stores : (lost : List ℕ) (allowance : ℕ) → (m : Meaning) × HoldsWithout prime four zeros lost m × (m.allowance ≡ allowance)
four_stores = store_exists prime four zeros zero_cells zero_stripe

-- The values of the fields and the cells of the round are computed.
pub examples_hold : ExamplesHold
unfolding byte.product times xtime reciprocal
examples_hold = (
  refl,
  (
    refl,
    (
      refl,
      (
        refl,
        (
          (prime_cells, prime_stripe, (refl, (refl, (refl, (refl, (refl, (refl, (refl, tt)))))))),
          (
            (byte_cells, byte_stripe, (refl, (refl, (refl, (refl, (refl, (refl, (refl, tt)))))))),
            (
              (five_stores (0 ∷ 1 ∷ 4 ∷ []), five_read_ambiguous),
              (
                (five_stores (0 ∷ 1 ∷ 4 ∷ []), five_read_told),
                (
                  (five_stores (0 ∷ 1 ∷ 4 ∷ []), five_mend_ambiguous),
                  (
                    (
                      five_stores [],
                      λ m H enough. (
                        five_change m H enough,
                        λ after shifted.
                            let left = five_changed m H after shifted.1 in (
                              left 2 1 (lit< tt) (lit< tt) (0, 0, lit< tt, lit< tt, refl),
                              (
                                left 4 1 (lit< tt) (lit< tt) (1, 0, lit< tt, lit< tt, refl),
                                (
                                  left 1 2 (lit< tt) (lit< tt) (1, 1, lit< tt, lit< tt, refl),
                                  (left 4 2 (lit< tt) (lit< tt) (0, 1, lit< tt, lit< tt, refl), tt),
                                ),
                              ),
                            ),
                      ),
                    ),
                    (
                      (four_stores (0 ∷ 2 ∷ []), four_read_told),
                      (
                        (four_stores (0 ∷ 2 ∷ []), four_read_ambiguous),
                        ((refl, (refl, (refl, (refl, (refl, (refl, refl)))))), tt),
                      ),
                    ),
                  ),
                ),
              ),
            ),
          ),
        ),
      ),
    ),
  ),
)
