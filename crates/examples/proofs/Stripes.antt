-- The stripes of the examples' files, node by node, and the files that fit beside them.
use Rattle.std.proofs.Common.{ℕ, List, [], ◌∷◌, refl}
use Rattle.field.specs.Laws.{power}
use Rattle.field.specs.Polynomials.{times, xtime}
use Rattle.field.specs.Bytes.{bytes}
use Rattle.field.specs.Bytes as byte
use Rattle.field.specs.Prime.{prime}
use Rattle.algebra.specs.Sums.{sum}
use Rattle.code.specs.Stripe.{Symbols, IsFile, StripeOf}
use Rattle.theorems.specs.Linear.{SingleFile}
use Rattle.losses.specs.Losses.{SameOutside}
use Rattle.examples.specs.Small.{five, four, one_to_eight, zeros}
use Rattle.examples.proofs.Computed.{cells, file_by_test, stripe_by_test, single_by_test, same_by_test}

-- 1 to 8 over five nodes, in the field of 257 symbols
abbrev pub prime_cells : Symbols
prime_cells = cells ((1 ∷ 2 ∷ 249 ∷ []) ∷ (3 ∷ 4 ∷ 238 ∷ []) ∷ (5 ∷ 6 ∷ 5 ∷ []) ∷ (7 ∷ 8 ∷ 9 ∷ []) ∷ (241 ∷ 237 ∷ 13 ∷ []) ∷ [])

pub one_to_eight_is : IsFile prime five one_to_eight
one_to_eight_is = file_by_test prime five one_to_eight refl

pub prime_stripe : StripeOf prime five one_to_eight prime_cells
unfolding sum power
prime_stripe = stripe_by_test prime five one_to_eight prime_cells (record { starts = refl; symbols = refl; columns = refl; groups = refl })

-- the same in the field of 256 symbols
abbrev pub byte_cells : Symbols
byte_cells = cells ((1 ∷ 2 ∷ 8 ∷ []) ∷ (3 ∷ 4 ∷ 9 ∷ []) ∷ (5 ∷ 6 ∷ 1 ∷ []) ∷ (7 ∷ 8 ∷ 1 ∷ []) ∷ (0 ∷ 8 ∷ 1 ∷ []) ∷ [])

pub byte_stripe : StripeOf bytes five one_to_eight byte_cells
unfolding sum power byte.sum byte.product times xtime
byte_stripe = stripe_by_test bytes five one_to_eight byte_cells (record { starts = refl; symbols = refl; columns = refl; groups = refl })

-- the file with 2 in place of the first 1: its stripe differs in nodes 0, 1 and 4 alone
abbrev pub two_first : List ℕ
two_first = 2 ∷ 2 ∷ 3 ∷ 4 ∷ 5 ∷ 6 ∷ 7 ∷ 8 ∷ []

abbrev pub two_first_cells : Symbols
two_first_cells = cells ((2 ∷ 2 ∷ 248 ∷ []) ∷ (3 ∷ 4 ∷ 239 ∷ []) ∷ (5 ∷ 6 ∷ 5 ∷ []) ∷ (7 ∷ 8 ∷ 9 ∷ []) ∷ (240 ∷ 237 ∷ 13 ∷ []) ∷ [])

pub two_first_is : IsFile prime five two_first
two_first_is = file_by_test prime five two_first refl

pub two_first_stripe : StripeOf prime five two_first two_first_cells
unfolding sum power
two_first_stripe = stripe_by_test prime five two_first two_first_cells (record { starts = refl; symbols = refl; columns = refl; groups = refl })

pub two_first_same : SameOutside five (0 ∷ 1 ∷ 4 ∷ []) two_first_cells prime_cells
two_first_same = same_by_test five (0 ∷ 1 ∷ 4 ∷ []) two_first_cells prime_cells refl

-- the file that is 1 at (2, 1), which a change of 6 to 7 there adds
abbrev pub step : List ℕ
step = 0 ∷ 0 ∷ 0 ∷ 0 ∷ 0 ∷ 1 ∷ 0 ∷ 0 ∷ []

abbrev pub step_cells : Symbols
step_cells = cells ((0 ∷ 0 ∷ 0 ∷ []) ∷ (0 ∷ 0 ∷ 256 ∷ []) ∷ (0 ∷ 1 ∷ 0 ∷ []) ∷ (0 ∷ 0 ∷ 0 ∷ []) ∷ (0 ∷ 256 ∷ 1 ∷ []) ∷ [])

pub step_is : SingleFile prime five 5 1 step
step_is = single_by_test prime five 5 step refl refl

pub step_stripe : StripeOf prime five step step_cells
unfolding sum power
step_stripe = stripe_by_test prime five step step_cells (record { starts = refl; symbols = refl; columns = refl; groups = refl })

-- zeros over four nodes
abbrev pub zero_cells : Symbols
zero_cells j c = 0

pub zeros_is : IsFile prime four zeros
zeros_is = file_by_test prime four zeros refl

pub zero_stripe : StripeOf prime four zeros zero_cells
unfolding sum power
zero_stripe = stripe_by_test prime four zeros zero_cells (record { starts = refl; symbols = refl; columns = refl; groups = refl })

-- the file with 1 at (0, 1) and 256 at (2, 1): its stripe differs in nodes 0 and 2 alone
abbrev pub opposite : List ℕ
opposite = 0 ∷ 1 ∷ 0 ∷ 0 ∷ 0 ∷ 256 ∷ []

abbrev pub opposite_cells : Symbols
opposite_cells = cells ((0 ∷ 1 ∷ 256 ∷ []) ∷ (0 ∷ 0 ∷ 0 ∷ []) ∷ (0 ∷ 256 ∷ 1 ∷ []) ∷ (0 ∷ 0 ∷ 0 ∷ []) ∷ [])

pub opposite_is : IsFile prime four opposite
opposite_is = file_by_test prime four opposite refl

pub opposite_stripe : StripeOf prime four opposite opposite_cells
unfolding sum power
opposite_stripe = stripe_by_test prime four opposite opposite_cells (record { starts = refl; symbols = refl; columns = refl; groups = refl })

pub opposite_same : SameOutside four (0 ∷ 2 ∷ []) opposite_cells zero_cells
opposite_same = same_by_test four (0 ∷ 2 ∷ []) opposite_cells zero_cells refl
