-- Worked examples, as one list with one statement.
use Rattle.std.specs.Prelude.{◌≡◌, ℕ, ◌+◌, ◌≤◌, List, [], ◌∷◌, Some, Ok, Err, Result}
use Rattle.field.specs.Laws.{Operations}
use Rattle.field.specs.Bytes.{bytes}
use Rattle.field.specs.Prime.{prime}
use Rattle.code.specs.declared.record.Code.{Code}
use Rattle.code.specs.declared.refusal.Refusal.{Refusal}
use Rattle.code.specs.declared.refusal.Refusal.TheVariants.{Ambiguous}
use Rattle.code.specs.Stripe.{Symbols, StripeOf}
use Rattle.round.specs.Wanted.{wanted, whole}
use Rattle.store.specs.Meaning.{Meaning}
use Rattle.code.specs.Work.{front}
use Rattle.stripe.specs.Calls.{Read, Change, MendAll}
use Rattle.examples.specs.Small.{five, four, one_to_eight, zeros, AtEach}

-- a cell and its symbol
pub record Cell : Type 0 where
  pub node : ℕ
  pub column : ℕ
  pub symbol : ℕ

pub data Example : Type 0 where
  -- in this field, the product of u and v is w
  product_of : Operations → ℕ → ℕ → ℕ → Example
  -- in this field, the inverse of u is w
  inverse_of : Operations → ℕ → ℕ → Example
  -- the stripe of this file has these cells
  stripe_has : Operations → Code → List ℕ → List Cell → Example
  -- where the stripe of this file is held without these nodes, read (j, t) answers this
  read_answers : Operations → Code → List ℕ → List ℕ → ℕ → ℕ → Result ℕ Refusal → Example
  -- the same, and mend all answers this
  mend_all_answers : Operations → Code → List ℕ → List ℕ → Result ℕ Refusal → Example
  -- where the stripe of this file is held whole and the allowance is at least this, change (j, t) to s
  -- answers this and leaves these cells
  change_leaves : Operations → Code → List ℕ → ℕ → ℕ → ℕ → ℕ → List Cell → Example
  -- the round for this node wants these cells, (node, column), in this order
  round_wants : Code → ℕ → List (ℕ × ℕ) → Example

-- each of these cells has its symbol in x
abbrev pub AllIn : Symbols → List Cell → Type 0
AllIn x [] = Unit {0}
AllIn x (c ∷ cells) = (x c.node c.column ≡ c.symbol) × AllIn x cells

-- a store holds its symbol in each of these cells
abbrev pub AllHeld : Meaning → List Cell → Type 0
AllHeld m [] = Unit {0}
AllHeld m (c ∷ cells) = (m.cell c.node c.column ≡ Some c.symbol) × AllHeld m cells

-- the cells that a round wants, from the p-th on, are these and no more
abbrev pub WantsFrom : Code → ℕ → ℕ → List (ℕ × ℕ) → Type 0
WantsFrom code f p [] = p ≡ whole code
WantsFrom code f p (cell ∷ cells) = (wanted code f p ≡ cell) × WantsFrom code f (p + 1) cells

-- A call answers this and nothing else: its relation allows this answer, and no other.
abbrev pub Only : (Result ℕ Refusal → Meaning → Type 0) → Result ℕ Refusal → Type 0
Only Call answer =
    ((after : Meaning) × Call answer after)
    × ((other : Result ℕ Refusal) (after : Meaning) → Call other after → other ≡ answer)

-- what an example says
abbrev pub Holds : Example → Type 0
Holds (product_of F u v w) = F.mul u v ≡ w
Holds (inverse_of F u w) = F.inv u ≡ w
Holds (stripe_has F code file cells) = (x : Symbols) × StripeOf F code file x × AllIn x cells
Holds (read_answers F code file lost j t answer) =
    AtEach F code file lost (λ m. Only (Read F code j t (front code) m) answer)
Holds (mend_all_answers F code file lost answer) =
    AtEach F code file lost (λ m. Only (MendAll F code (front code) m) answer)
Holds (change_leaves F code file j t s value cells) =
    AtEach F code file [] (λ m. value ≤ m.allowance
    → Only (Change F code j t s m) (Ok value)
    × ((after : Meaning) → Change F code j t s m (Ok value) after → AllHeld after cells))
Holds (round_wants code f cells) = WantsFrom code f 0 cells

-- the examples
abbrev pub examples : List Example
examples =
    product_of bytes 2 128 29
    ∷ inverse_of bytes 2 142
    ∷ product_of prime 256 256 1
    ∷ inverse_of prime 3 86
    ∷ stripe_has prime five one_to_eight
    (record { node = 4; column = 0; symbol = 241 } ∷ record { node = 4; column = 1; symbol = 237 }
    ∷ record { node = 4; column = 2; symbol = 13 } ∷ record { node = 0; column = 2; symbol = 249 }
    ∷ record { node = 1; column = 2; symbol = 238 } ∷ record { node = 2; column = 2; symbol = 5 }
    ∷ record { node = 3; column = 2; symbol = 9 } ∷ [])
    ∷ stripe_has bytes five one_to_eight
    (record { node = 4; column = 0; symbol = 0 } ∷ record { node = 4; column = 1; symbol = 8 }
    ∷ record { node = 4; column = 2; symbol = 1 } ∷ record { node = 0; column = 2; symbol = 8 }
    ∷ record { node = 1; column = 2; symbol = 9 } ∷ record { node = 2; column = 2; symbol = 1 }
    ∷ record { node = 3; column = 2; symbol = 1 } ∷ [])
    ∷ read_answers prime five one_to_eight (0 ∷ 1 ∷ 4 ∷ []) 0 0 (Err Ambiguous)
    ∷ read_answers prime five one_to_eight (0 ∷ 1 ∷ 4 ∷ []) 1 1 (Ok 4)
    ∷ mend_all_answers prime five one_to_eight (0 ∷ 1 ∷ 4 ∷ []) (Err Ambiguous)
    ∷ change_leaves prime five one_to_eight 2 1 7 4
    (record { node = 2; column = 1; symbol = 7 } ∷ record { node = 4; column = 1; symbol = 236 }
    ∷ record { node = 1; column = 2; symbol = 237 } ∷ record { node = 4; column = 2; symbol = 14 } ∷ [])
    ∷ read_answers prime four zeros (0 ∷ 2 ∷ []) 0 0 (Ok 0)
    ∷ read_answers prime four zeros (0 ∷ 2 ∷ []) 0 1 (Err Ambiguous)
    ∷ round_wants five 0 ((1, 2) ∷ (4, 1) ∷ (2, 2) ∷ (1, 0) ∷ (4, 0) ∷ (3, 1) ∷ [])
    ∷ []

abbrev pub AllHold : List Example → Type 0
AllHold [] = Unit {0}
AllHold (e ∷ list) = Holds e × AllHold list

-- Every example of the list holds.
abbrev pub ExamplesHold : Type 0
ExamplesHold = AllHold examples
