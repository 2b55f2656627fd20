-- Two small codes, and stores that hold the stripe of a file but for some nodes.
use Rattle.std.specs.Prelude.{◌≡◌, ℕ, List, [], ◌∷◌, Some, None}
use Rattle.std.proofs.Common.{lit<, lit≤}
use Rattle.field.specs.Laws.{Operations}
use Rattle.algebra.specs.Vandermonde.{Listed}
use Rattle.code.specs.declared.record.Code.{Code}
use Rattle.code.specs.Stripe.{Symbols, StripeOf}
use Rattle.store.specs.Meaning.{Meaning}
use Rattle.code.specs.Held.{Inside}
use Rattle.stripe.specs.Reasons.{Shaped}

-- Two codes. Each one's bounds are shown by computing with its own numbers; a definition over every n would
-- have to prove them of every n.

-- n 5, k 4, m 2, a 1
abbrev pub five : Code
five = record {
  n = 5;
  k = 4;
  m = 2;
  a = 1;
  nodes = (lit≤ tt, lit≤ tt);
  data_nodes = (lit≤ tt, lit< tt);
  data_columns = (lit≤ tt, lit≤ tt);
  coded_columns = (lit≤ tt, lit≤ tt);
  room = lit≤ tt;
}

-- n 4, k 3, m 2, a 1
abbrev pub four : Code
four = record {
  n = 4;
  k = 3;
  m = 2;
  a = 1;
  nodes = (lit≤ tt, lit≤ tt);
  data_nodes = (lit≤ tt, lit< tt);
  data_columns = (lit≤ tt, lit≤ tt);
  coded_columns = (lit≤ tt, lit≤ tt);
  room = lit≤ tt;
}

-- the file 1, 2 .. 8
abbrev pub one_to_eight : List ℕ
one_to_eight = 1 ∷ 2 ∷ 3 ∷ 4 ∷ 5 ∷ 6 ∷ 7 ∷ 8 ∷ []

-- six zeros
abbrev pub zeros : List ℕ
zeros = 0 ∷ 0 ∷ 0 ∷ 0 ∷ 0 ∷ 0 ∷ []

-- m has the code's shape and holds the stripe of the file, but for the cells of the lost nodes
pub record HoldsWithout (F : Operations) (code : Code) (file : List ℕ) (lost : List ℕ)
    (m : Meaning) : Type 0 where
  pub shaped : Shaped code m
  pub stripe : Symbols
  pub is_stripe : StripeOf F code file stripe
  pub present : (j c : ℕ) → Inside code j c → (Listed j lost → ⊥) → m.cell j c ≡ Some (stripe j c)
  pub absent : (j c : ℕ) → Inside code j c → Listed j lost → m.cell j c ≡ None

-- There is such a store with every allowance, and P holds of each such store.
abbrev pub AtEach : Operations → Code → List ℕ → List ℕ → (Meaning → Type 0) → Type 0
AtEach F code file lost P =
    ((allowance : ℕ) → (m : Meaning) × HoldsWithout F code file lost m × (m.allowance ≡ allowance))
    × ((m : Meaning) → HoldsWithout F code file lost m → P m)
