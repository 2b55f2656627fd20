-- What every round does: the cells and the nodes that it asks, and the symbols that it makes of a stripe.
use Rattle.std.specs.Prelude.{◌≡◌, ℕ, ◌+◌, ◌-◌, ◌*◌, ◌<◌, ◌≤◌, min, ◌⊎◌, List, length}
use Rattle.field.specs.Laws.{Operations, Laws}
use Rattle.algebra.specs.Vandermonde.{Listed, Distinct}
use Rattle.code.specs.declared.record.Code.{Code}
use Rattle.code.specs.Positions.{ahead, behind}
use Rattle.code.specs.Stripe.{StripeOf, Symbols, width}
use Rattle.round.specs.Wanted.{wanted, whole, rebuilt}

-- the round for node f wants a cell of node v
abbrev pub Asks : Code → ℕ → ℕ → Type 0
Asks code f v = (p : ℕ) × (p < whole code) × ((wanted code f p).0 ≡ v)

-- v is one of the m nodes ahead of f or of the m + a − 1 nodes behind it
abbrev pub Near : Code → ℕ → ℕ → Type 0
Near code f v =
    ((s : ℕ) × (1 ≤ s) × (s ≤ code.m) × (v ≡ ahead code.n f s))
    ⊎ ((s : ℕ) × (1 ≤ s) × (s < width code) × (v ≡ behind code.n f s))

-- how many nodes a round asks: min(2m + a − 1, n − 1)
abbrev pub nodes_asked : Code → ℕ
nodes_asked code = min (2 * code.m + code.a - 1) (code.n - 1)

-- The round for node f of the code.
pub record RoundOf (code : Code) (f : ℕ) : Type 0 where
  -- each wanted cell is one of the code's
  pub inside : (p : ℕ) → p < whole code → ((wanted code f p).0 < code.n) × ((wanted code f p).1 < width code)
  -- the m·(m + a) wanted cells are all different
  pub cells_differ : (p p' : ℕ) → p < whole code → p' < whole code
      → wanted code f p ≡ wanted code f p' → p ≡ p'
  -- the nodes asked are the m nodes ahead of f and the m + a − 1 nodes behind it
  pub near : (v : ℕ) → (Asks code f v → Near code f v) × (Near code f v → Asks code f v)
  -- none of them is f
  pub others : Asks code f f → ⊥
  -- there are min(2m + a − 1, n − 1) of them
  pub nodes : (vs : List ℕ) × Distinct vs × (length vs ≡ nodes_asked code)
      × ((v : ℕ) → (Listed v vs → Asks code f v) × (Asks code f v → Listed v vs))
  -- in every field, of every stripe it makes the stripe's symbols of f
  pub mends : (F : Operations) → Laws F → (file : List ℕ) (x : Symbols) → StripeOf F code file x
      → (c : ℕ) → c < width code
      → rebuilt F code c (λ s. x (wanted code f (c * code.m + s)).0 (wanted code f (c * code.m + s)).1) ≡ x f c

-- All of this holds of every code and every node of it.
abbrev pub EveryRound : Type 0
EveryRound = (code : Code) (f : ℕ) → f < code.n → RoundOf code f
