-- A whole round over an array of symbols.
use Rattle.std.specs.Prelude.{◌≡◌, ℕ, ◌+◌, ◌*◌, ◌<◌, ◌≤◌, ◌⊎◌, List, ◌++◌, map, length, drop}
use Rattle.std.specs.Prelude.{Ok, Err, Result, slice_index}
use Rattle.std.specs.List.{range_with_len}
use Rattle.field.specs.Laws.{Operations}
use Rattle.code.specs.declared.record.Code.{Code}
use Rattle.code.specs.declared.refusal.Refusal.{Refusal}
use Rattle.code.specs.declared.refusal.Refusal.TheVariants.{Shape, Outside, Symbol}
use Rattle.code.specs.Refusals.{number}
use Rattle.code.specs.Stripe.{StripeOf, Symbols, width}
use Rattle.round.specs.Wanted.{wanted, whole, rebuilt}

-- the number that the array has for a cell (node, column): cells stand by node and column, m + a to a node
abbrev pub at_cell : Code → List ℕ → ℕ × ℕ → ℕ
at_cell code cells cell = slice_index cells (cell.0 * width code + cell.1)

-- the number that the array has for the cell that a round for node f wants after p symbols
abbrev pub asked : Code → ℕ → List ℕ → ℕ → ℕ
asked code f cells p = at_cell code cells (wanted code f p)

-- the symbols of node f, column by column, as the group rule makes them of the wanted cells
abbrev pub mended : Operations → Code → ℕ → List ℕ → List ℕ
mended F code f cells =
    map (λ c. rebuilt F code c (λ s. asked code f cells (c * code.m + s))) (range_with_len 0 (width code))

-- When a refusal holds: 2 where one of the arrays is too short, 5 where the node is outside, 6 where a
-- wanted cell has no symbol of the field. The others never do.
abbrev pub Refused : Operations → Code → ℕ → List ℕ → List ℕ → Refusal → Type 0
Refused F code f cells out Shape = (length cells < code.n * width code) ⊎ (length out < width code)
Refused F code f cells out Outside = code.n ≤ f
Refused F code f cells out Symbol = (p : ℕ) × (p < whole code) × (F.q ≤ asked code f cells p)
Refused F code f cells out _ = ⊥

-- Rebuilding node f from the cells into the array out, which becomes out'. Accepted, no refusal holds, the
-- round was given m·(m + a) symbols, the front of the array has the node's symbols, and the
-- rest is as it was. Declined, the refusal is the one with the smallest number that holds, and
-- nothing is written.
abbrev pub Rebuilds : Operations → Code → ℕ → List ℕ → List ℕ → List ℕ → Result ℕ Refusal → Type 0
Rebuilds F code f cells out out' (Ok v) =
    ((e : Refusal) → Refused F code f cells out e → ⊥)
    × (v ≡ whole code)
    × (out' ≡ mended F code f cells ++ drop (width code) out)
Rebuilds F code f cells out out' (Err e) =
    Refused F code f cells out e
    × ((e' : Refusal) → Refused F code f cells out e' → number e ≤ number e')
    × (out' ≡ out)

-- the array has the symbols x in every cell of the code
abbrev pub Has : Code → List ℕ → Symbols → Type 0
Has code cells x = (j c : ℕ) → j < code.n → c < width code → at_cell code cells (j, c) ≡ x j c

-- where the array has a stripe, the round makes the stripe's symbols of node f
abbrev pub OfStripe : Operations → Code → ℕ → List ℕ → List ℕ → List ℕ → Result ℕ Refusal → Type 0
OfStripe F code f cells out out' (Ok v) =
    (file : List ℕ) (x : Symbols) → StripeOf F code file x → Has code cells x
    → out' ≡ map (x f) (range_with_len 0 (width code)) ++ drop (width code) out
OfStripe F code f cells out out' (Err e) = Unit {0}
