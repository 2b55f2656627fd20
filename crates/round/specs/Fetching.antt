-- A round whose symbols come from an array: what the private functions under `rebuild` promise one another.
use Rattle.std.specs.Prelude.{◌≡◌, ℕ, ◌+◌, ◌*◌, ◌<◌, ◌≤◌, List, map, length, Ok, Err, Result, slice_index}
use Rattle.std.specs.List.{range_with_len}
use Rattle.field.specs.Laws.{Operations}
use Rattle.code.specs.declared.record.Code.{Code}
use Rattle.code.specs.declared.refusal.Refusal.{Refusal}
use Rattle.code.specs.declared.refusal.Refusal.TheVariants.{Symbol}
use Rattle.code.specs.Stripe.{width}
use Rattle.round.specs.Wanted.{whole, rebuilt}
use Rattle.round.specs.States.{Wants, Holds, given_wanting, given_holding}
use Rattle.round.specs.Rebuild.{asked}
use Rattle.round.specs.declared.state.Wanting.{Wanting}
use Rattle.round.specs.declared.state.Holding.{Holding}

-- the first p symbols that a round for node f is given from the array
abbrev pub fetched : Code → ℕ → List ℕ → ℕ → List ℕ
fetched code f cells p = map (asked code f cells) (range_with_len 0 p)

-- the round for node f was given what the array has
abbrev pub Fetching : {X : Type 0} → Operations → Code → ℕ → List ℕ → Wanting X → Type 0
Fetching F code f cells w = Wants F code f (fetched code f cells (given_wanting w)) w

-- a wanted cell has no symbol of the field
abbrev pub Unfit : Operations → Code → ℕ → List ℕ → Type 0
Unfit F code f cells = (p : ℕ) × (p < whole code) × (F.q ≤ asked code f cells p)

-- The rest of a column: its finished symbol, or a wanted cell that has no symbol of the field.
abbrev pub Fills : {X : Type 0} → Operations → Code → ℕ → List ℕ → ℕ → Result (Holding X) Refusal → Type 0
Fills F code f cells column (Ok h) =
    (h.column ≡ column) × Holds F code f (fetched code f cells (given_holding h)) h
Fills F code f cells column (Err e) = (e ≡ Symbol) × Unfit F code f cells

-- what the round makes in column c of the array's symbols
abbrev pub made_in : Operations → Code → ℕ → List ℕ → ℕ → ℕ
made_in F code f cells c = rebuilt F code c (λ s. asked code f cells (c * code.m + s))

-- A whole round: the count at its end and the symbols, column by column, or a wanted cell that has no
-- symbol of the field.
abbrev pub Runs : Operations → Code → ℕ → List ℕ → Result (ℕ × List ℕ) Refusal → Type 0
Runs F code f cells (Ok (v, front)) =
    (v ≡ whole code)
    × (length front ≡ 11)
    × ((p : ℕ) → p < whole code → asked code f cells p < F.q)
    × ((c : ℕ) → c < width code → slice_index front c ≡ made_in F code f cells c)
Runs F code f cells (Err e) = (e ≡ Symbol) × Unfit F code f cells
