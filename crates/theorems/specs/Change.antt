-- Which cells of a stripe depend on one symbol of the file.
use Rattle.std.specs.Prelude.{◌≡◌, ℕ, zero, suc, ◌+◌, ◌*◌, ◌<◌, List, ◌≢◌}
use Rattle.field.specs.Laws.{Operations, Laws}
use Rattle.code.specs.declared.record.Code.{Code}
use Rattle.code.specs.Positions.{ahead}
use Rattle.code.specs.Stripe.{Symbols, StripeOf, parity, width}
use Rattle.theorems.specs.Linear.{SingleFile}

-- the nodes of a data column that a change at node j reaches: j, and then the parity nodes k to n − 1
abbrev pub reached : Code → ℕ → ℕ → ℕ
reached code j zero = j
reached code j (suc d) = code.k + d

-- The cells of a change at (j, t): each reached node's cell of column t, and for each coded column m + i
-- the cell of the group that holds it, at node ⟨v + t + 1 + i⟩. The first index goes through the r + 1
-- reached nodes, the second through the column t and the a coded columns.
abbrev pub changed : Code → ℕ → ℕ → ℕ → ℕ → ℕ × ℕ
changed code j t e zero = (reached code j e, t)
changed code j t e (suc i) = (ahead code.n (reached code j e) (t + 1 + i), code.m + i)

-- The stripe of a file that is 0 except at (j, t) is 0 outside the cells of the change.
abbrev pub ChangeReaches : Type 0
ChangeReaches =
    (F : Operations) → Laws F → (code : Code) (j t s : ℕ) (file : List ℕ) (x : Symbols)
    → j < code.k → t < code.m → SingleFile F code (j * code.m + t) s file → StripeOf F code file x
    → (v c : ℕ) → v < code.n → c < width code
    → ((e i : ℕ) → e < parity code + 1 → i < code.a + 1 → changed code j t e i ≢ (v, c))
    → x v c ≡ 0

-- The (r + 1)·(a + 1) cells of a change are cells of the code and all different.
abbrev pub ChangeDiffers : Type 0
ChangeDiffers =
    (code : Code) (j t : ℕ) → j < code.k → t < code.m
    → ((e i : ℕ) → e < parity code + 1 → i < code.a + 1
    → ((changed code j t e i).0 < code.n) × ((changed code j t e i).1 < width code))
    × ((e i e' i' : ℕ) → e < parity code + 1 → i < code.a + 1 → e' < parity code + 1 → i' < code.a + 1
    → changed code j t e i ≡ changed code j t e' i' → (e ≡ e') × (i ≡ i'))
