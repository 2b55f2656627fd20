-- Which losses of whole nodes a stripe survives.
use Rattle.std.specs.Prelude.{◌≡◌, ℕ, ◌+◌, ◌-◌, ◌*◌, ◌<◌, ◌≤◌, max, List, length, ◌≢◌}
use Rattle.field.specs.Laws.{Operations, Laws}
use Rattle.algebra.specs.Vandermonde.{Listed, Distinct}
use Rattle.code.specs.declared.record.Code.{Code}
use Rattle.code.specs.Stripe.{Symbols, IsFile, StripeOf, parity, width}

-- x and y have the same symbols in all cells outside the nodes
abbrev pub SameOutside : Code → List ℕ → Symbols → Symbols → Type 0
SameOutside code nodes x y = (j c : ℕ) → j < code.n → c < width code → (Listed j nodes → ⊥) → x j c ≡ y j c

-- Two files whose stripes agree in all cells outside these nodes are equal.
abbrev pub Recoverable : Operations → Code → List ℕ → Type 0
Recoverable F code nodes =
    (u v : List ℕ) (x y : Symbols) → IsFile F code u → IsFile F code v → StripeOf F code u x → StripeOf F code v y
    → SameOutside code nodes x y → u ≡ v

-- Any r + a nodes may be lost, if n > (r + a)·max(m, a − 1).
abbrev pub AnyNodesLost : Type 0
AnyNodesLost =
    (F : Operations) → Laws F → (code : Code) (nodes : List ℕ)
    → (parity code + code.a) * max code.m (code.a - 1) < code.n
    → length nodes ≤ parity code + code.a → Recoverable F code nodes

-- The weaker premise n > (r + a)·m suffices.
abbrev pub AnyNodesLostSharper : Type 0
AnyNodesLostSharper =
    (F : Operations) → Laws F → (code : Code) (nodes : List ℕ)
    → (parity code + code.a) * code.m < code.n
    → length nodes ≤ parity code + code.a → Recoverable F code nodes

-- No more than that: if k > a, there are r + a + 1 different nodes such that every file has another one
-- whose stripe is the same in all cells outside them.
abbrev pub NoMoreNodes : Type 0
NoMoreNodes =
    (F : Operations) → Laws F → (code : Code) → code.a < code.k
    → (nodes : List ℕ) × (length nodes ≡ parity code + code.a + 1)
    × Distinct nodes × ((w : ℕ) → Listed w nodes → w < code.n)
    × ((u : List ℕ) (x : Symbols) → IsFile F code u → StripeOf F code u x
    → (v : List ℕ) × (y : Symbols) × IsFile F code v × StripeOf F code v y × (u ≢ v) × SameOutside code nodes x y)
