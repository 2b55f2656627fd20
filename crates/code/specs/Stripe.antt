-- The two rules of the code, and the stripe of a file.
use Rattle.std.specs.Prelude.{◌≡◌, ℕ, ◌+◌, ◌-◌, ◌*◌, ◌<◌, List, length, Some, Option, slice_index}
use Rattle.field.specs.Laws.{Operations, Laws, power}
use Rattle.algebra.specs.Sums.{sum}
use Rattle.code.specs.declared.record.Code.{Code}
use Rattle.code.specs.Positions.{ahead, behind}

-- a symbol for each cell: x j c is that of node j, column c
abbrev pub Symbols : Type 0
Symbols = ℕ → ℕ → ℕ

-- the number of parity nodes, r
abbrev pub parity : Code → ℕ
parity code = code.n - code.k

-- the number of columns: m data columns and then a coded ones
abbrev pub width : Code → ℕ
width code = code.m + code.a

-- Column rule: taken over all nodes j, the symbols α^(i·j) · x(j, t) sum up to 0, for each data column t and each i < r.
abbrev pub ColumnRule : Operations → Code → Symbols → Type 0
ColumnRule F code x =
    (t i : ℕ) → t < code.m → i < parity code
    → sum F code.n (λ j. F.mul (power F F.α (i * j)) (x j t)) ≡ 0

-- Group rule: for each node j and each i < a, x(⟨j + i⟩, m + i) is the sum over the data columns t of
-- α^(i·t) · x(⟨j − t − 1⟩, t).
abbrev pub GroupRule : Operations → Code → Symbols → Type 0
GroupRule F code x =
    (j i : ℕ) → j < code.n → i < code.a
    → x (ahead code.n j i) (code.m + i)
    ≡ sum F code.m (λ t. F.mul (power F F.α (i * t)) (x (behind code.n j (t + 1)) t))

-- A file is k·m symbols. Number j·m + t belongs to node j, column t.
pub record IsFile (F : Operations) (code : Code) (file : List ℕ) : Type 0 where
  pub long : length file ≡ code.k * code.m
  pub symbols : (p : ℕ) → p < length file → slice_index file p < F.q

-- x is the stripe of the file: it has the file in its first k nodes, all its symbols are below q, and
-- it keeps both rules.
pub record StripeOf (F : Operations) (code : Code) (file : List ℕ) (x : Symbols) : Type 0 where
  pub starts : (j t : ℕ) → j < code.k → t < code.m → x j t ≡ slice_index file (j * code.m + t)
  pub symbols : (j c : ℕ) → j < code.n → c < width code → x j c < F.q
  pub columns : ColumnRule F code x
  pub groups : GroupRule F code x

-- x and y have the same symbol in every cell of the code
abbrev pub SameCells : Code → Symbols → Symbols → Type 0
SameCells code x y = (j c : ℕ) → j < code.n → c < width code → x j c ≡ y j c

-- what the nodes hold: for each cell a number, or nothing where the cell is lost
abbrev pub Held : Type 0
Held = ℕ → ℕ → Option ℕ

-- A file fits what the nodes hold if its stripe agrees with every present cell.
pub record Fits (F : Operations) (code : Code) (held : Held) (file : List ℕ) : Type 0 where
  pub is_file : IsFile F code file
  pub stripe : Symbols
  pub is_stripe : StripeOf F code file stripe
  pub agrees : (j c v : ℕ) → j < code.n → c < width code → held j c ≡ Some v → stripe j c ≡ v

-- Each file has exactly one stripe, in every field that keeps the laws and for every code.
abbrev pub OneStripe : Type 0
OneStripe =
    (F : Operations) → Laws F → (code : Code) (file : List ℕ) → IsFile F code file
    → ((x : Symbols) × StripeOf F code file x)
    × ((x y : Symbols) → StripeOf F code file x → StripeOf F code file y → SameCells code x y)
