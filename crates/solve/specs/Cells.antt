-- The cells that are present, and which vectors of symbols agree with them.
use Rattle.std.specs.Prelude.{◌≡◌, ℕ, ◌+◌, ◌*◌, ◌/◌, ◌%◌, ◌<◌, ◌⊎◌, ◌↔◌, ◌≢◌}
use Rattle.std.specs.Prelude.{Bool, false, List, Some, None, Ok, Err, Option, Result, slice_index_or}
use Rattle.field.specs.Laws.{Operations}
use Rattle.algebra.specs.Sums.{sum}
use Rattle.code.specs.declared.record.Code.{Code}
use Rattle.code.specs.declared.refusal.Refusal.{Refusal}
use Rattle.code.specs.declared.refusal.Refusal.TheVariants.{Foreign}
use Rattle.code.specs.Held.{Inside, ForeignAt, First}
use Rattle.code.specs.Stripe.{Symbols, Held, width}
use Rattle.encode.specs.Encoding.{cell_count}
use Rattle.theorems.specs.Linear.{IsFactor}
use Rattle.solve.specs.Systems.{Solution, Reduced, KnownRows, Empty, Unless, entry}

-- the list has all cells in order of node and column, and none of the first `count` is foreign
abbrev pub Lists : Operations → Code → Held → ℕ → List (Option ℕ) → Type 0
Lists F code held count cells =
    (x : ℕ) → x < count
    → (slice_index_or cells x None ≡ held (x / width code) (x % width code))
    × (ForeignAt F held (x / width code) (x % width code) → ⊥)

-- what gathering answers: all cells, or the first that is foreign
abbrev pub Gathered : Operations → Code → Held → Result (List (Option ℕ)) Refusal → Type 0
Gathered F code held (Ok cells) = Lists F code held (cell_count code) cells
Gathered F code held (Err e) = (j c : ℕ) × (e ≡ Foreign j c) × First (Inside code) (ForeignAt F held) j c

-- each present cell of the list holds a symbol
abbrev pub ListsSymbols : Operations → Code → List (Option ℕ) → Type 0
ListsSymbols F code cells = (x v : ℕ) → x < cell_count code → slice_index_or cells x None ≡ Some v → v < F.q

-- y gives for each place of a file its factors
abbrev pub Factors : Operations → Code → (ℕ → Symbols) → Type 0
Factors F code y = (p : ℕ) → p < code.k * code.m → IsFactor F code p (y p)

-- u gives for each place of a file a symbol
abbrev pub Vector : Operations → Code → (ℕ → ℕ) → Type 0
Vector F code u = (p : ℕ) → p < code.k * code.m → u p < F.q

-- cell (j, c) in the stripe of the file with the symbols u, by the factors y
abbrev pub cell_of : Operations → Code → (ℕ → Symbols) → (ℕ → ℕ) → ℕ → ℕ → ℕ
cell_of F code y u j c = sum F (code.k * code.m) (λ p. F.mul (y p j c) (u p))

-- number x of the listed cells is lost, or it is that cell in the stripe of u
abbrev pub Meets : Operations → Code → (ℕ → Symbols) → List (Option ℕ) → (ℕ → ℕ) → ℕ → Type 0
Meets F code y cells u x =
    (v : ℕ) → slice_index_or cells x None ≡ Some v → cell_of F code y u (x / width code) (x % width code) ≡ v

-- number x is a data cell of the first k nodes
abbrev pub DataCell : Code → ℕ → Type 0
DataCell code x = (x / width code < code.k) × (x % width code < code.m)

-- the number in the list of the data cell of place p
abbrev pub cell_at : Code → ℕ → ℕ
cell_at code p = p / code.m * width code + p % code.m

-- Of the first `count` symbols, those whose data cell is present have an equation that says what they are, and are
-- marked as known. The equations of the others are empty.
abbrev pub LoadedRow : Code → List (Option ℕ) → ℕ → List ℕ → List Bool → ℕ → Type 0
LoadedRow code cells count w known p =
    ((p < count) × (slice_index_or cells (cell_at code p) None ≡ Some (entry (code.k * code.m) w p (code.k * code.m)))
    × (entry (code.k * code.m) w p p ≡ 1)
    × ((c : ℕ) → c < code.k * code.m → (c ≢ p) → entry (code.k * code.m) w p c ≡ 0))
    ⊎ ((p < count → slice_index_or cells (cell_at code p) None ≡ None)
    × Empty (code.k * code.m) (entry (code.k * code.m) w) p
    × (slice_index_or known p false ≡ false))

abbrev pub Loaded : Code → List (Option ℕ) → ℕ → List ℕ → List Bool → Type 0
Loaded code cells count w known = (p : ℕ) → p < code.k * code.m → LoadedRow code cells count w known p

-- One more cell is met by the solutions, or no solution meets it.
pub record Took {U : Type 0} (F : Operations) (code : Code) (cells : List (Option ℕ)) (known : List Bool) (x : ℕ)
    (A : ℕ → ℕ → ℕ) (taken : Result U Refusal) (B : ℕ → ℕ → ℕ) : Type 0 where
  pub reduced : Reduced F (code.k * code.m) B
  pub known_rows : KnownRows (code.k * code.m) known B
  pub outcome : Unless taken
      ((y : ℕ → Symbols) → Factors F code y → (u : ℕ → ℕ)
      → (DataCell code x → Solution F (code.k * code.m) A u → Meets F code y cells u x)
      → ((Solution F (code.k * code.m) A u × Meets F code y cells u x) ↔ Solution F (code.k * code.m) B u))
      ((y : ℕ → Symbols) → Factors F code y → (u : ℕ → ℕ)
      → Solution F (code.k * code.m) A u → Meets F code y cells u x → ⊥)

-- The first `count` cells are met by the solutions.
pub record TookAll (F : Operations) (code : Code) (cells : List (Option ℕ)) (known : List Bool) (count : ℕ)
    (A B : ℕ → ℕ → ℕ) : Type 0 where
  pub reduced : Reduced F (code.k * code.m) B
  pub known_rows : KnownRows (code.k * code.m) known B
  pub solutions : (y : ℕ → Symbols) → Factors F code y → (u : ℕ → ℕ) → Vector F code u
      → ((Solution F (code.k * code.m) A u × ((x : ℕ) → x < count → Meets F code y cells u x))
      ↔ Solution F (code.k * code.m) B u)

-- no solution meets all cells
abbrev pub Contradicts : Operations → Code → List (Option ℕ) → (ℕ → ℕ → ℕ) → Type 0
Contradicts F code cells A =
    (y : ℕ → Symbols) → Factors F code y → (u : ℕ → ℕ) → Vector F code u → Solution F (code.k * code.m) A u
    → ((x : ℕ) → x < cell_count code → Meets F code y cells u x) → ⊥

-- the data cells of the first k nodes are met by every solution
abbrev pub DataMet : Operations → Code → List (Option ℕ) → (ℕ → ℕ → ℕ) → Type 0
DataMet F code cells A =
    (y : ℕ → Symbols) → Factors F code y → (u : ℕ → ℕ) → Vector F code u → Solution F (code.k * code.m) A u
    → (x : ℕ) → x < cell_count code → DataCell code x → Meets F code y cells u x
