-- Systems of linear equations: N equations, each with N factors and a right side.
use Rattle.std.specs.Prelude.{◌≡◌, ℕ, ◌+◌, ◌*◌, ◌<◌, ◌⊎◌, ◌↔◌, ◌≢◌}
use Rattle.std.specs.Prelude.{Bool, true, false, List, Some, None, Ok, Err, Option, Result, slice_index, slice_index_or}
use Rattle.field.specs.Laws.{Operations}
use Rattle.algebra.specs.Sums.{sum}
use Rattle.code.specs.declared.refusal.Refusal.{Refusal}
use Rattle.code.specs.declared.refusal.Refusal.TheVariants.{Contradiction}

-- the numbers in work memory: equation p stands from p·(N + 1) on, its factors first and then its right side
abbrev pub entry : ℕ → List ℕ → ℕ → ℕ → ℕ
entry N w p c = slice_index w (p * (N + 1) + c)

-- the vector u keeps the equation: the sum of its factors times the symbols of u is its right side
abbrev pub Keeps : Operations → ℕ → (ℕ → ℕ) → (ℕ → ℕ) → Type 0
Keeps F N row u = sum F N (λ c. F.mul (row c) (u c)) ≡ row N

-- u keeps each of the N equations
abbrev pub Solution : Operations → ℕ → (ℕ → ℕ → ℕ) → (ℕ → ℕ) → Type 0
Solution F N A u = (p : ℕ) → p < N → Keeps F N (A p) u

-- equation p has the factor 1 at symbol p, and every other equation has the factor 0 there
abbrev pub Pivot : ℕ → (ℕ → ℕ → ℕ) → ℕ → Type 0
Pivot N A p = (A p p ≡ 1) × ((s : ℕ) → s < N → (s ≢ p) → A s p ≡ 0)

-- all numbers of equation p are 0
abbrev pub Empty : ℕ → (ℕ → ℕ → ℕ) → ℕ → Type 0
Empty N A p = (c : ℕ) → c < N + 1 → A p c ≡ 0

-- Reduced form: equation p is the one that has symbol p to itself, or it is empty.
pub record Reduced (F : Operations) (N : ℕ) (A : ℕ → ℕ → ℕ) : Type 0 where
  pub below : (p c : ℕ) → p < N → c < N + 1 → A p c < F.q
  pub rows : (p : ℕ) → p < N → Pivot N A p ⊎ Empty N A p

-- the marked symbols are known: their equations have no other factor than the 1 at the symbol itself
abbrev pub KnownRows : ℕ → List Bool → (ℕ → ℕ → ℕ) → Type 0
KnownRows N known A =
    (p : ℕ) → p < N → slice_index_or known p false ≡ true → (A p p ≡ 1) × ((c : ℕ) → c < N → (c ≢ p) → A p c ≡ 0)

-- What is left of an equation when the symbols that have equations of their own are taken out of it.
pub record Remainder (F : Operations) (N : ℕ) (A : ℕ → ℕ → ℕ) (row rest : ℕ → ℕ) : Type 0 where
  pub below : (c : ℕ) → c < N + 1 → rest c < F.q
  pub free : (p : ℕ) → p < N → Pivot N A p → rest p ≡ 0
  pub same : (u : ℕ → ℕ) → Solution F N A u → (Keeps F N row u ↔ Keeps F N rest u)

-- Equation c is the new one divided by its factor at c, and c is taken out of all others.
pub record Installed (F : Operations) (N c : ℕ) (row : ℕ → ℕ) (A B : ℕ → ℕ → ℕ) : Type 0 where
  pub here : (j : ℕ) → j < N + 1 → B c j ≡ F.mul (F.inv (row c)) (row j)
  pub others : (p j : ℕ) → p < N → j < N + 1 → (p ≢ c) → B p j ≡ F.sub (A p j) (F.mul (A p c) (B c j))

-- What an attempt has: one fact where it succeeds, and the other where it is declined for a contradiction.
abbrev pub Unless : {U : Type 0} → Result U Refusal → Type 0 → Type 0 → Type 0
Unless (Ok u) Done Not = Done
Unless (Err e) Done Not = (e ≡ Contradiction) × Not

-- A new equation goes into the system: taken, the solutions are those that keep it too; otherwise there are none.
pub record Absorbed {U : Type 0} (F : Operations) (N : ℕ) (known : List Bool) (row : ℕ → ℕ)
    (A : ℕ → ℕ → ℕ) (taken : Result U Refusal) (B : ℕ → ℕ → ℕ) : Type 0 where
  pub reduced : Reduced F N B
  pub known_rows : KnownRows N known B
  pub outcome : Unless taken ((u : ℕ → ℕ) → ((Solution F N A u × Keeps F N row u) ↔ Solution F N B u))
      ((u : ℕ → ℕ) → Solution F N A u → Keeps F N row u → ⊥)

-- The first factor of an equation that is not 0, or that there is none.
abbrev pub FirstFactor : ℕ → List ℕ → Option ℕ → Type 0
FirstFactor N row (Some c) = (c < N) × (slice_index row c ≢ 0)
FirstFactor N row None = (c : ℕ) → c < N → slice_index row c ≡ 0
