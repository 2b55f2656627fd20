-- A cell as an equation of the system.
use Rattle.std.proofs.Common.{◌≡◌, ℕ, ◌+◌, ◌*◌, ◌/◌, ◌%◌, ◌<◌, Bool, ◌↔◌, List, get_or, Some, None, Ok, Err, Option, Result, sym, ap, ◌∙◌, subst, arith}
use native.Mathlib.Decide.{ℕ_discrete}
use Rattle.std.proofs.lemmas.Option.{same_Some}
use Rattle.field.specs.Laws.{Operations, Laws}
use Rattle.algebra.specs.Sums.{sum}
use Rattle.algebra.proofs.Numbers as n
use Rattle.code.specs.declared.record.Code.{Code}
use Rattle.code.specs.declared.refusal.Refusal.{Refusal}
use Rattle.code.specs.declared.refusal.Refusal.TheVariants.{Contradiction}
use Rattle.code.specs.Stripe.{Symbols, width}
use Rattle.theorems.specs.Linear.{IsFactor}
use Rattle.theorems.proofs.Files.{single_file}
use Rattle.theorems.proofs.Stripes.{stripe_of, stripe_exists}
use Rattle.solve.specs.Systems.{Keeps, Solution, Absorbed, Unless}
use Rattle.solve.specs.Factors.{IsEquation}
use Rattle.encode.specs.Encoding.{cell_count}
use Rattle.solve.specs.Cells.{Took, TookAll, Contradicts, DataMet, DataCell, Meets, Factors, Vector, cell_of}

-- each place has its factors
pub factor_of : (F : Operations) (L : Laws F) (code : Code) (p : ℕ) → p < code.k * code.m → (y : Symbols) × IsFactor F code p y
factor_of F L code p l =
    let e = single_file F L code p 1 l L.one_below in
    (stripe_of F L code e.0 e.1.is_file, (e.0, e.1, stripe_exists F L code e.0 e.1.is_file))

-- the numbers of an equation are symbols
pub equation_below : (F : Operations) (L : Laws F) (code : Code) (v c value : ℕ) (row : List ℕ) → v < code.n → c < width code → value < F.q
    → IsEquation F code v c value row → (i : ℕ) → i < code.k * code.m + 1 → get_or row i 0 < F.q
equation_below F L code v c value row lv lc b E i l =
    elim (ℕ_discrete i (code.k * code.m)) [
      | yes e ↦ rw (e, E.right) b
      | no d ↦
          let inside : i < code.k * code.m = omega arith in
          let y = factor_of F L code i inside in
          rw (E.factors i y.0 inside y.1) (y.1.2.symbols v c lv lc)
    ]

-- a vector keeps the equation of a cell exactly if that cell of its stripe is the value
pub keeps_cell : (F : Operations) (L : Laws F) (code : Code) (v c value : ℕ) (row : List ℕ) → IsEquation F code v c value row
    → (y : ℕ → Symbols) → Factors F code y → (u : ℕ → ℕ) → (Keeps F (code.k * code.m) (λ i. get_or row i 0) u ↔ (cell_of F code y u v c ≡ value))
keeps_cell F L code v c value row E y Y u = (λ h. sym same ∙ h ∙ E.right, λ h. same ∙ h ∙ sym E.right)
  where
    same : sum F (code.k * code.m) (λ p. F.mul (get_or row p 0) (u p)) ≡ cell_of F code y u v c
    same =
        n.sum_ext F L (code.k * code.m) (λ p. F.mul (get_or row p 0) (u p)) (λ p. F.mul (y p v c) (u p))
        (λ p l. ap (λ t. F.mul t (u p)) (E.factors p (y p) l (Y p l)))

-- a cell whose equation goes into the system
pub took_cell : {U : Type 0} (F : Operations) (L : Laws F) (code : Code) (cells : List (Option ℕ)) (known : List Bool) (x N columns value : ℕ) (row : List ℕ)
    (A B : ℕ → ℕ → ℕ → ℕ) (taken : Result U Refusal)
    → N ≡ code.k * code.m → columns ≡ width code → get_or cells x None ≡ Some value
    → IsEquation F code (x / columns) (x % columns) value row
    → Absorbed F N known (λ i. get_or row i 0) (A N) taken (B N)
    → Took F code cells known x (A (code.k * code.m)) taken (B (code.k * code.m))
took_cell F L code cells known x N columns value row A B taken eN eW present E' X' =
    record { reduced = X.reduced; known_rows = X.known_rows; outcome = outcome taken X.outcome }
  where
    X : Absorbed F (code.k * code.m) known (λ i. get_or row i 0) (A (code.k * code.m)) taken (B (code.k * code.m))
    X = subst (λ t. Absorbed F t known (λ i. get_or row i 0) (A t) taken (B t)) eN X'

    E : IsEquation F code (x / width code) (x % width code) value row
    E = subst (λ t. IsEquation F code (x / t) (x % t) value row) eW E'

    cell : (y : ℕ → Symbols) → Factors F code y → (u : ℕ → ℕ)
        → (Keeps F (code.k * code.m) (λ i. get_or row i 0) u ↔ (cell_of F code y u (x / width code) (x % width code) ≡ value))
    cell y Y u = keeps_cell F L code (x / width code) (x % width code) value row E y Y u

    meets : (y : ℕ → Symbols) → Factors F code y → (u : ℕ → ℕ) → (Keeps F (code.k * code.m) (λ i. get_or row i 0) u ↔ Meets F code y cells u x)
    meets y Y u = (λ k v is. (cell y Y u).0 k ∙ same_Some _ _ (sym present ∙ is), λ m. (cell y Y u).1 (m value present))

    outcome : {U : Type 0} (taken : Result U Refusal)
        → Unless taken ((u : ℕ → ℕ) → ((Solution F (code.k * code.m) (A (code.k * code.m)) u × Keeps F (code.k * code.m) (λ i. get_or row i 0) u)
        ↔ Solution F (code.k * code.m) (B (code.k * code.m)) u))
        ((u : ℕ → ℕ) → Solution F (code.k * code.m) (A (code.k * code.m)) u → Keeps F (code.k * code.m) (λ i. get_or row i 0) u → ⊥)
        → Unless taken
        ((y : ℕ → Symbols) → Factors F code y → (u : ℕ → ℕ)
        → (DataCell code x → Solution F (code.k * code.m) (A (code.k * code.m)) u → Meets F code y cells u x)
        → ((Solution F (code.k * code.m) (A (code.k * code.m)) u × Meets F code y cells u x) ↔ Solution F (code.k * code.m) (B (code.k * code.m)) u))
        ((y : ℕ → Symbols) → Factors F code y → (u : ℕ → ℕ)
        → Solution F (code.k * code.m) (A (code.k * code.m)) u → Meets F code y cells u x → ⊥)
    outcome (Ok t) h = λ y Y u m. (
      λ s. (h u).0 (s.0, (meets y Y u).1 s.1),
      λ s. (((h u).1 s).0, (meets y Y u).0 ((h u).1 s).1),
    )
    outcome (Err e) h = (h.0, λ y Y u s m. h.1 u s ((meets y Y u).1 m))

module _ (F : Operations) (code : Code) (cells : List (Option ℕ)) (known : List Bool) (A : ℕ → ℕ → ℕ) (D : DataMet F code cells A) where
  N : ℕ
  N = code.k * code.m

  pub took_more : {U : Type 0} (t : U) (x : ℕ) (B C : ℕ → ℕ → ℕ) → x < cell_count code → TookAll F code cells known x A B
      → Took {U = U} F code cells known x B (Ok t) C → TookAll F code cells known (x + 1) A C
  took_more t x B C lx T S = record { reduced = S.reduced; known_rows = S.known_rows; solutions = solutions }
    where
      solutions : (y : ℕ → Symbols) → Factors F code y → (u : ℕ → ℕ) → Vector F code u
          → ((Solution F (code.k * code.m) A u × ((i : ℕ) → i < x + 1 → Meets F code y cells u i)) ↔ Solution F (code.k * code.m) C u)
      solutions y Y u U = (forth, back)
        where
          step : (Solution F (code.k * code.m) B u × Meets F code y cells u x) ↔ Solution F (code.k * code.m) C u
          step = S.outcome y Y u (λ d s. D y Y u U ((T.solutions y Y u U).1 s).0 x lx d)

          forth : Solution F (code.k * code.m) A u × ((i : ℕ) → i < x + 1 → Meets F code y cells u i) → Solution F (code.k * code.m) C u
          forth h = step.0 ((T.solutions y Y u U).0 (h.0, λ i l. h.1 i (omega arith)), h.1 x (omega arith))

          back : Solution F (code.k * code.m) C u → Solution F (code.k * code.m) A u × ((i : ℕ) → i < x + 1 → Meets F code y cells u i)
          back s =
              let b = step.1 s in
              let a = (T.solutions y Y u U).1 b.0 in
              (a.0, λ i l. elim (ℕ_discrete i x) [ yes q ↦ subst (λ t. Meets F code y cells u t) (sym q) b.1 | no d ↦ a.1 i (omega arith) ])

  pub took_stop : {U : Type 0} (e : Refusal) (x : ℕ) (B C : ℕ → ℕ → ℕ) → x < cell_count code → TookAll F code cells known x A B
      → Took {U = U} F code cells known x B (Err e) C → (e ≡ Contradiction) × Contradicts F code cells A
  took_stop e x B C lx T S =
      (S.outcome.0, λ y Y u U s m. S.outcome.1 y Y u ((T.solutions y Y u U).0 (s, λ i l. m i (omega arith))) (m x lx))
