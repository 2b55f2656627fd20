-- The equations of the data cells that are present.
use Rattle.std.proofs.Common.{◌≡◌, ℕ, ◌+◌, ◌*◌, ◌/◌, ◌%◌, ◌<◌, Bool, true, false, ◌⊎◌, List, length, get_or, set, Some, None, Option, sym, ap, ◌∙◌, subst, ap₂, inl, inr, arith, get_or-set_other, get_or-set_same}
use native.Mathlib.Decide.{ℕ_discrete}
use Rattle.std.proofs.lemmas.List.{length-set}
use Rattle.std.proofs.lemmas.Option.{none-some, same_Some}
use Rattle.field.specs.Laws.{Operations, Laws}
use Rattle.algebra.proofs.Bridge.{zero_below}
use Rattle.code.specs.declared.record.Code.{Code}
use Rattle.code.specs.Stripe.{Symbols, width}
use Rattle.code.proofs.Places.{place_injective, place_below, place_parts}
use Rattle.theorems.proofs.Files.{place_node}
use Rattle.solve.specs.Systems.{entry, Keeps, Solution, Pivot, Empty, Reduced}
use Rattle.encode.specs.Encoding.{cell_count}
use Rattle.solve.specs.Cells.{ListsSymbols, Loaded, LoadedRow, DataMet, Meets, Factors, Vector, cell_at, cell_of}
use Rattle.solve.proofs.Places.{place_split, width_positive, few_symbols}
use Rattle.solve.proofs.Elimination.{keeps_alone, keeps_zeros}

module _ (code : Code) (cells : List (Option ℕ)) where
  N : ℕ
  N = code.k * code.m

  -- the number of a data cell in the list
  pub cell_inside : (p : ℕ) → p < code.k * code.m → cell_at code p < cell_count code
  cell_inside p l =
      let at = place_node code p l in
      (place_split code.n (width code) (p / code.m) (p % code.m) (omega (arith, at.0, code.data_nodes.1)) (omega (arith, at.1))).0

  -- a row without a present cell
  pub load_skip : (p : ℕ) (w : List ℕ) (known : List Bool) → get_or cells (cell_at code p) None ≡ None
      → Loaded code cells p w known → Loaded code cells (p + 1) w known
  load_skip p w known lost R s ls = again (R s ls)
    where
      again : LoadedRow code cells p w known s → LoadedRow code cells (p + 1) w known s
      again (inl h) = inl (omega (arith, h.0), h.1, h.2, h.3)
      again (inr h) = inr (still, h.1, h.2)
        where
          still : s < p + 1 → get_or cells (cell_at code s) None ≡ None
          still l = elim (ℕ_discrete s p) [ yes e ↦ subst (λ t. get_or cells (cell_at code t) None ≡ None) (sym e) lost | no d ↦ h.0 (omega arith) ]

  -- the row of a present cell
  module _ (p v : ℕ) (w : List ℕ) (known : List Bool) (lp : p < code.k * code.m) (is : get_or cells (cell_at code p) None ≡ Some v)
      (long : length w ≡ code.k * code.m * (code.k * code.m + 1)) (marks : length known ≡ 504) where
    mid : List ℕ
    mid = set w (p * (N + 1) + p) 1

    w' : List ℕ
    w' = set mid (p * (N + 1) + N) v

    known' : List Bool
    known' = set known p true

    same : (s c : ℕ) → c < N + 1 → (s ≡ p → ⊥) → entry N w' s c ≡ entry N w s c
    unfolding w' mid N
    same s c lc d =
        get_or-set_other (set w (p * (code.k * code.m + 1) + p) 1) (p * (code.k * code.m + 1) + code.k * code.m) (s * (code.k * code.m + 1) + c) v 0
        (λ e. d (place_injective (code.k * code.m + 1) s c p (code.k * code.m) lc (omega arith) e).0)
        ∙ get_or-set_other w (p * (code.k * code.m + 1) + p) (s * (code.k * code.m + 1) + c) 1 0
        (λ e. d (place_injective (code.k * code.m + 1) s c p p lc (omega arith) e).0)

    here : (c : ℕ) → c < N → (c ≡ p → ⊥) → entry N w' p c ≡ entry N w p c
    unfolding w' mid N
    here c lc d =
        get_or-set_other (set w (p * (code.k * code.m + 1) + p) 1) (p * (code.k * code.m + 1) + code.k * code.m) (p * (code.k * code.m + 1) + c) v 0
        (λ e. absurd (omega arith))
        ∙ get_or-set_other w (p * (code.k * code.m + 1) + p) (p * (code.k * code.m + 1) + c) 1 0
        (λ e. d (omega arith))

    at_p : entry N w' p p ≡ 1
    unfolding w' mid N
    at_p =
        get_or-set_other (set w (p * (code.k * code.m + 1) + p) 1) (p * (code.k * code.m + 1) + code.k * code.m) (p * (code.k * code.m + 1) + p) v 0
        (λ e. absurd (omega arith))
        ∙ get_or-set_same w (p * (code.k * code.m + 1) + p) 1 0 (omega (arith, place_below (code.k * code.m) (code.k * code.m + 1) p p lp (omega arith)))

    at_n : entry N w' p N ≡ v
    unfolding w' mid N
    at_n =
        get_or-set_same (set w (p * (code.k * code.m + 1) + p) 1) (p * (code.k * code.m + 1) + code.k * code.m) v 0
        (rw length-set (omega (arith, place_below (code.k * code.m) (code.k * code.m + 1) p (code.k * code.m) lp (omega arith))))

    pub load_enter : Loaded code cells p w known → Loaded code cells (p + 1) (set (set w (p * (code.k * code.m + 1) + p) 1) (p * (code.k * code.m + 1) + code.k * code.m) v) (set known p true)
    unfolding w' mid N known'
    load_enter R s ls = by_case (ℕ_discrete s p) (R s ls)
      where
        by_case : Dec (s ≡ p) → LoadedRow code cells p w known s → LoadedRow code cells (p + 1) w' known' s
        by_case (yes e) (inl h) = absurd (omega (arith, h.0))
        by_case (yes e) (inr h) =
            subst (λ t. LoadedRow code cells (p + 1) w' known' t) (sym e)
            (inl (omega arith, is ∙ ap Some (sym at_n), at_p, λ c lc d. here c lc d ∙ ap (λ t. entry N w t c) (sym e) ∙ h.1 c (omega arith)))
        by_case (no d) (inl h) =
            inl (omega (arith, h.0), h.1 ∙ ap Some (sym (same s N (omega arith) d)), same s s (omega arith) d ∙ h.2, λ c lc q. same s c (omega arith) d ∙ h.3 c lc q)
        by_case (no d) (inr h) =
            inr (λ l. h.0 (omega arith), λ c lc. same s c lc d ∙ h.1 c lc, get_or-set_other known p s true false d ∙ h.2)

  -- nothing is entered yet
  pub load_none : (w : List ℕ) (known : List Bool) → ((i : ℕ) → i < code.k * code.m * (code.k * code.m + 1) → get_or w i 0 ≡ 0)
      → ((p : ℕ) → p < 504 → get_or known p false ≡ false) → Loaded code cells 0 w known
  load_none w known zeros unmarked p l =
      inr (
        λ h. absurd (omega arith),
        λ c lc. zeros (p * (code.k * code.m + 1) + c) (place_below (code.k * code.m) (code.k * code.m + 1) p c l lc),
        unmarked p (omega (arith, few_symbols code)),
      )

  -- What is loaded is in reduced form, with the marked symbols known.
  module _ (F : Operations) (L : Laws F) (w : List ℕ) (known : List Bool) (R : Loaded code cells (code.k * code.m) w known)
      (symbols : ListsSymbols F code cells) where
    A : ℕ → ℕ → ℕ
    A = entry (code.k * code.m) w

    pub loaded_reduced : Reduced F (code.k * code.m) (entry (code.k * code.m) w)
    loaded_reduced = record { below = below; rows = rows }
      where
        below : (p c : ℕ) → p < code.k * code.m → c < code.k * code.m + 1 → entry (code.k * code.m) w p c < F.q
        below p c lp lc = at (R p lp) (ℕ_discrete c p) (ℕ_discrete c (code.k * code.m))
          where
            at : LoadedRow code cells (code.k * code.m) w known p → Dec (c ≡ p) → Dec (c ≡ code.k * code.m) → entry (code.k * code.m) w p c < F.q
            at (inl h) (yes e) k = rw (e, h.2) L.one_below
            at (inl h) (no d) (yes e) = rw e (symbols (cell_at code p) _ (cell_inside p lp) h.1)
            at (inl h) (no d) (no e) = rw (h.3 c (omega arith) d) (zero_below F L)
            at (inr h) d k = rw (h.1 c lc) (zero_below F L)

        rows : (p : ℕ) → p < code.k * code.m → Pivot (code.k * code.m) (entry (code.k * code.m) w) p ⊎ Empty (code.k * code.m) (entry (code.k * code.m) w) p
        rows p lp = at (R p lp)
          where
            clear : (s : ℕ) → s < code.k * code.m → (s ≡ p → ⊥) → entry (code.k * code.m) w s p ≡ 0
            clear s ls d = elim (R s ls) [ inl h ↦ h.3 p lp (λ e. d (sym e)) | inr h ↦ h.1 p (omega arith) ]

            at : LoadedRow code cells (code.k * code.m) w known p → Pivot (code.k * code.m) (entry (code.k * code.m) w) p ⊎ Empty (code.k * code.m) (entry (code.k * code.m) w) p
            at (inl h) = inl (h.2, clear)
            at (inr h) = inr h.1

    -- the data cell of a place in the stripe of u is the symbol of u there
    data_cell : (y : ℕ → Symbols) → Factors F code y → (u : ℕ → ℕ) → Vector F code u → (j t : ℕ) → j < code.k → t < code.m
        → cell_of F code y u j t ≡ u (j * code.m + t)
    data_cell y Y u U j t lj lt =
        keeps_alone F L (code.k * code.m) (λ p. y p j t) u (j * code.m + t) inside (U (j * code.m + t) inside)
        ((Y (j * code.m + t) inside).2.starts j t lj lt ∙ (Y (j * code.m + t) inside).1.there)
        (λ p lp d. (Y p lp).2.starts j t lj lt ∙ (Y p lp).1.elsewhere (j * code.m + t) (λ e. d (sym e)))
      where
        inside : j * code.m + t < code.k * code.m
        inside = place_below code.k code.m j t lj lt

    -- number x of the list, if it is the data cell of place p
    listed_cell : (x p : ℕ) → x < cell_count code → p < code.k * code.m → p / code.m ≡ x / width code → p % code.m ≡ x % width code → cell_at code p ≡ x
    listed_cell x p lx lp e f = ap₂ (λ a b. a * width code + b) e f ∙ (place_parts code.n (width code) x (width_positive code) lx).2

    pub loaded_met : DataMet F code cells (entry (code.k * code.m) w)
    loaded_met y Y u U S x lx D v present = data_cell y Y u U (x / width code) (x % width code) D.0 D.1 ∙ value (R place inside)
      where
        place : ℕ
        place = x / width code * code.m + x % width code

        split : (place < code.k * code.m) × (place / code.m ≡ x / width code) × (place % code.m ≡ x % width code)
        split = place_split code.k code.m (x / width code) (x % width code) D.0 D.1

        inside : place < code.k * code.m
        inside = split.0

        number : cell_at code place ≡ x
        number = listed_cell x place lx inside split.1 split.2

        is : get_or cells (cell_at code place) None ≡ Some v
        is = ap (λ i. get_or cells i None) number ∙ present

        value : LoadedRow code cells (code.k * code.m) w known place → u place ≡ v
        value (inl h) =
            sym (keeps_alone F L (code.k * code.m) (entry (code.k * code.m) w place) u place inside (U place inside) h.2 h.3)
            ∙ S place inside ∙ same_Some _ _ (sym h.1 ∙ is)
        value (inr h) = absurd (none-some _ (sym (h.0 inside) ∙ is))

    -- a vector that meets the data cells is a solution
    pub loaded_solution : (y : ℕ → Symbols) → Factors F code y → (u : ℕ → ℕ) → Vector F code u
        → ((x : ℕ) → x < cell_count code → Meets F code y cells u x) → Solution F (code.k * code.m) (entry (code.k * code.m) w) u
    loaded_solution y Y u U M p lp = at (R p lp)
      where
        node : (p / code.m < code.k) × (p % code.m < code.m) × (p / code.m * code.m + p % code.m ≡ p)
        node = place_node code p lp

        split : (cell_at code p < code.n * width code) × (cell_at code p / width code ≡ p / code.m) × (cell_at code p % width code ≡ p % code.m)
        split = place_split code.n (width code) (p / code.m) (p % code.m) (omega (arith, node.0, code.data_nodes.1)) (omega (arith, node.1))

        value : (v : ℕ) → get_or cells (cell_at code p) None ≡ Some v → u p ≡ v
        value v present =
            ap u (sym node.2)
            ∙ sym (data_cell y Y u U (p / code.m) (p % code.m) node.0 node.1)
            ∙ ap₂ (cell_of F code y u) (sym split.1) (sym split.2)
            ∙ M (cell_at code p) split.0 v present

        at : LoadedRow code cells (code.k * code.m) w known p → Keeps F (code.k * code.m) (entry (code.k * code.m) w p) u
        at (inl h) =
            keeps_alone F L (code.k * code.m) (entry (code.k * code.m) w p) u p lp (U p lp) h.2 h.3 ∙ value _ h.1
        at (inr h) = keeps_zeros F L (code.k * code.m) (entry (code.k * code.m) w p) u h.1

-- the same with the numbers as the code computes them
pub cell_number : (code : Code) (p m columns : ℕ) → m ≡ code.m → columns ≡ width code → p / m * columns + p % m ≡ cell_at code p
cell_number code p m columns e f = ap₂ (λ a b. p / a * b + p % a) e f

pub load_enter_as : (code : Code) (cells : List (Option ℕ)) (p v n : ℕ) (w : List ℕ) (known : List Bool) → n ≡ code.k * code.m → p < code.k * code.m
    → get_or cells (cell_at code p) None ≡ Some v → length w ≡ code.k * code.m * (code.k * code.m + 1) → length known ≡ 504
    → Loaded code cells p w known → Loaded code cells (p + 1) (set (set w (p * (n + 1) + p) 1) (p * (n + 1) + n) v) (set known p true)
load_enter_as code cells p v n w known e lp is long marks R =
    subst (λ t. Loaded code cells (p + 1) (set (set w (p * (t + 1) + p) 1) (p * (t + 1) + t) v) (set known p true)) (sym e)
    (load_enter code cells p v w known lp is long marks R)
