-- Solutions of the system are the fitting files, and what its form says of them.
use Rattle.std.proofs.Common.{◌≡◌, ℕ, ◌+◌, ◌*◌, ◌/◌, ◌%◌, ◌<◌, ◌≤◌, Bool, ◌↔◌, List, get_or, Some, None, Ok, Err, Option, Result, sym, ap, ◌∙◌, subst, ap₂, inl, inr, arith}
use native.Mathlib.Decide.{dec_lt}
use Rattle.field.specs.Laws.{Operations, Laws}
use Rattle.algebra.proofs.Numbers as n
use Rattle.code.specs.declared.record.Code.{Code}
use Rattle.code.specs.declared.refusal.Refusal.{Refusal}
use Rattle.code.specs.Stripe.{Symbols, Held, IsFile, Fits, width}
use Rattle.theorems.specs.Linear.{IsFactor}
use Rattle.theorems.proofs.Files.{file_below, same_file, file_from, file_from_has, file_from_is}
use Rattle.theorems.proofs.Factors.{weighted_sum}
use Rattle.theorems.proofs.Stripes.{stripe_of, stripe_exists}
use Rattle.solve.specs.Systems.{entry, Solution, Unless}
use Rattle.code.specs.Held.{ForeignAt}
use Rattle.encode.specs.Encoding.{cell_count}
use Rattle.solve.specs.Cells.{Lists, ListsSymbols, Loaded, TookAll, Contradicts, Meets, Factors, Vector, cell_of}
use Rattle.solve.specs.Answers.{SharedAt}
use Rattle.solve.specs.Decisions.{NoForeign, Built, Complete, NoneMeets, FitsSolve, Lone, DifferAt, TwoFit, OnlyFront}
use Rattle.code.proofs.Places.{place_parts}
use Rattle.solve.proofs.Places.{place_split, width_positive}
use Rattle.solve.proofs.Elimination.{base_solves, alone_shared, Differ, free_differs, factor_differs}
use Rattle.solve.proofs.Loading.{loaded_solution}
use Rattle.solve.proofs.Meeting.{factor_of}

-- factors for all places
pub all_factors : (F : Operations) (L : Laws F) (code : Code) → (y : ℕ → Symbols) × Factors F code y
all_factors F L code = (y, λ p l. by_case p l (dec_lt p (code.k * code.m)))
  where
    at : (p : ℕ) → Dec (p < code.k * code.m) → Symbols
    at p (yes l) = (factor_of F L code p l).0
    at p (no h) = λ j c. 0

    y : ℕ → Symbols
    y p = at p (dec_lt p (code.k * code.m))

    by_case : (p : ℕ) → p < code.k * code.m → (d : Dec (p < code.k * code.m)) → IsFactor F code p (at p d)
    by_case p l (yes h) = (factor_of F L code p h).1
    by_case p l (no h) = absurd (h l)

module _ (F : Operations) (L : Laws F) (code : Code) (held : Held) (cells : List (Option ℕ)) (G : Lists F code held (cell_count code) cells) where
  pub listed_proper : NoForeign F code held
  listed_proper j c inside foreign =
      let at = place_split code.n (width code) j c inside.0 inside.1 in
      (G (j * width code + c) at.0).1
      (subst (λ t. ForeignAt F held t ((j * width code + c) % width code)) (sym at.1) (subst (λ t. ForeignAt F held j t) (sym at.2) foreign))

  -- a present cell that is listed is a symbol
  pub listed_symbols : ListsSymbols F code cells
  listed_symbols x v l present = elim (dec_lt v F.q) [ yes h ↦ h | no h ↦ absurd ((G x l).1 (v, sym (G x l).0 ∙ present, omega arith)) ]

  -- a file fits exactly if its symbols meet all listed cells
  pub met_fits : (y : ℕ → Symbols) → Factors F code y → (file : List ℕ) → IsFile F code file
      → (((x : ℕ) → x < cell_count code → Meets F code y cells (λ p. get_or file p 0) x) ↔ Fits F code held file)
  met_fits y Y file I = (forth, back)
    where
      forth : ((x : ℕ) → x < cell_count code → Meets F code y cells (λ p. get_or file p 0) x) → Fits F code held file
      forth M = record { is_file = I; stripe = stripe_of F L code file I; is_stripe = stripe_exists F L code file I; agrees = agrees }
        where
          agrees : (j c v : ℕ) → j < code.n → c < width code → held j c ≡ Some v → stripe_of F L code file I j c ≡ v
          agrees j c v lj lc e =
              weighted_sum F L code file (stripe_of F L code file I) y I (stripe_exists F L code file I) Y j c lj lc
              ∙ ap₂ (cell_of F code y (λ p. get_or file p 0)) (sym at.1) (sym at.2)
              ∙ M (j * width code + c) at.0 v ((G (j * width code + c) at.0).0 ∙ ap₂ held at.1 at.2 ∙ e)
            where
              at : (j * width code + c < code.n * width code) × ((j * width code + c) / width code ≡ j) × ((j * width code + c) % width code ≡ c)
              at = place_split code.n (width code) j c lj lc

      back : Fits F code held file → (x : ℕ) → x < cell_count code → Meets F code y cells (λ p. get_or file p 0) x
      back K x l v present =
          let at = place_parts code.n (width code) x (width_positive code) l in
          sym (weighted_sum F L code file K.stripe y I K.is_stripe Y (x / width code) (x % width code) at.0 at.1)
          ∙ K.agrees (x / width code) (x % width code) v at.0 at.1 (sym (G x l).0 ∙ present)

  file_vector : (file : List ℕ) → IsFile F code file → Vector F code (λ p. get_or file p 0)
  file_vector file I p l = file_below F L code file I p

  pub complete_solves : (w : List ℕ) → Complete F code cells w → FitsSolve F code held w
  complete_solves w C = record { proper = listed_proper; reduced = C.reduced; solutions = solutions }
    where
      solutions : (u : List ℕ) → IsFile F code u → (Solution F (code.k * code.m) (entry (code.k * code.m) w) (λ p. get_or u p 0) ↔ Fits F code held u)
      solutions u I =
          let y = all_factors F L code in
          let met = C.solutions y.0 y.1 (λ p. get_or u p 0) (file_vector u I) in
          let fit = met_fits y.0 y.1 u I in
          (λ s. fit.0 (met.0 s), λ f. met.1 (fit.1 f))

  pub none_fits : NoneMeets F code cells → (u : List ℕ) → Fits F code held u → ⊥
  none_fits none u K =
      let y = all_factors F L code in
      none y.0 y.1 (λ p. get_or u p 0) (file_vector u K.is_file) ((met_fits y.0 y.1 u K.is_file).1 K)

  -- what building the system of the listed cells says of the files
  pub built_from : {U : Type 0} (w : List ℕ) (r : Result U Refusal) → Unless r (Complete F code cells w) (NoneMeets F code cells) → Built F code held w r
  built_from w (Ok t) C = complete_solves w C
  built_from w (Err e) C = rw C.0 (listed_proper, none_fits C.1)

-- all cells are taken up by the system of the data cells, or they contradict one another
pub taken_built : {U : Type 0} (F : Operations) (L : Laws F) (code : Code) (cells : List (Option ℕ)) (n : ℕ) (loaded after : List ℕ) (known marks : List Bool)
    (r : Result U Refusal) → n ≡ code.k * code.m → Loaded code cells (code.k * code.m) loaded known → ListsSymbols F code cells
    → Unless r (TookAll F code cells marks (cell_count code) (entry n loaded) (entry n after)) (Contradicts F code cells (entry n loaded))
    → Unless r (Complete F code cells after) (NoneMeets F code cells)
taken_built F L code cells n loaded after known marks r e R symbols =
    rw e (by_case r)
  where
    by_case : {U : Type 0} (r : Result U Refusal)
        → Unless r (TookAll F code cells marks (cell_count code) (entry (code.k * code.m) loaded) (entry (code.k * code.m) after))
        (Contradicts F code cells (entry (code.k * code.m) loaded)) → Unless r (Complete F code cells after) (NoneMeets F code cells)
    by_case (Ok t) T = record {
      reduced = T.reduced;
      solutions = λ y Y u U. (
        λ s. ((T.solutions y Y u U).1 s).1,
        λ m. (T.solutions y Y u U).0 (loaded_solution code cells F L loaded known R symbols y Y u U m, m),
      );
    }
    by_case (Err f) C = (C.0, λ y Y u U m. C.1 y Y u U (loaded_solution code cells F L loaded known R symbols y Y u U m) m)

-- What the system decides for a place.
module _ (F : Operations) (L : Laws F) (code : Code) (held : Held) (w : List ℕ) (S : FitsSolve F code held w) where
  -- a solution is a fitting file
  module _ (u : ℕ → ℕ) (below : (p : ℕ) → p < code.k * code.m → u p < F.q)
      (solves : Solution F (code.k * code.m) (entry (code.k * code.m) w) u) where
    pub as_file : List ℕ
    as_file = file_from F L code u

    pub as_file_has : (p : ℕ) → p < code.k * code.m → get_or as_file p 0 ≡ u p
    unfolding as_file
    as_file_has = file_from_has F L code u

    pub as_file_fits : Fits F code held as_file
    unfolding as_file
    as_file_fits = (S.solutions (file_from F L code u) (file_from_is F L code u below)).0 same
      where
        same : Solution F (code.k * code.m) (entry (code.k * code.m) w) (λ p. get_or (file_from F L code u) p 0)
        same p l =
            n.sum_ext F L (code.k * code.m) (λ c. F.mul (entry (code.k * code.m) w p c) (get_or (file_from F L code u) c 0))
            (λ c. F.mul (entry (code.k * code.m) w p c) (u c)) (λ c lc. ap (F.mul (entry (code.k * code.m) w p c)) (file_from_has F L code u c lc))
            ∙ solves p l

  -- the right sides of the equations
  abbrev rights : ℕ → ℕ
  rights p = entry (code.k * code.m) w p (code.k * code.m)

  rights_below : (p : ℕ) → p < code.k * code.m → rights p < F.q
  rights_below p l = S.reduced.below p (code.k * code.m) l (omega arith)

  rights_solve : Solution F (code.k * code.m) (entry (code.k * code.m) w) rights
  rights_solve = base_solves F L (code.k * code.m) (entry (code.k * code.m) w) S.reduced

  -- the file of the right sides fits
  pub right_sides : List ℕ
  right_sides = as_file rights rights_below rights_solve

  pub right_sides_has : (p : ℕ) → p < code.k * code.m → get_or right_sides p 0 ≡ entry (code.k * code.m) w p (code.k * code.m)
  unfolding right_sides
  right_sides_has = as_file_has rights rights_below rights_solve

  pub right_sides_fit : Fits F code held right_sides
  unfolding right_sides
  right_sides_fit = as_file_fits rights rights_below rights_solve

  pub lone_shared : (p v : ℕ) → p < code.k * code.m → Lone (code.k * code.m) (entry (code.k * code.m) w) p (Some v) → SharedAt F code held p v
  lone_shared p v l A = record {
    fitting = right_sides;
    fits = right_sides_fit;
    shared = λ u K.
        alone_shared F L (code.k * code.m) (entry (code.k * code.m) w) S.reduced p l A.0 A.1 (λ i. get_or u i 0)
        (file_below F L code u K.is_file p) ((S.solutions u K.is_file).1 K)
        ∙ sym A.2;
  }

  differing : (p : ℕ) → p < code.k * code.m → Differ F L (code.k * code.m) (entry (code.k * code.m) w) S.reduced p → DifferAt F code held p
  differing p l D = (
    as_file D.first D.first_below D.first_solves,
    as_file D.second D.second_below D.second_solves,
    as_file_fits D.first D.first_below D.first_solves,
    as_file_fits D.second D.second_below D.second_solves,
    λ e. D.differ (sym (as_file_has D.first D.first_below D.first_solves p l) ∙ e ∙ as_file_has D.second D.second_below D.second_solves p l),
  )

  pub lone_open : (p : ℕ) → p < code.k * code.m → Lone (code.k * code.m) (entry (code.k * code.m) w) p None → DifferAt F code held p
  lone_open p l (inl z) = differing p l (free_differs F L (code.k * code.m) (entry (code.k * code.m) w) S.reduced p l z)
  lone_open p l (inr h) = differing p l (factor_differs F L (code.k * code.m) (entry (code.k * code.m) w) S.reduced p h.0 l h.1 h.2 h.3)

  -- Where every equation stands alone, one file fits.
  pub all_lone_only : (after : List ℕ)
      → ((p : ℕ) → p < code.k * code.m → Lone (code.k * code.m) (entry (code.k * code.m) w) p (Some (entry (code.k * code.m) w p (code.k * code.m))))
      → ((p : ℕ) → p < code.k * code.m → get_or after p 0 ≡ entry (code.k * code.m) w p (code.k * code.m))
      → ((p : ℕ) → code.k * code.m ≤ p → get_or after p 0 ≡ 0) → OnlyFront F code held after
  all_lone_only after alone moved zeros = record {
    fitting = right_sides;
    fits = right_sides_fit;
    only = λ u K. same_file F code u right_sides K.is_file right_sides_fit.is_file
        (λ p l. (lone_shared p (entry (code.k * code.m) w p (code.k * code.m)) l (alone p l)).shared u K ∙ sym (right_sides_has p l));
    symbols = λ p l. moved p l ∙ sym (right_sides_has p l);
    zeros = zeros;
  }

  pub some_open : (p : ℕ) → p < code.k * code.m → Lone (code.k * code.m) (entry (code.k * code.m) w) p None → TwoFit F code held
  some_open p l o = let d = lone_open p l o in (d.0, d.1, d.2, d.3, λ e. d.4 (ap (λ t. get_or t p 0) e))
