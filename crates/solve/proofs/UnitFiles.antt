-- The factors of one place in all cells, from one data column.
use Rattle.std.proofs.Common.{◌≡◌, ℕ, ◌+◌, ◌-◌, ◌*◌, ◌/◌, ◌%◌, ◌<◌, ◌≤◌, ◌≢◌, List, [], length, get_or, set, Ok, Err, Result, sym, refl, ap, ◌∙◌, subst, ap₂, add-zero, arith, get_or-set_other, get_or-set_same}
use native.Mathlib.Decide.{ℕ_discrete, dec_lt}
use Rattle.std.proofs.lemmas.List.{length-set, get_or_past}
use Rattle.field.specs.Laws.{Operations, Laws, power}
use Rattle.algebra.proofs.Bridge.{zero_below}
use Rattle.algebra.proofs.Numbers as n
use Rattle.algebra.proofs.Vandermonde.{vandermonde_completes, plain_points}
use Rattle.code.specs.declared.record.Code.{Code}
use Rattle.code.specs.declared.refusal.Refusal.{Refusal}
use Rattle.code.specs.declared.refusal.Refusal.TheVariants.{Bounds, Shape, Length, Work, Outside, Symbol, Foreign, Lost, Contradiction, Ambiguous, Allowance}
use Rattle.code.specs.Positions.{behind}
use Rattle.code.specs.Stripe.{Symbols, width}
use Rattle.theorems.specs.Linear.{SingleFile, IsFactor}
use Rattle.code.proofs.CountedRound.{behind_below}
use Rattle.code.proofs.Places.{place_below, place_injective}
use Rattle.theorems.proofs.Files.{place_node}
use Rattle.theorems.proofs.Ruled.{stripe_ruled, column_from_data, column_syndromes, coded_cell, nodes_positive}
use Rattle.encode.specs.Encoding.{Encoded, Declined, in_memory}
use Rattle.solve.specs.Factors.{ColumnOf, ColumnTable, Weight, IsEquation}
use Rattle.solve.proofs.Places.{few_cells}

-- a list of k·m numbers that is 1 at p and 0 elsewhere is the unit file at p
pub unit_file : (F : Operations) (L : Laws F) (code : Code) (p : ℕ) (blank : List ℕ) → p < code.k * code.m → length blank ≡ code.k * code.m
    → ((o : ℕ) → o < code.k * code.m → get_or blank o 0 ≡ 0) → SingleFile F code p 1 (set blank p 1)
unit_file F L code p blank l long e = record { is_file = record { long = len; symbols = below }; there = there; elsewhere = elsewhere }
  where
    len : length (set blank p 1) ≡ code.k * code.m
    len = length-set blank p 1 ∙ long

    there : get_or (set blank p 1) p 0 ≡ 1
    there = get_or-set_same blank p 1 0 (omega arith)

    elsewhere : (o : ℕ) → (o ≡ p → ⊥) → get_or (set blank p 1) o 0 ≡ 0
    elsewhere o d =
        get_or-set_other blank p o 1 0 d
        ∙ elim (dec_lt o (code.k * code.m)) [ yes h ↦ e o h | no h ↦ get_or_past blank o 0 (omega arith) ]

    below : (o : ℕ) → o < length (set blank p 1) → get_or (set blank p 1) o 0 < F.q
    below o lo = elim (ℕ_discrete o p) [ yes q ↦ rw (q, there) L.one_below | no d ↦ rw (elsewhere o d) (zero_below F L) ]

-- encoding it is not declined
pub encoded_unit : (F : Operations) (code : Code) (p : ℕ) (file before after : List ℕ) (r : Result ℕ Refusal) → SingleFile F code p 1 file
    → length before ≡ 704 → Encoded F code file before r after → IsFactor F code p (in_memory code after)
encoded_unit F code p file before after (Ok v) S long E = (file, S, E.2.stripe)
encoded_unit F code p file before after (Err e) S long E = absurd (never e E.0.0)
  where
    never : (e : Refusal) → Declined F code file (length before) e → ⊥
    never Bounds h = h
    never Shape h = omega (arith, few_cells code)
    never Length h = h S.is_file.long
    never Work h = h
    never Outside h = h
    never Symbol h = let b = S.is_file.symbols h.0 h.1 in omega (arith, h.2, b)
    never (Foreign v c) h = h
    never (Lost v c) h = h
    never Contradiction h = h
    never Ambiguous h = h
    never Allowance h = h

module _ (F : Operations) (L : Laws F) (code : Code) where
  -- the data part of the column of a place
  starts_same : (j t s : ℕ) (x y : Symbols) → j < code.k → t < code.m → s < code.m → IsFactor F code (j * code.m + t) x
      → IsFactor F code (j * code.m + s) y → (v : ℕ) → v < code.k → x v t ≡ y v s
  starts_same j t s x y lj lt ls X Y v lv = X.2.starts v t lv lt ∙ by_case (ℕ_discrete v j) ∙ sym (Y.2.starts v s lv ls)
    where
      by_case : Dec (v ≡ j) → get_or X.0 (v * code.m + t) 0 ≡ get_or Y.0 (v * code.m + s) 0
      by_case (yes e) = rw e (X.1.there ∙ sym Y.1.there)
      by_case (no d) =
          X.1.elsewhere (v * code.m + t) (λ e. d (place_injective code.m v t j t lt lt e).0)
          ∙ sym (Y.1.elsewhere (v * code.m + s) (λ e. d (place_injective code.m v s j s ls ls e).0))

  -- the column of a place is the same for all places of its node
  pub column_same : (j t s : ℕ) (x y : Symbols) → j < code.k → t < code.m → s < code.m → IsFactor F code (j * code.m + t) x
      → IsFactor F code (j * code.m + s) y → (v : ℕ) → v < code.n → x v t ≡ y v s
  column_same j t s x y lj lt ls X Y =
      (vandermonde_completes F L code.n code.k (omega (arith, code.data_nodes.1)) (power F F.α)
      (plain_points F L code.n code.nodes.1) (λ v. x v t) (λ v l. X.2.symbols v t (omega (arith, code.data_nodes.1)) (omega arith))).1
      (λ v. x v t) (λ v. y v s)
      (record {
        below = λ v l. X.2.symbols v t l (omega arith);
        starts = λ v l. refl;
        vanishes = λ i l. column_syndromes F L code x X.2.columns t i lt l;
      })
      (record {
        below = λ v l. Y.2.symbols v s l (omega arith);
        starts = λ v l. sym (starts_same j t s x y lj lt ls X Y v l);
        vanishes = λ i l. column_syndromes F L code y Y.2.columns s i ls l;
      })

  -- the other data columns are 0
  pub other_column : (j t s : ℕ) (y : Symbols) → j < code.k → t < code.m → s < code.m → (s ≡ t → ⊥) → IsFactor F code (j * code.m + t) y
      → (v : ℕ) → v < code.n → y v s ≡ 0
  other_column j t s y lj lt ls d Y =
      column_from_data F L code y (stripe_ruled F code Y.0 y Y.2) s ls
      (λ i li. Y.2.starts i s li ls ∙ Y.1.elsewhere (i * code.m + s) (λ e. d (place_injective code.m i s j t ls lt e).1))

  -- a coded cell depends on one cell of the column
  pub coded_factor : (j t v i : ℕ) (y : Symbols) → j < code.k → t < code.m → v < code.n → i < code.a → IsFactor F code (j * code.m + t) y
      → F.mul (power F F.α (i * t)) (y (behind code.n (behind code.n v i) (t + 1)) t) ≡ y v (code.m + i)
  coded_factor j t v i y lj lt lv li Y =
      sym (coded_cell F L code y Y.2.groups v i lv li
      ∙ n.sum_single F L code.m t term lt (L.mul_below (power F F.α (i * t)) (y (at t) t))
      (λ s ls d. ap (F.mul (power F F.α (i * s))) (other_column j t s y lj lt ls d Y (at s) (behind_below code.n (behind code.n v i) (s + 1) (nodes_positive F L code)))
      ∙ n.mul-zero F L (power F F.α (i * s))))
    where
      at : ℕ → ℕ
      at s = behind code.n (behind code.n v i) (s + 1)

      term : ℕ → ℕ
      term s = F.mul (power F F.α (i * s)) (y (at s) s)

-- what the file is written as, and what it is encoded to
pub unit_encoded : (F : Operations) (L : Laws F) (code : Code) (j m : ℕ) (blank before after : List ℕ) (r : Result ℕ Refusal) → m ≡ code.m → j < code.k
    → length blank ≡ code.k * code.m → ((o : ℕ) → o < code.k * code.m → get_or blank o 0 ≡ 0) → length before ≡ 704
    → Encoded F code (set blank (j * m) 1) before r after → IsFactor F code (j * code.m) (in_memory code after)
unit_encoded F L code j m blank before after r e lj long zeros room E =
    encoded_unit F code (j * code.m) (set blank (j * code.m) 1) before after r (unit_file F L code (j * code.m) blank inside long zeros) room
    (subst (λ t. Encoded F code (set blank (j * t) 1) before r after) e E)
  where
    inside : j * code.m < code.k * code.m
    inside = let p : j * code.m + 0 < code.k * code.m = place_below code.k code.m j 0 lj (omega (arith, code.data_columns.0)) in omega arith

-- the column of j, copied from the cells of a unit file
pub column_made : (F : Operations) (L : Laws F) (code : Code) (j columns : ℕ) (cells column : List ℕ) → j < code.k → columns ≡ width code
    → ((v : ℕ) → v < code.n → get_or column v 0 ≡ get_or cells (v * columns) 0) → IsFactor F code (j * code.m) (in_memory code cells)
    → ColumnOf F code j column
column_made F L code j columns cells column lj e copied X v t y lv lt Y =
    copied v lv
    ∙ ap (λ i. get_or cells i 0) same
    ∙ column_same F L code j 0 t (in_memory code cells) y lj (omega (arith, code.data_columns.0)) lt
    (subst (λ p. IsFactor F code p (in_memory code cells)) start X) Y v lv
  where
    same : v * columns ≡ v * width code + 0
    same = ap (λ t. v * t) e ∙ sym (add-zero (v * width code))

    start : j * code.m ≡ j * code.m + 0
    start = sym (add-zero (j * code.m))

pub weight_same : (F : Operations) (L : Laws F) (code : Code) (v c t : ℕ) → v < code.n → c < width code → c ≡ t → Weight F code v c t v 1
weight_same F L code v c t lv lc e = record {
  node = lv;
  factor = λ j y lj Y. ap (λ s. F.mul 1 (y v s)) (sym e) ∙ n.one-mul F L (y v c) (Y.2.symbols v c lv lc);
}

pub weight_other : (F : Operations) (L : Laws F) (code : Code) (v c t : ℕ) → v < code.n → c < code.m → t < code.m → (c ≡ t → ⊥) → Weight F code v c t v 0
weight_other F L code v c t lv lc lt d = record {
  node = lv;
  factor = λ j y lj Y. n.zero-mul F L (y v t) ∙ sym (other_column F L code j t c y lj lt lc d Y v lv);
}

pub weight_coded : (F : Operations) (L : Laws F) (code : Code) (v c t m w scale : ℕ) → m ≡ code.m → v < code.n → c < width code → t < code.m → m ≤ c
    → w ≡ behind code.n (behind code.n v (c - m)) (t + 1) → scale ≡ power F F.α ((c - m) * t) → Weight F code v c t w scale
weight_coded F L code v c t m w scale e lv lc lt far is s = record {
  node = rw is (behind_below code.n (behind code.n v (c - m)) (t + 1) (nodes_positive F L code));
  factor = λ j y lj Y.
      ap₂ (λ a b. F.mul a (y b t)) s is
      ∙ coded_factor F L code j t v (c - m) y lj lt lv (omega arith) Y
      ∙ (let back : code.m + (c - m) ≡ c = omega arith in ap (y v) back);
}

-- one more factor in a row
pub factor_step : (m t j x : ℕ) (f : ℕ → ℕ) (before row : List ℕ) → t < m → j * m + t < length row → x ≡ f j
    → ((i : ℕ) → i < j → get_or row (i * m + t) 0 ≡ f i)
    → ((i : ℕ) → ((h : ℕ) → h < j → i ≡ h * m + t → ⊥) → get_or row i 0 ≡ get_or before i 0)
    → ((i : ℕ) → i < j + 1 → get_or (set row (j * m + t) x) (i * m + t) 0 ≡ f i)
    × ((i : ℕ) → ((h : ℕ) → h < j + 1 → i ≡ h * m + t → ⊥) → get_or (set row (j * m + t) x) i 0 ≡ get_or before i 0)
factor_step m t j x f before row lt l e done kept = (more, others)
  where
    more : (i : ℕ) → i < j + 1 → get_or (set row (j * m + t) x) (i * m + t) 0 ≡ f i
    more i li = by_case (ℕ_discrete i j)
      where
        by_case : Dec (i ≡ j) → get_or (set row (j * m + t) x) (i * m + t) 0 ≡ f i
        by_case (yes q) = rw q (get_or-set_same row (j * m + t) x 0 l ∙ e)
        by_case (no q) = get_or-set_other row (j * m + t) (i * m + t) x 0 (λ p. q (place_injective m i t j t lt lt p).0) ∙ done i (omega arith)

    others : (i : ℕ) → ((h : ℕ) → h < j + 1 → i ≡ h * m + t → ⊥) → get_or (set row (j * m + t) x) i 0 ≡ get_or before i 0
    others i away = get_or-set_other row (j * m + t) i x 0 (λ p. away j (omega arith) p) ∙ kept i (λ h lh p. away h (omega arith) p)

-- the factors of one more data column
pub equation_step : (F : Operations) (code : Code) (v c t w scale : ℕ) (table : List (List ℕ)) (before after : List ℕ) → t < code.m → ColumnTable F code table
    → Weight F code v c t w scale
    → ((j : ℕ) → j < code.k → get_or after (j * code.m + t) 0 ≡ F.mul scale (get_or (get_or table j []) w 0))
    → ((i : ℕ) → ((j : ℕ) → j < code.k → i ≡ j * code.m + t → ⊥) → get_or after i 0 ≡ get_or before i 0)
    → ((j s : ℕ) (y : Symbols) → j < code.k → s < t → IsFactor F code (j * code.m + s) y → get_or before (j * code.m + s) 0 ≡ y v c)
    → (j s : ℕ) (y : Symbols) → j < code.k → s < t + 1 → IsFactor F code (j * code.m + s) y → get_or after (j * code.m + s) 0 ≡ y v c
equation_step F code v c t w scale table before after lt T W made kept done j s y lj ls Y = by_case (ℕ_discrete s t)
  where
    by_case : Dec (s ≡ t) → get_or after (j * code.m + s) 0 ≡ y v c
    by_case (yes e) =
        let Z : IsFactor F code (j * code.m + t) y = subst (λ p. IsFactor F code (j * code.m + p) y) e Y in
        ap (λ p. get_or after (j * code.m + p) 0) e ∙ made j lj ∙ ap (F.mul scale) (T j lj w t y W.node lt Z) ∙ W.factor j y lj Z
    by_case (no d) =
        kept (j * code.m + s) (λ i li e. d (place_injective code.m j s i t (omega arith) lt e).1) ∙ done j s y lj (omega arith) Y

pub equation_made : (F : Operations) (code : Code) (v c value : ℕ) (row : List ℕ) → length row ≡ code.k * code.m + 1
    → ((j s : ℕ) (y : Symbols) → j < code.k → s < code.m → IsFactor F code (j * code.m + s) y → get_or row (j * code.m + s) 0 ≡ y v c)
    → IsEquation F code v c value (set row (code.k * code.m) value)
equation_made F code v c value row long done = record { factors = factors; right = get_or-set_same row (code.k * code.m) value 0 (omega arith) }
  where
    factors : (p : ℕ) (y : Symbols) → p < code.k * code.m → IsFactor F code p y → get_or (set row (code.k * code.m) value) p 0 ≡ y v c
    factors p y l Y =
        let at = place_node code p l in
        let d : p ≢ code.k * code.m = omega arith in
        get_or-set_other row (code.k * code.m) p value 0 d
        ∙ ap (λ o. get_or row o 0) (sym at.2)
        ∙ done (p / code.m) (p % code.m) y at.0 at.1 (subst (λ o. IsFactor F code o y) (sym at.2) Y)
