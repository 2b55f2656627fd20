-- An array over places 0, 1, .. that is 0 outside the marked places, none of which is among the first m, and whose
-- cells keep a group rule that reaches backward only: its data columns are 0, one after another, from the last one down.
use Rattle.std.proofs.Common.{◌≡◌, ℕ, zero, suc, ◌+◌, ◌-◌, ◌*◌, ◌<◌, ◌≤◌, Bool, true, false, List, length, sym, refl, ap, ◌∙◌, arith}
use native.Mathlib.Decide.{dec_lt}
use Rattle.std.proofs.lemmas.Bool.{both_ways}
use Rattle.field.specs.Laws.{Operations, Laws, power}
use Rattle.algebra.specs.Sums.{sum}
use Rattle.algebra.specs.Vandermonde.{Listed}
use Rattle.losses.proofs.Counting.{bit, tally, tally_more, tally_small, tally_split, tally_back, tally_unmarked, chosen, length-chosen, not_chosen}
use Rattle.losses.proofs.Rows.{enough_rows}

-- y d c is the symbol at place d of column c; b marks the places where it may differ from 0.
module _ (F : Operations) (L : Laws F) (m a : ℕ) (hm : m ≤ 64) (ha : a ≤ 3) (y : ℕ → ℕ → ℕ)
    (below : (d c : ℕ) → c < m + a → y d c < F.q) (b : ℕ → Bool)
    (unmarked : (d c : ℕ) → c < m + a → b d ≡ false → y d c ≡ 0) (run : (d : ℕ) → d < m → b d ≡ false)
    (group : (e i : ℕ) → i < a → i < e
    → y (e - suc i) (m + i) ≡ sum F m (λ u. F.mul (power F F.α (i * u)) (y (e + u) u)))
  where
    -- no marked place is among the first m, so each has at least m unmarked ones before it
    far : (d : ℕ) → b d ≡ true → m + tally b d ≤ d
    far d h = by_case (dec_lt d m)
      where
        by_case : Dec (d < m) → m + tally b d ≤ d
        by_case (yes l) = absurd (both_ways (b d) (run d l) h)
        by_case (no l) =
            let e : d ≡ m + (d - m) = omega arith in
            omega (arith, ap (tally b) e, tally_split b m (d - m), tally_unmarked b m run, tally_small (λ u. b (m + u)) (d - m))

    -- Where the data columns after t are 0, each marked place with fewer than a marked ones before it is 0 in column t:
    -- of its group as many coded cells are 0 as there are marked data cells.
    module _ (t : ℕ) (ht : t < m) (after : (u : ℕ) → t < u → u < m → (d : ℕ) → y d u ≡ 0) where
      module _ (d : ℕ) (early : tally b d < a) (marked : b d ≡ true) where
        e : ℕ
        e = d - t

        s : ℕ
        s = suc (tally b d)

        w : ℕ → ℕ
        w u = y (e + u) u

        W : List ℕ
        W = chosen (λ u. u) (λ u. b (e + u)) (suc t)

        outside : (u : ℕ) → u < m → (Listed u W → ⊥) → w u ≡ 0
        unfolding e w W
        outside u l out = by_case (dec_lt t u)
          where
            by_case : Dec (t < u) → w u ≡ 0
            by_case (yes h) = after u h l (e + u)
            by_case (no h) = unmarked (e + u) u (omega arith) (not_chosen (λ u. u) (λ u. b (e + u)) (suc t) u (omega arith) out)

        few : length W + tally (λ i. b (e - suc i)) s ≤ s
        unfolding e s W
        few =
            let end : e + suc t ≡ suc d = omega (arith, far d marked) in
            omega (
              arith,
              far d marked,
              length-chosen (λ u. u) (λ u. b (e + u)) (suc t),
              tally_split b e (suc t),
              ap (tally b) end,
              tally_more b d,
              ap bit marked,
              tally_back b e s (omega (arith, far d marked)),
            )

        rows : (i : ℕ) → i < s → b (e - suc i) ≡ false → sum F m (λ u. F.mul (power F F.α (i * u)) (w u)) ≡ 0
        unfolding e s w
        rows i l h = sym (group e i (omega arith) (omega (arith, far d marked))) ∙ unmarked (e - suc i) (m + i) (omega arith) h

        marked_zero : y d t ≡ 0
        unfolding e s w
        marked_zero =
            let back : d ≡ e + t = omega (arith, far d marked) in
            ap (λ (v : ℕ). y v t) back
            ∙ enough_rows F L m hm w (λ u l. below (e + u) u (omega arith)) W outside s (omega arith) (λ i. b (e - suc i)) few rows t ht

      early_zero : (d : ℕ) → tally b d < a → y d t ≡ 0
      early_zero d early = by_case (b d) refl
        where
          by_case : (h : Bool) → b d ≡ h → y d t ≡ 0
          by_case true h = marked_zero d early h
          by_case false h = unmarked d t (omega arith) h

    -- If a data column is 0 as soon as it is 0 at the places with fewer than a marked ones before them, all are 0.
    module _ (column : (t : ℕ) → t < m → ((d : ℕ) → tally b d < a → y d t ≡ 0) → (d : ℕ) → y d t ≡ 0) where
      from_last : (k t : ℕ) → m ≤ t + k → t < m → (d : ℕ) → y d t ≡ 0
      from_last zero t h ht = absurd (omega arith)
      from_last (suc k) t h ht = column t ht (early_zero t ht (λ u l hu. from_last k u (omega arith) hu))

      pub columns_zero : (t : ℕ) → t < m → (d : ℕ) → y d t ≡ 0
      columns_zero t ht = from_last m t (omega arith) ht
