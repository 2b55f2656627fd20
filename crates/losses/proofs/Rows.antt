-- A vector that vanishes in as many of the rows 0, 1, 2 as it may have symbols other than 0 is 0.
use Rattle.std.proofs.Common.{◌≡◌, ℕ, zero, suc, ◌+◌, ◌*◌, ◌<◌, ◌≤◌, Bool, true, false, List, length, sym, refl, ap, ◌∙◌, inl, inr, arith}
use Rattle.field.specs.Laws.{Operations, Laws, power}
use Rattle.algebra.specs.Sums.{sum}
use Rattle.algebra.specs.Vandermonde.{Listed}
use Rattle.algebra.proofs.Numbers.{mul-zero, zero_factor, power_below, generator_power_ne, syndrome_progression}
use Rattle.algebra.proofs.Vandermonde.{vandermonde_unique, generator_points}
use Rattle.losses.proofs.Counting.{bit, tally, tally_more}

-- w is a vector of m symbols that is 0 outside the places W.
module _ (F : Operations) (L : Laws F) (m : ℕ) (hm : m ≤ 64) (w : ℕ → ℕ) (below : (u : ℕ) → u < m → w u < F.q)
    (W : List ℕ) (outside : (u : ℕ) → u < m → (Listed u W → ⊥) → w u ≡ 0) where
  -- row i is the sum of α^(i·u) · w(u)
  abbrev pub Vanishes : ℕ → Type 0
  Vanishes i = sum F m (λ u. F.mul (power F F.α (i * u)) (w u)) ≡ 0

  abbrev pub AllZero : Type 0
  AllZero = (u : ℕ) → u < m → w u ≡ 0

  -- the rows i, i + g, i + 2g .. are those of a Vandermonde system
  progression : (i g d : ℕ) → 0 < g → g < 3 → length W ≤ d → ((l : ℕ) → l < d → Vanishes (i + g * l)) → AllZero
  progression i g d g₀ g₁ few rows u lu =
      elim (zero_factor F L (power F F.α (i * u)) (w u) (power_below F L F.α (i * u)) (below u lu) product)
      [ inl z ↦ absurd (generator_power_ne F L (i * u) z) | inr z ↦ z ]
    where
      product : F.mul (power F F.α (i * u)) (w u) ≡ 0
      product =
          vandermonde_unique F L m (λ v. power F F.α (g * v)) (generator_points F L g m g₀ g₁ hm) W d few
          (λ v. F.mul (power F F.α (i * v)) (w v)) (λ v l. L.mul_below (power F F.α (i * v)) (w v))
          (λ v l o. ap (F.mul (power F F.α (i * v))) (outside v l o) ∙ mul-zero F L (power F F.α (i * v)))
          (λ l h. sym (syndrome_progression F L m i g w l) ∙ rows l h) u lu

  -- one row, two rows and three rows
  one : (i : ℕ) → length W ≤ 1 → Vanishes i → AllZero
  one i few a = progression i 1 1 (omega arith) (omega arith) few rows
    where
      rows : (l : ℕ) → l < 1 → Vanishes (i + 1 * l)
      rows l h = let e : i + 1 * l ≡ i = omega arith in rw e a

  two : (i g : ℕ) → 0 < g → g < 3 → length W ≤ 2 → Vanishes i → Vanishes (i + g) → AllZero
  two i g g₀ g₁ few a b = progression i g 2 g₀ g₁ few rows
    where
      rows : (l : ℕ) → l < 2 → Vanishes (i + g * l)
      rows zero h = let e : i + g * 0 ≡ i = omega arith in rw e a
      rows (suc l) h = let z : l ≡ 0 = omega arith in let e : i + g * suc l ≡ i + g = rw z (omega arith) in rw e b

  three : length W ≤ 3 → Vanishes 0 → Vanishes 1 → Vanishes 2 → AllZero
  three few a b c = progression 0 1 3 (omega arith) (omega arith) few rows
    where
      rows : (l : ℕ) → l < 3 → Vanishes (0 + 1 * l)
      rows zero h = a
      rows (suc zero) h = b
      rows (suc (suc l)) h = let e : 0 + 1 * suc (suc l) ≡ 2 = omega arith in rw e c

  -- no row
  none : length W ≤ 0 → AllZero
  none few = progression 0 1 0 (omega arith) (omega arith) few (λ l h. absurd (omega arith))

  -- Of the rows 0 .. s all those without a mark vanish, s among them; at least as many have none as there are places in W.
  last_unmarked : (s : ℕ) → s < 3 → (mark : ℕ → Bool) → length W + tally mark (suc s) ≤ suc s → mark s ≡ false
      → ((i : ℕ) → i < suc s → mark i ≡ false → Vanishes i) → AllZero
  last_unmarked zero hs mark few free rows = one 0 (omega arith) (rows 0 (omega arith) free)
  last_unmarked (suc zero) hs mark few free rows = by_case (mark 0) refl
    where
      by_case : (b : Bool) → mark 0 ≡ b → AllZero
      by_case true h = one 1 (omega (arith, tally_more mark 0, tally_more mark 1, ap bit h)) (rows 1 (omega arith) free)
      by_case false h = two 0 1 (omega arith) (omega arith) (omega arith) (rows 0 (omega arith) h) (rows 1 (omega arith) free)
  last_unmarked (suc (suc s)) hs mark few free rows = by_case (mark 0) refl (mark 1) refl
    where
      z : s ≡ 0
      z = omega arith

      last : Vanishes 2
      last = let e : 2 ≡ suc (suc s) = omega arith in rw e (rows (suc (suc s)) (omega arith) free)

      few' : length W + bit (mark 0) + bit (mark 1) ≤ 3
      few' = let h : length W + tally mark (suc (suc (suc 0))) ≤ suc (suc (suc 0)) = rw z at few in
          omega (arith, tally_more mark 0, tally_more mark 1, tally_more mark 2)

      by_case : (b : Bool) → mark 0 ≡ b → (c : Bool) → mark 1 ≡ c → AllZero
      by_case true h true k = one 2 (omega (arith, few', ap bit h, ap bit k)) last
      by_case true h false k = two 1 1 (omega arith) (omega arith) (omega (arith, few', ap bit h)) (rows 1 (omega arith) k) last
      by_case false h true k = two 0 2 (omega arith) (omega arith) (omega (arith, few', ap bit k)) (rows 0 (omega arith) h) last
      by_case false h false k = three (omega (arith, few')) (rows 0 (omega arith) h) (rows 1 (omega arith) k) last

  -- Of the rows 0 .. s − 1 all those without a mark vanish; at least as many have none as there are places in W.
  pub enough_rows : (s : ℕ) → s ≤ 3 → (mark : ℕ → Bool) → length W + tally mark s ≤ s
      → ((i : ℕ) → i < s → mark i ≡ false → Vanishes i) → AllZero
  enough_rows zero hs mark few rows = none (omega arith)
  enough_rows (suc s) hs mark few rows = by_case (mark s) refl (enough_rows s (omega arith) mark)
    where
      by_case : (b : Bool) → mark s ≡ b
          → (length W + tally mark s ≤ s → ((i : ℕ) → i < s → mark i ≡ false → Vanishes i) → AllZero) → AllZero
      by_case true h rest = rest (omega (arith, tally_more mark s, ap bit h)) (λ i l. rows i (omega arith))
      by_case false h rest = last_unmarked s (omega arith) mark few h rows
