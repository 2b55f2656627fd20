-- Vandermonde systems over numbers: uniqueness, existence, completion, and the points that the generator gives.
use Rattle.std.proofs.lemmas.Grind.{common_steps}
use Rattle.std.proofs.Common.{◌≡◌, ℕ, zero, suc, ◌+◌, ◌-◌, ◌*◌, ◌<◌, ◌≤◌, cond, ltb, List, [], ◌∷◌, length, sym, refl, ap, ◌∙◌, ap₂, inl, inr, arith}
use native.Mathlib.Decide.{ℕ_discrete, dec_lt}
use Rattle.std.proofs.lemmas.Bool.{lt-ltb}
use Rattle.field.specs.Laws.{Operations, Laws, power}
use Rattle.algebra.specs.Sums.{syndrome}
use Rattle.algebra.specs.Vandermonde.{Listed, Distinct, Points, Solves, Completes, VandermondeUnique, VandermondeSolvable, VandermondeCompletes}
use Rattle.algebra.proofs.CarrierVandermonde.{unique, Solution, solve, Apart}
use Rattle.algebra.proofs.Bridge.{field_of, val, to, val_below, val-to, val_zero, val-syn, to-zero, to_injective, to-syndrome, zero_below}
use Rattle.algebra.proofs.Numbers.{sum_ext, power_below, points_differ, syndrome_add, syndrome_sub, equal_from_sub, sub_self, add-zero, add_comm, sub-add}

-- the points of the carrier differ too
apart : (F : Operations) (L : Laws F) (n : ℕ) (z : ℕ → ℕ) → Points F n z → Apart (field_of F L) n (λ v. to F L (z v))
apart F L n z P v w lv lw d e = d (P.differ v w lv lw (to_injective F L (z v) (z w) (P.below v lv) (P.below w lw) e))

pub vandermonde_unique : VandermondeUnique
vandermonde_unique F L n z P places d le y by out zeros v l =
    to_injective F L (y v) 0 (by v l) (zero_below F L)
    (unique (field_of F L) n (λ v. to F L (z v)) (apart F L n z P) places (λ v. to F L (y v))
    (λ v m i. ap (to F L) (out v m i) ∙ to-zero F L)
    (λ i m. sym (to-syndrome F L n z y i) ∙ ap (to F L) (zeros i (omega arith)) ∙ to-zero F L) v l
    ∙ sym (to-zero F L))

-- two vectors that agree outside at most d places and in d syndromes are the same
pub vandermonde_same : (F : Operations) → Laws F → (n : ℕ) (z : ℕ → ℕ) → Points F n z
    → (places : List ℕ) (d : ℕ) → length places ≤ d
    → (x y : ℕ → ℕ) → ((v : ℕ) → v < n → x v < F.q) → ((v : ℕ) → v < n → y v < F.q)
    → ((v : ℕ) → v < n → (Listed v places → ⊥) → x v ≡ y v)
    → ((i : ℕ) → i < d → syndrome F n z x i ≡ syndrome F n z y i)
    → (v : ℕ) → v < n → x v ≡ y v
vandermonde_same F L n z P places d le x y bx by agree same v l =
    equal_from_sub F L (x v) (y v) (bx v l) (by v l)
    (vandermonde_unique F L n z P places d le (λ v. F.sub (x v) (y v)) (λ v m. L.sub_below (x v) (y v))
    (λ v m i. ap (λ t. F.sub t (y v)) (agree v m i) ∙ sub_self F L (y v))
    (λ i m. syndrome_sub F L n z x y i ∙ ap (λ t. F.sub t (syndrome F n z y i)) (same i m) ∙ sub_self F L (syndrome F n z y i)) v l)

pub vandermonde_solvable : VandermondeSolvable
vandermonde_solvable F L n z P places D inside c bc = (λ v. val F L (s.y v), record { below = below; outside = outside; reaches = reaches })
  where
    s : Solution (field_of F L) n (λ v. to F L (z v)) places (λ i. to F L (c i))
    s = solve (field_of F L) n (λ v. to F L (z v)) (apart F L n z P) places D inside (λ i. to F L (c i))

    below : (v : ℕ) → val F L (s.y v) < F.q
    below v = val_below F L (s.y v)

    outside : (v : ℕ) → v < n → (Listed v places → ⊥) → val F L (s.y v) ≡ 0
    outside v l i = ap (val F L) (s.outside v l i) ∙ val_zero F L

    reaches : (i : ℕ) → i < length places → syndrome F n z (λ v. val F L (s.y v)) i ≡ c i
    reaches i l =
        sum_ext F L n (λ v. F.mul (power F (z v) i) (val F L (s.y v))) (λ v. F.mul (power F (val F L (to F L (z v))) i) (val F L (s.y v)))
        (λ v m. ap (λ t. F.mul (power F t i) (val F L (s.y v))) (sym (val-to F L (z v) (P.below v m))))
        ∙ sym (val-syn F L n (λ v. to F L (z v)) s.y i)
        ∙ ap (val F L) (s.reaches i l)
        ∙ val-to F L (c i) (bc i l)

-- the places k .. k + r − 1
abbrev pub range : ℕ → ℕ → List ℕ
range k zero = []
range k (suc r) = k ∷ range (suc k) r

pub range_length : (k r : ℕ) → length (range k r) ≡ r
range_length k zero = refl
range_length k (suc r) = ap suc (range_length (suc k) r)

pub range_listed : (k r v : ℕ) → k ≤ v → v < k + r → Listed v (range k r)
range_listed k zero v a b = absurd (omega arith)
range_listed k (suc r) v a b = elim (ℕ_discrete v k) [ yes e ↦ inl e | no d ↦ inr (range_listed (suc k) r v (omega arith) (omega arith)) ]

pub range_inside : (k r v : ℕ) → Listed v (range k r) → (k ≤ v) × (v < k + r)
range_inside k zero v i = elim i [ ]
range_inside k (suc r) v (inl e) = (omega arith, omega arith)
range_inside k (suc r) v (inr i) = let h = range_inside (suc k) r v i in (omega arith, omega arith)

pub range_distinct : (k r : ℕ) → Distinct (range k r)
range_distinct k zero = tt
range_distinct k (suc r) = (λ i. let h = range_inside (suc k) r k i in omega arith, range_distinct (suc k) r)

-- the points α^(g·v), v < n ≤ 64, for g = 1 and g = 2
pub generator_points : (F : Operations) → Laws F → (g n : ℕ) → 0 < g → g < 3 → n ≤ 64 → Points F n (λ v. power F F.α (g * v))
generator_points F L g n h₀ h₁ hn = grind (arith, common_steps, points_differ, power_below)

-- the points α^v, v < n ≤ 64
pub plain_points : (F : Operations) → Laws F → (n : ℕ) → n ≤ 64 → Points F n (power F F.α)
plain_points F L n hn = grind (arith, common_steps, power_below)

-- Completion: the n − k places from k on are solved for the targets that cancel the syndromes of x alone.
module _ (F : Operations) (L : Laws F) (n k : ℕ) (le : k ≤ n) (z : ℕ → ℕ) (P : Points F n z) (x : ℕ → ℕ) (bx : (v : ℕ) → v < k → x v < F.q) where
  -- x at its k places and 0 after them
  start : ℕ → ℕ
  start v = cond (ltb v k) (x v) 0

  start_at : (v : ℕ) → v < k → start v ≡ x v
  unfolding start
  start_at v l = ap (λ b. cond b (x v) 0) (lt-ltb v k l)

  target : ℕ → ℕ
  target i = F.sub 0 (syndrome F n z start i)

  rest : (y : ℕ → ℕ) × Solves F n z (range k (n - k)) target y
  unfolding target
  rest =
      vandermonde_solvable F L n z P (range k (n - k)) (range_distinct k (n - k))
      (λ w i. let h = range_inside k (n - k) w i in omega arith) target (λ i l. L.sub_below 0 (syndrome F n z start i))

  completion : (y : ℕ → ℕ) × Completes F n k z x y
  unfolding target
  completion = (λ v. F.add (start v) (rest.0 v), record { below = λ v l. L.add_below (start v) (rest.0 v); starts = starts; vanishes = vanishes })
    where
      free : (v : ℕ) → v < k → rest.0 v ≡ 0
      free v l = rest.1.outside v (omega arith) (λ i. let h = range_inside k (n - k) v i in omega arith)

      starts : (v : ℕ) → v < k → F.add (start v) (rest.0 v) ≡ x v
      starts v l = ap₂ F.add (start_at v l) (free v l) ∙ add-zero F L (x v) (bx v l)

      vanishes : (i : ℕ) → i < n - k → syndrome F n z (λ v. F.add (start v) (rest.0 v)) i ≡ 0
      vanishes i l =
          syndrome_add F L n z start rest.0 i
          ∙ ap (F.add (syndrome F n z start i)) (rest.1.reaches i (rw (range_length k (n - k)) l))
          ∙ add_comm F L (syndrome F n z start i) (target i)
          ∙ sub-add F L 0 (syndrome F n z start i) (zero_below F L)

  one_completion : (y y' : ℕ → ℕ) → Completes F n k z x y → Completes F n k z x y' → (v : ℕ) → v < n → y v ≡ y' v
  one_completion y y' c c' =
      vandermonde_same F L n z P (range k (n - k)) (n - k) (omega (arith, range_length k (n - k))) y y' c.below c'.below
      agree (λ i l. c.vanishes i l ∙ sym (c'.vanishes i l))
    where
      agree : (v : ℕ) → v < n → (Listed v (range k (n - k)) → ⊥) → y v ≡ y' v
      agree v l i =
          elim (dec_lt v k) [
            | yes h ↦ c.starts v h ∙ sym (c'.starts v h)
            | no h ↦ absurd (i (range_listed k (n - k) v (omega arith) (omega arith)))
          ]

pub vandermonde_completes : VandermondeCompletes
vandermonde_completes F L n k le z P x bx = (completion F L n k le z P x bx, one_completion F L n k le z P x bx)
