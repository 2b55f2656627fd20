-- A Vandermonde system with its first point taken away: what solves the rest solves the whole, once each symbol is
-- divided by the difference of its point and the first, and the first symbol makes the sum right.
use Rattle.std.proofs.Common.{◌≡◌, ℕ, zero, suc, ◌+◌, ◌-◌, ◌<◌, ◌≤◌, ◌≢◌, List, length, get_or, set, sym, ap, ◌∙◌, add-one, arith, get_or-set_other, get_or-set_same}
use Rattle.field.specs.Laws.{Operations, Laws, power}
use Rattle.field.specs.Powers.{power_zero, power_more}
use Rattle.algebra.specs.Sums.{sum, syndrome}
use Rattle.encode.specs.Systems.{AllBelow, AllDiffer, Reaches}
use Rattle.algebra.proofs.Ring.{ring}
use Rattle.algebra.proofs.Bridge.{to_injective, inward}
use Rattle.algebra.proofs.Numbers as numbers

module _ (F : Operations) (L : Laws F) where
  -- the i-th syndrome of (z v − a)·y v is the next syndrome of y less a times the i-th
  pub syndrome_step : (n : ℕ) (z y : ℕ → ℕ) (a i : ℕ)
      → syndrome F n z (λ v. F.mul (F.sub (z v) a) (y v)) i ≡ F.sub (syndrome F n z y (i + 1)) (F.mul a (syndrome F n z y i))
  syndrome_step n z y a i =
      numbers.sum_ext F L n (λ v. F.mul (power F (z v) i) (F.mul (F.sub (z v) a) (y v)))
      (λ v. F.sub (F.mul (power F (z v) (i + 1)) (y v)) (F.mul a (F.mul (power F (z v) i) (y v))))
      (λ v l. term (z v) (power F (z v) i) (y v) ∙ ap (λ t. F.sub (F.mul t (y v)) (F.mul a (F.mul (power F (z v) i) (y v)))) (sym (power_more F (z v) i)))
      ∙ numbers.sum_sub F L n (λ v. F.mul (power F (z v) (i + 1)) (y v)) (λ v. F.mul a (F.mul (power F (z v) i) (y v)))
      ∙ ap (F.sub (syndrome F n z y (i + 1))) (numbers.sum_mul F L n a (λ v. F.mul (power F (z v) i) (y v)))
    where
      term : (u p w : ℕ) → F.mul p (F.mul (F.sub u a) w) ≡ F.sub (F.mul (F.mul u p) w) (F.mul a (F.mul p w))
      term u p w =
          to_injective F L _ _ (L.mul_below p (F.mul (F.sub u a) w)) (L.sub_below (F.mul (F.mul u p) w) (F.mul a (F.mul p w)))
          (simp (inward, ring))

  -- a quotient times its divisor
  pub divided : (u w : ℕ) → u < F.q → w < F.q → (w ≡ 0 → ⊥) → F.mul w (F.mul u (F.inv w)) ≡ u
  divided u w hu hw n =
      numbers.mul_left_comm F L w u (F.inv w) ∙ ap (F.mul u) (L.mul-inv w hw n) ∙ L.mul-one u hu

  -- e + 1 points z, the solution s of the rest, and what is made of it
  pub lifted : (e : ℕ) (z y s b : ℕ → ℕ)
      → ((v : ℕ) → v < e + 1 → z v < F.q) → ((v : ℕ) → v < e → z (v + 1) ≡ z 0 → ⊥)
      → ((v : ℕ) → v < e → s (v + 1) < F.q) → ((v : ℕ) → v < e + 1 → y v < F.q) → ((i : ℕ) → i < e + 1 → b i < F.q)
      → ((v : ℕ) → v < e → y (v + 1) ≡ F.mul (s (v + 1)) (F.inv (F.sub (z (v + 1)) (z 0))))
      → sum F (e + 1) y ≡ b 0
      → ((i : ℕ) → i < e → syndrome F e (λ v. z (v + 1)) (λ v. s (v + 1)) i ≡ F.sub (b (i + 1)) (F.mul (z 0) (b i)))
      → (i : ℕ) → i < e + 1 → syndrome F (e + 1) z y i ≡ b i
  lifted e z y s b hz apart hs hy hb made total rest zero l =
      numbers.sum_ext F L (e + 1) (λ v. F.mul (power F (z v) 0) (y v)) y
      (λ v m. ap (λ t. F.mul t (y v)) (power_zero F (z v)) ∙ numbers.one-mul F L (y v) (hy v m))
      ∙ total
  lifted e z y s b hz apart hs hy hb made total rest (suc i) l =
      next (lifted e z y s b hz apart hs hy hb made total rest i (omega arith))
    where
      -- (z v − z 0)·y v, 0 at the first place and s elsewhere
      x : ℕ → ℕ
      x v = F.mul (F.sub (z v) (z 0)) (y v)

      first : F.mul (power F (z 0) i) (x 0) ≡ 0
      first =
          ap (λ t. F.mul (power F (z 0) i) (F.mul t (y 0))) (numbers.sub_self F L (z 0))
          ∙ ap (F.mul (power F (z 0) i)) (numbers.zero-mul F L (y 0))
          ∙ numbers.mul-zero F L (power F (z 0) i)

      others : (v : ℕ) → v < e → x (v + 1) ≡ s (v + 1)
      others v m =
          ap (F.mul (F.sub (z (v + 1)) (z 0))) (made v m)
          ∙ divided (s (v + 1)) (F.sub (z (v + 1)) (z 0)) (hs v m) (L.sub_below (z (v + 1)) (z 0))
          (λ n. apart v m (numbers.equal_from_sub F L (z (v + 1)) (z 0) (hz (v + 1) (omega arith)) (hz 0 (omega arith)) n))

      reduced : syndrome F (e + 1) z x i ≡ F.sub (b (i + 1)) (F.mul (z 0) (b i))
      reduced =
          numbers.sum_front F L e (λ v. F.mul (power F (z v) i) (x v))
          ∙ ap (λ t. F.add t (sum F e (λ v. F.mul (power F (z (v + 1)) i) (x (v + 1))))) first
          ∙ numbers.zero-add F L (sum F e (λ v. F.mul (power F (z (v + 1)) i) (x (v + 1)))) (numbers.sum_below F L e (λ v. F.mul (power F (z (v + 1)) i) (x (v + 1))))
          ∙ numbers.sum_ext F L e (λ v. F.mul (power F (z (v + 1)) i) (x (v + 1))) (λ v. F.mul (power F (z (v + 1)) i) (s (v + 1)))
          (λ v m. ap (F.mul (power F (z (v + 1)) i)) (others v m))
          ∙ rest i (omega arith)

      next : syndrome F (e + 1) z y i ≡ b i → syndrome F (e + 1) z y (suc i) ≡ b (suc i)
      next ih =
          let w = F.mul (z 0) (b i) in
          let one : i + 1 ≡ suc i = add-one i in
          let same : F.sub (syndrome F (e + 1) z y (i + 1)) w ≡ F.sub (b (i + 1)) w =
          ap (λ t. F.sub (syndrome F (e + 1) z y (i + 1)) (F.mul (z 0) t)) (sym ih) ∙ sym (syndrome_step (e + 1) z y (z 0) i) ∙ reduced in
          ap (λ t. syndrome F (e + 1) z y t) (sym one)
          ∙ numbers.difference_to_sum F L (syndrome F (e + 1) z y (i + 1)) w (F.sub (b (i + 1)) w)
          (numbers.sum_below F L (e + 1) (λ v. F.mul (power F (z v) (i + 1)) (y v))) same
          ∙ numbers.sub-add F L (b (i + 1)) w (hb (i + 1) (omega arith))
          ∙ ap b one

  -- one more symbol y of the rest, at place v: what the first place holds and the rest up to v sum up to the same
  pub taken : (xs : List ℕ) (v a y : ℕ) → 1 ≤ v → v < length xs
      → F.add (F.sub a y) (sum F (v + 1 - 1) (λ w. get_or (set xs v y) (w + 1) 0)) ≡ F.add a (sum F (v - 1) (λ w. get_or xs (w + 1) 0))
  taken xs zero a y low l = absurd (omega arith)
  taken xs (suc n) a y low l =
      let top : suc n + 1 - 1 ≡ n + 1 = omega arith in
      let bottom : suc n - 1 ≡ n = omega arith in
      let at : n + 1 ≡ suc n = add-one n in
      rw (top, bottom)
      (ap (F.add (F.sub a y)) (numbers.sum_next F n (λ w. get_or (set xs (suc n) y) (w + 1) 0))
      ∙ ap (λ t. F.add (F.sub a y) (F.add (sum F n (λ w. get_or (set xs (suc n) y) (w + 1) 0)) t)) (ap (λ t. get_or (set xs (suc n) y) t 0) at ∙ get_or-set_same xs (suc n) y 0 l)
      ∙ ap (λ t. F.add (F.sub a y) (F.add t y))
      (numbers.sum_ext F L n (λ w. get_or (set xs (suc n) y) (w + 1) 0) (λ w. get_or xs (w + 1) 0)
      (λ w m. let ne : w + 1 ≢ suc n = omega arith in get_or-set_other xs (suc n) (w + 1) y 0 ne))
      ∙ moved (sum F n (λ w. get_or xs (w + 1) 0)))
    where
      moved : (s : ℕ) → F.add (F.sub a y) (F.add s y) ≡ F.add a s
      moved s =
          to_injective F L _ _ (L.add_below (F.sub a y) (F.add s y)) (L.add_below a s) (simp (inward, ring))

  -- the same once the first place is written
  pub taken_all : (xs : List ℕ) (a d : ℕ) → 0 < d → d ≤ length xs
      → sum F d (λ v. get_or (set xs 0 a) v 0) ≡ F.add a (sum F (d - 1) (λ w. get_or xs (w + 1) 0))
  taken_all xs a zero pos l = absurd (omega arith)
  taken_all xs a (suc n) pos l =
      let bottom : suc n - 1 ≡ n = omega arith in
      let at : n + 1 ≡ suc n = add-one n in
      let front : get_or (set xs 0 a) 0 0 ≡ a = get_or-set_same xs 0 a 0 (omega arith) in
      rw bottom
      (ap (λ t. sum F t (λ v. get_or (set xs 0 a) v 0)) (sym at)
      ∙ numbers.sum_front F L n (λ v. get_or (set xs 0 a) v 0)
      ∙ ap (λ t. F.add t (sum F n (λ v. get_or (set xs 0 a) (v + 1) 0))) front
      ∙ ap (F.add a)
      (numbers.sum_ext F L n (λ v. get_or (set xs 0 a) (v + 1) 0) (λ w. get_or xs (w + 1) 0)
      (λ w m. let ne : w + 1 ≢ 0 = omega arith in get_or-set_other xs 0 (w + 1) a 0 ne)))

  -- A system of e + 1 points solved in place: the targets `before` give the targets `tail` for the points
  -- `later` without the first, `rest` solves these, and `after` is made of it as it stands in `joined`.
  pub solved : (e : ℕ) (points later before tail rest joined after : List ℕ)
      → length points ≡ e + 1 → length before ≡ e + 1 → length after ≡ e + 1 → length later ≡ e → length rest ≡ e
      → AllBelow F.q points → AllDiffer points → AllBelow F.q before
      → ((v : ℕ) → v < e → get_or later v 0 ≡ get_or points (v + 1) 0)
      → ((v : ℕ) → v < e → get_or tail v 0 ≡ F.sub (get_or before (v + 1) 0) (F.mul (get_or points 0 0) (get_or before v 0)))
      → Reaches F later tail rest → AllBelow F.q rest
      → ((v : ℕ) → v < e → get_or joined (v + 1) 0 ≡ get_or rest v 0)
      → ((v : ℕ) → v < e → get_or after (v + 1) 0 ≡ F.mul (get_or joined (v + 1) 0) (F.inv (F.sub (get_or points (v + 1) 0) (get_or points 0 0))))
      → sum F (e + 1) (λ v. get_or after v 0) ≡ get_or before 0 0 → get_or after 0 0 < F.q
      → Reaches F points before after × AllBelow F.q after
  solved e points later before tail rest joined after np nb na nl nr hp differ hb hl ht reaches hr hj ha total first = (
    λ i h.
        let h' : i < e + 1 = omega arith in
        ap (λ t. syndrome F t (λ v. get_or points v 0) (λ v. get_or after v 0) i) np
        ∙ lifted e (λ v. get_or points v 0) (λ v. get_or after v 0) (λ v. get_or joined v 0) (λ v. get_or before v 0)
        (λ v l. hp v (omega arith))
        (λ v l same. let z : v + 1 ≡ 0 = differ (v + 1) 0 (omega arith) (omega arith) same in omega arith)
        small_joined below (λ v l. hb v (omega arith)) ha total inner i h',
    λ p h. below p (omega arith),
  )
    where
      small_joined : (v : ℕ) → v < e → get_or joined (v + 1) 0 < F.q
      small_joined v l = rw (hj v l) (hr v (omega arith))

      below : (v : ℕ) → v < e + 1 → get_or after v 0 < F.q
      below zero l = first
      below (suc v) l =
          let at : v + 1 ≡ suc v = add-one v in
          rw (← at, ha v (omega arith)) (L.mul_below (get_or joined (v + 1) 0) (F.inv (F.sub (get_or points (v + 1) 0) (get_or points 0 0))))

      inner : (i : ℕ) → i < e
          → syndrome F e (λ v. get_or points (v + 1) 0) (λ v. get_or joined (v + 1) 0) i ≡ F.sub (get_or before (i + 1) 0) (F.mul (get_or points 0 0) (get_or before i 0))
      inner i l =
          numbers.sum_ext F L e (λ v. F.mul (power F (get_or points (v + 1) 0) i) (get_or joined (v + 1) 0)) (λ v. F.mul (power F (get_or later v 0) i) (get_or rest v 0))
          (λ v m. cc (hl v m, hj v m))
          ∙ ap (λ t. syndrome F t (λ v. get_or later v 0) (λ v. get_or rest v 0) i) (sym nl)
          ∙ reaches i (omega arith)
          ∙ ht i l
