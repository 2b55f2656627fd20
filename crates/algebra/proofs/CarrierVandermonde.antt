-- Syndromes and Vandermonde systems in a field over its carrier.
use Rattle.std.proofs.lemmas.Grind.{common_steps}
use Rattle.std.proofs.Common.{◌≡◌, ℕ, zero, suc, ◌<◌, List, [], ◌∷◌, length, refl, ap, ◌∙◌, subst, inl, inr, arith}
use native.Mathlib.Decide.{ℕ_discrete, dec_lt}
use Rattle.algebra.specs.Vandermonde.{Listed, Distinct}
use Rattle.algebra.proofs.Carrier.{AbstractField}
use Rattle.algebra.proofs.Ring.{ring, zero-mul, mul-zero, one-mul, sub_self, sub_ne, no_zero_divisors, pow, pow-suc, pow-zero, add_right_cancel, mul-div, add-sub}
use Rattle.algebra.proofs.CarrierSums.{total, total_ext, total_add, total_mul, total_single}

module _ (F : AbstractField) where
  open F use {K, ◌⊕◌, ◌⊗◌, neg, inv, 𝟘, 𝟙, add-zero}

  infixl 65 ◌⊕◌
  infixl 70 ◌⊗◌
  -- the i-th syndrome of y at the points z
  unfoldable pub syn : ℕ → (ℕ → K) → (ℕ → K) → ℕ → K
  syn n z y i = total F n (λ v. pow F (z v) i ⊗ y v)

  pub syn_add : (n : ℕ) (z y x : ℕ → K) (i : ℕ) → syn n z (λ v. y v ⊕ x v) i ≡ syn n z y i ⊕ syn n z x i
  unfolding syn
  syn_add n z y x i = simp (ring, total_add)

  pub syn_ext : (n : ℕ) (z y x : ℕ → K) (i : ℕ) → ((v : ℕ) → v < n → y v ≡ x v) → syn n z y i ≡ syn n z x i
  unfolding syn
  syn_ext n z y x i h =
      total_ext F n (λ v. pow F (z v) i ⊗ y v) (λ v. pow F (z v) i ⊗ x v) (λ v l. ap (λ t. pow F (z v) i ⊗ t) (h v l))

  -- the i-th syndrome of (z v − a)·y v is the next syndrome of y less a times the i-th
  pub syn_step : (n : ℕ) (z y : ℕ → K) (a : K) (i : ℕ)
      → syn n z (λ v. (z v ⊕ neg a) ⊗ y v) i ≡ syn n z y (suc i) ⊕ neg a ⊗ syn n z y i
  unfolding syn
  syn_step n z y a i =
      total_ext F n (λ v. pow F (z v) i ⊗ ((z v ⊕ neg a) ⊗ y v))
      (λ v. pow F (z v) (suc i) ⊗ y v ⊕ neg a ⊗ (pow F (z v) i ⊗ y v)) (λ v l. simp (pow-suc, ring))
      ∙ simp (total_add, total_mul)

  -- the syndrome of a vector that is 0 outside the place w
  pub syn_single : (n : ℕ) (z y : ℕ → K) (w i : ℕ) → w < n → ((v : ℕ) → v < n → ¬ (v ≡ w) → y v ≡ 𝟘)
      → syn n z y i ≡ pow F (z w) i ⊗ y w
  unfolding syn
  syn_single n z y w i l h = total_single F n w (λ v. pow F (z v) i ⊗ y v) l (λ v m d. simp (h v m d, ring))

  -- 1 at w and 0 elsewhere
  pub δ : ℕ → ℕ → K
  δ w v = elim (ℕ_discrete v w) [ yes e ↦ 𝟙 | no d ↦ 𝟘 ]

  pub δ_at : (w : ℕ) → δ w w ≡ 𝟙
  unfolding δ
  δ_at w = grind (arith, common_steps)

  pub δ_off : (w v : ℕ) → ¬ (v ≡ w) → δ w v ≡ 𝟘
  unfolding δ
  δ_off w v n = grind (arith, common_steps)

  -- the points of different places differ
  abbrev pub Apart : ℕ → (ℕ → K) → Type 0
  Apart n z = (v w : ℕ) → v < n → w < n → ¬ (v ≡ w) → ¬ (z v ≡ z w)

  -- Uniqueness, by induction on the list: with w taken out, (z v − z w)·y v has one syndrome less and vanishes
  -- outside the rest of the list. So y vanishes outside w, and its 0-th syndrome is y w.
  pub unique : (n : ℕ) (z : ℕ → K) → Apart n z → (W : List ℕ) (y : ℕ → K)
      → ((v : ℕ) → v < n → ¬ Listed v W → y v ≡ 𝟘) → ((i : ℕ) → i < length W → syn n z y i ≡ 𝟘)
      → (v : ℕ) → v < n → y v ≡ 𝟘
  unique n z apart [] y out zeros v l = out v l (λ e. e)
  unique n z apart (w ∷ W) y out zeros v l =
      finish (dec_lt w n) (ℕ_discrete v w) (unique n z apart W y) (unique n z apart W y')
    where
      y' : ℕ → K
      y' v = (z v ⊕ neg (z w)) ⊗ y v

      out' : (v : ℕ) → v < n → ¬ Listed v W → y' v ≡ 𝟘
      out' v l i =
          elim (ℕ_discrete v w) [
            | yes e ↦ cc (sub_self F (z v) (z w) (ap z e), zero-mul F (y v))
            | no d ↦ cc (out v l (elim [ inl e ↦ d e | inr j ↦ i j ]), mul-zero F (z v ⊕ neg (z w)))
          ]

      zeros' : (i : ℕ) → i < length W → syn n z y' i ≡ 𝟘
      zeros' i l = syn_step n z y (z w) i ∙ simp (zeros (suc i) (omega arith), zeros i (omega arith), ring)

      off : w < n → ((v : ℕ) → v < n → y' v ≡ 𝟘) → (v : ℕ) → v < n → ¬ (v ≡ w) → y v ≡ 𝟘
      off lw rest v l d = no_zero_divisors F (z v ⊕ neg (z w)) (y v) (rest v l) (sub_ne F (z v) (z w) (apart v w l lw d))

      Rest : (ℕ → K) → Type 0
      Rest x =
          ((v : ℕ) → v < n → ¬ Listed v W → x v ≡ 𝟘) → ((i : ℕ) → i < length W → syn n z x i ≡ 𝟘)
          → (v : ℕ) → v < n → x v ≡ 𝟘

      finish : Dec (w < n) → Dec (v ≡ w) → Rest y → Rest y' → y v ≡ 𝟘
      finish (no far) _ same less =
          same (λ v m i. out v m (elim [ inl e ↦ far (subst (λ t. t < n) e m) | inr j ↦ i j ])) (λ i m. zeros i (omega arith)) v l
      finish (yes lw) (no d) same less = off lw (less out' zeros') v l d
      finish (yes lw) (yes e) same less =
          ap y e
          ∙ cc (syn_single n z y w 0 lw (off lw (less out' zeros')), pow-zero F (z w), one-mul F (y w), zeros 0 (omega arith))

  -- a vector on the listed places whose syndromes are the targets c
  pub record Solution (n : ℕ) (z : ℕ → K) (W : List ℕ) (c : ℕ → K) : Type 0 where
    pub y : ℕ → K
    pub outside : (v : ℕ) → v < n → ¬ Listed v W → y v ≡ 𝟘
    pub reaches : (i : ℕ) → i < length W → syn n z y i ≡ c i

  -- Existence, by induction on the list: the rest of the list reaches the targets c (i + 1) − z w · c i with some y';
  -- y v is y' v / (z v − z w) outside w, and y w makes the 0-th syndrome right.
  pub solve : (n : ℕ) (z : ℕ → K) → Apart n z → (W : List ℕ) → Distinct W → ((w : ℕ) → Listed w W → w < n)
      → (c : ℕ → K) → Solution n z W c
  solve n z apart [] D below c = record { y = λ v. 𝟘; outside = λ v l i. refl; reaches = λ i l. absurd (omega arith) }
  solve n z apart (w ∷ W) D below c =
      step (solve n z apart W D.1 (λ w i. below w (inr i)) (λ i. c (suc i) ⊕ neg (z w) ⊗ c i))
    where
      lw : w < n
      lw = below w (inl refl)

      c' : ℕ → K
      c' i = c (suc i) ⊕ neg (z w) ⊗ c i

      step : Solution n z W c' → Solution n z (w ∷ W) c
      step s = record { y = y; outside = outside; reaches = reaches }
        where
          u : ℕ → K
          u v = s.y v ⊗ inv (z v ⊕ neg (z w))

          d : K
          d = c 0 ⊕ neg (syn n z u 0)

          y : ℕ → K
          y v = u v ⊕ δ w v ⊗ d

          outside : (v : ℕ) → v < n → ¬ Listed v (w ∷ W) → y v ≡ 𝟘
          outside v l i =
              cc (s.outside v l (λ j. i (inr j)), δ_off w v (λ e. i (inl e)), zero-mul F (inv (z v ⊕ neg (z w))), zero-mul F d, add-zero 𝟘)

          back : (v : ℕ) → v < n → (z v ⊕ neg (z w)) ⊗ y v ≡ s.y v
          back v l =
              elim (ℕ_discrete v w) [
                | yes e ↦ cc (sub_self F (z v) (z w) (ap z e), zero-mul F (y v), s.outside v l (λ i. D.0 (subst (λ t. Listed t W) e i)))
                | no e ↦ cc (mul-div F (z v ⊕ neg (z w)) (s.y v) (sub_ne F (z v) (z w) (apart v w l lw e)), δ_off w v e, zero-mul F d, add-zero (u v))
              ]

          extra : syn n z (λ v. δ w v ⊗ d) 0 ≡ d
          extra =
              syn_single n z (λ v. δ w v ⊗ d) w 0 lw (λ v l e. cc (δ_off w v e, zero-mul F d))
              ∙ cc (pow-zero F (z w), δ_at w, one-mul F (δ w w ⊗ d), one-mul F d)

          reaches : (i : ℕ) → i < length (w ∷ W) → syn n z y i ≡ c i
          reaches zero l = cc (syn_add n z u (λ v. δ w v ⊗ d) 0, extra, add-sub F (syn n z u 0) (c 0))
          reaches (suc i) l =
              add_right_cancel F (syn n z y (suc i)) (c (suc i)) (neg (z w) ⊗ syn n z y i)
              (cc (syn_step n z y (z w) i, syn_ext n z (λ v. (z v ⊕ neg (z w)) ⊗ y v) s.y i back, s.reaches i (omega arith), reaches i (omega arith)))
