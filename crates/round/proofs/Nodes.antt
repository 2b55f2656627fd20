-- Which nodes a round asks, and how many.
use Rattle.std.proofs.lemmas.Grind.{common_steps}
use Rattle.std.proofs.Common.{◌≡◌, ℕ, zero, suc, ◌+◌, ◌-◌, ◌*◌, ◌/◌, ◌%◌, ◌<◌, ◌≤◌, cond, ltb, List, map, length, sym, refl, ap, ◌∙◌, subst, inl, inr, arith}
use native.Mathlib.Nat.{add-mod_right}
use Rattle.std.specs.List.{range_with_len}
use Rattle.std.proofs.lemmas.List.FromFn.{length-map-range_with_len}
use Rattle.std.proofs.lemmas.Bool.{cases_lt, cases_eq, lt-ltb, le-ltb}
use Rattle.algebra.specs.Vandermonde.{Listed, Distinct}
use Rattle.code.specs.declared.record.Code.{Code}
use Rattle.code.specs.Positions.{ahead, behind}
use Rattle.code.specs.Stripe.{width}
use Rattle.code.proofs.CountedRound.{ahead_cases, behind_cases, behind_small}
use Rattle.round.specs.Wanted.{wanted, without}
use Rattle.round.specs.Round.{Asks, Near, nodes_asked}
use Rattle.round.proofs.Places.{without_le, first_cell, coded_cell}
use Rattle.round.proofs.Fetches.{below_whole}
use Rattle.round.proofs.Apart.{Kinds, kinds, counted, without_apart}

-- ⟨f − s⟩ = ⟨f + n − s⟩
behind_wraps : (n f s v : ℕ) → s < n → v + s ≡ f + n → behind n f s ≡ v % n
behind_wraps n f s v h e = let d : f + n - s ≡ v = omega arith in behind_small n f s h ∙ ap (λ x. x % n) d

-- ⟨f + s + n⟩ = ⟨f + s⟩
ahead_wraps : (n f s v : ℕ) → v ≡ f + s + n → ahead n f s ≡ v % n
ahead_wraps n f s v e = sym (add-mod_right (f + s) n) ∙ ap (λ x. x % n) (sym e)

-- the values of g at the numbers from k on, n of them: what is listed there
listed_from : (g : ℕ → ℕ) (k n i : ℕ) → k ≤ i → i < k + n → Listed (g i) (map g (range_with_len k n))
listed_from g k zero i a b = absurd (omega arith)
listed_from g k (suc n) i a b =
    elim (cases_eq i k) [ inl e ↦ inl (ap g e) | inr d ↦ inr (listed_from g (k + 1) n i (omega arith) (omega arith)) ]

listed_at : (g : ℕ → ℕ) (k n v : ℕ) → Listed v (map g (range_with_len k n)) → (i : ℕ) × (k ≤ i) × (i < k + n) × (g i ≡ v)
listed_at g k zero v l = elim l [ ]
listed_at g k (suc n) v (inl e) = (k, omega arith, omega arith, sym e)
listed_at g k (suc n) v (inr l) = let i = listed_at g (k + 1) n v l in (i.0, omega arith, omega arith, i.3)

-- where all of them differ, none stands there twice
distinct_from : (g : ℕ → ℕ) (k n : ℕ)
    → ((i j : ℕ) → k ≤ i → i < k + n → k ≤ j → j < k + n → g i ≡ g j → i ≡ j) → Distinct (map g (range_with_len k n))
distinct_from g k zero apart = tt
distinct_from g k (suc n) apart = (
  (λ l.
      let i = listed_at g (k + 1) n (g k) l in
      let e = apart i.0 k (omega arith) (omega arith) (omega arith) (omega arith) i.3 in
      omega arith),
  distinct_from g (k + 1) n (λ i j a b a' b' e. apart i j (omega arith) (omega arith) (omega arith) (omega arith) e),
)

module _ (code : Code) (f : ℕ) (known : f < code.n) where
  near_at : (c s v : ℕ) → c < width code → s < code.m → (wanted code f (c * code.m + s)).0 ≡ v → Kinds code f c s → Near code f v
  near_at c s v hc hs e (inl (l, z, k)) =
      let i : f + c + 1 ≡ f + (c + 1) = omega arith in
      inl (c + 1, omega arith, omega arith, sym e ∙ k.node_is ∙ ap (λ x. x % code.n) i)
  near_at c s v hc hs e (inr (inl (l, z, k))) =
      let room = code.room in
      let small = without_le c s in
      elim (cases_lt (without c s) c) [
        | inl b ↦
            inl (
              c - without c s,
              omega arith,
              omega arith,
              sym e ∙ k.node_is ∙ sym (ahead_wraps code.n f (c - without c s) (f + c + code.n - without c s) (omega arith)),
            )
        | inr b ↦
            let apart : without c s ≡ c → ⊥ = without_apart c s z in
            inr (
              without c s - c,
              omega arith,
              omega arith,
              sym e ∙ k.node_is ∙ sym (behind_wraps code.n f (without c s - c) (f + c + code.n - without c s) (omega arith) (omega arith)),
            )
      ]
  near_at c s v hc hs e (inr (inr (l, k))) =
      let room = code.room in
      inr (
        c - code.m + s + 1,
        omega arith,
        omega arith,
        sym e ∙ k.node_is ∙ sym (behind_wraps code.n f (c - code.m + s + 1) (f + code.n - (c - code.m + s + 1)) (omega arith) (omega arith)),
      )

  pub asks_near : (v : ℕ) → Asks code f v → Near code f v
  asks_near v (p, h, e) =
      let at = counted code p h in
      near_at (p / code.m) (p % code.m) v at.0 at.1 (ap (λ x. (wanted code f x).0) at.2 ∙ e) (kinds code f (p / code.m) (p % code.m) at.0 at.1)

  pub near_asks : (v : ℕ) → Near code f v → Asks code f v
  near_asks v (inl (s, lo, hi, e)) =
      let back : s - 1 + 1 ≡ s = omega arith in (
        (s - 1) * code.m + 0,
        below_whole code (s - 1) 0 (omega arith) (omega arith),
        ap (λ (x : ℕ × ℕ). x.0) (first_cell code f (s - 1) 0 (omega arith) refl) ∙ ap (ahead code.n f) back ∙ sym e,
      )
  near_asks v (inr (s, lo, hi, e)) =
      elim (cases_lt s code.m) [
        | inl b ↦
            let shift : code.m - code.m + (s - 1) + 1 ≡ s = omega arith in (
              code.m * code.m + (s - 1),
              below_whole code code.m (s - 1) (omega arith) (omega arith),
              ap (λ (x : ℕ × ℕ). x.0) (coded_cell code f code.m (s - 1) (omega arith) (omega arith)) ∙ ap (behind code.n f) shift ∙ sym e,
            )
        | inr b ↦
            let shift : s - code.m + (code.m - 1) + 1 ≡ s = omega arith in (
              s * code.m + (code.m - 1),
              below_whole code s (code.m - 1) hi (omega arith),
              ap (λ (x : ℕ × ℕ). x.0) (coded_cell code f s (code.m - 1) b (omega arith)) ∙ ap (behind code.n f) shift ∙ sym e,
            )
      ]

  pub asks_others : Asks code f f → ⊥
  asks_others a = elim (asks_near f a) [
    | inl (s, lo, hi, e) ↦ let room = code.room in omega (arith, ahead_cases code.n f s known (omega arith))
    | inr (s, lo, hi, e) ↦ let room = code.room in omega (arith, behind_cases code.n f s known (omega arith))
  ]

  -- the nodes asked, one after the other: those ahead of f, then those behind it that are not ahead of it too
  node_at : ℕ → ℕ
  node_at d = cond (ltb d code.m) (ahead code.n f (d + 1)) (behind code.n f (d - code.m + 1))

  ahead_at : (d : ℕ) → d < code.m → node_at d ≡ ahead code.n f (d + 1)
  unfolding node_at
  ahead_at d h = rw (lt-ltb d code.m h)

  behind_at : (d : ℕ) → code.m ≤ d → node_at d ≡ behind code.n f (d - code.m + 1)
  unfolding node_at
  behind_at d h = rw (le-ltb d code.m h)

  many : ℕ
  many = nodes_asked code

  nodes_apart : (d e : ℕ) → d < many → e < many → node_at d ≡ node_at e → d ≡ e
  unfolding many
  nodes_apart d e hd he same = grind (arith, common_steps, ahead_at, ahead_cases, behind_at, behind_cases)

  node_near : (d : ℕ) → d < many → Near code f (node_at d)
  unfolding many
  node_near d h =
      elim (cases_lt d code.m) [
        | inl l ↦ inl (d + 1, omega arith, omega arith, ahead_at d l)
        | inr l ↦ inr (d - code.m + 1, omega arith, omega arith, behind_at d l)
      ]

  near_node : (v : ℕ) → Near code f v → (d : ℕ) × (d < many) × (node_at d ≡ v)
  unfolding many
  near_node v (inl (s, lo, hi, e)) =
      let room = code.room in
      let back : s - 1 + 1 ≡ s = omega arith in
      (s - 1, omega arith, ahead_at (s - 1) (omega arith) ∙ ap (ahead code.n f) back ∙ sym e)
  near_node v (inr (s, lo, hi, e)) =
      let n = code.n in
      let room = code.room in
      elim (cases_lt (code.m + s) n) [
        | inl b ↦
            let back : code.m + s - 1 - code.m + 1 ≡ s = omega arith in
            (code.m + s - 1, omega arith, behind_at (code.m + s - 1) (omega arith) ∙ ap (behind n f) back ∙ sym e)
        | inr b ↦
            let below : s < n = omega arith in
            let back : f + (n - s - 1 + 1) ≡ f + n - s = omega arith in (
              n - s - 1,
              omega arith,
              ahead_at (n - s - 1) (omega arith) ∙ ap (λ x. x % n) back ∙ sym (behind_small n f s below) ∙ sym e,
            )
      ]

  pub asked_nodes : (vs : List ℕ) × Distinct vs × (length vs ≡ nodes_asked code)
      × ((v : ℕ) → (Listed v vs → Asks code f v) × (Asks code f v → Listed v vs))
  unfolding many
  asked_nodes = (
    map node_at (range_with_len 0 many),
    distinct_from node_at 0 many (λ i j a b a' b' e. nodes_apart i j (omega arith) (omega arith) e),
    length-map-range_with_len node_at 0 many,
    λ v. (
      (λ l. let i = listed_at node_at 0 many v l in near_asks v (subst (Near code f) i.3 (node_near i.0 (omega arith)))),
      (λ a.
          let d = near_node v (asks_near v a) in
          subst (λ x. Listed x (map node_at (range_with_len 0 many))) d.2 (listed_from node_at 0 many d.0 (omega arith) (omega arith))),
    ),
  )
