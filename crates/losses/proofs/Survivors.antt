-- Nodes numbered backward from a node v: place d is the node ⟨v − 1 − d⟩. Where few nodes are lost, some v has m
-- survivors right behind it.
use Rattle.std.proofs.Common.{◌≡◌, ℕ, zero, suc, ◌+◌, ◌*◌, ◌%◌, ◌<◌, false, List, [], ◌∷◌, length, sym, refl, ap, ◌∙◌, subst, inl, inr, suc-mul, zero-mul, arith}
use native.Mathlib.Decide.{ℕ_discrete}
use Rattle.algebra.specs.Vandermonde.{Listed}
use Rattle.code.specs.Positions.{ahead, behind}
use Rattle.code.proofs.CountedRound.{ahead-behind, back_again, behind_below, only_behind}
use Rattle.losses.proofs.Counting.{listed, listed_false, few_listed, unmarked}

module _ (n : ℕ) (pos : 0 < n) where
  module _ (v : ℕ) where
    -- the node at place d
    pub node : ℕ → ℕ
    node d = behind n v (suc d)

    pub node_is : (d : ℕ) → node d ≡ behind n v (suc d)
    unfolding node
    node_is d = refl

    pub node_below : (d : ℕ) → node d < n
    unfolding node
    node_below d = behind_below n v (suc d) pos

    -- the place of a node is the node of that place
    pub node-node : (j : ℕ) → j < n → node (node j) ≡ j
    unfolding node
    node-node j l =
        let order : j + suc (node j) ≡ node j + suc j = omega arith in
        sym (only_behind n v (suc (node j)) j l (ap (λ (x : ℕ). x % n) order ∙ back_again n v (suc j) pos))

    pub node_differ : (d e : ℕ) → d < n → e < n → node d ≡ node e → d ≡ e
    node_differ d e ld le h = sym (node-node d ld) ∙ ap node h ∙ node-node e le

  -- the nodes ⟨e + 1⟩ .. ⟨e + m⟩, and then a list
  next : ℕ → ℕ → List ℕ → List ℕ
  next e zero more = more
  next e (suc m) more = ahead n e (suc m) ∷ next e m more

  length-next : (e m : ℕ) (more : List ℕ) → length (next e m more) ≡ m + length more
  unfolding next
  length-next e zero more = omega arith
  length-next e (suc m) more = omega (arith, length-next e m more)

  next_holds : (e m : ℕ) (more : List ℕ) (d : ℕ) → d < m → Listed (ahead n e (suc d)) (next e m more)
  unfolding next
  next_holds e zero more d l = absurd (omega arith)
  next_holds e (suc m) more d l =
      elim (ℕ_discrete d m) [ yes h ↦ inl (ap (λ (x : ℕ). ahead n e (suc x)) h) | no h ↦ inr (next_holds e m more d (omega arith)) ]

  next_keeps : (e m : ℕ) (more : List ℕ) (w : ℕ) → Listed w more → Listed w (next e m more)
  unfolding next
  next_keeps e zero more w i = i
  next_keeps e (suc m) more w i = inr (next_keeps e m more w i)

  -- the m nodes next to each node of the list
  covered : ℕ → List ℕ → List ℕ
  covered m [] = []
  covered m (e ∷ W) = next e m (covered m W)

  length-covered : (m : ℕ) (W : List ℕ) → length (covered m W) ≡ length W * m
  unfolding covered
  length-covered m [] = sym (zero-mul m)
  length-covered m (e ∷ W) = length-next e m (covered m W) ∙ omega (arith, length-covered m W, suc-mul (length W) m)

  covered_holds : (m : ℕ) (W : List ℕ) (e d : ℕ) → d < m → Listed e W → Listed (ahead n e (suc d)) (covered m W)
  unfolding covered
  covered_holds m [] e d l i = elim i [ ]
  covered_holds m (w ∷ W) e d l (inl h) = rw h (next_holds w m (covered m W) d l)
  covered_holds m (w ∷ W) e d l (inr i) = next_keeps w m (covered m W) (ahead n e (suc d)) (covered_holds m W e d l i)

  -- the lost nodes have fewer than n nodes next to them, so some node has m survivors behind it
  pub survivors : (m : ℕ) (lost : List ℕ) → length lost * m < n
      → (v : ℕ) × (v < n) × ((d : ℕ) → d < m → Listed (node v d) lost → ⊥)
  unfolding node
  survivors m lost few = (v.0, v.1, free)
    where
      v : (v : ℕ) × (v < n) × (listed v (covered m lost) ≡ false)
      v = unmarked (λ v. listed v (covered m lost)) n
          (omega (arith, few_listed (λ v. v) n (λ d e ld le h. h) (covered m lost), length-covered m lost))

      free : (d : ℕ) → d < m → Listed (node v.0 d) lost → ⊥
      free d l i =
          listed_false v.0 (covered m lost) v.2
          (subst (λ w. Listed w (covered m lost)) (ahead-behind n v.0 (suc d) v.1)
          (covered_holds m lost (node v.0 d) d l i))
