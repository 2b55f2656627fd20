-- Any r + a nodes may be lost where n > (r + a)·m.
use Rattle.std.proofs.Common.{◌≡◌, ℕ, suc, ◌+◌, ◌-◌, ◌*◌, ◌<◌, ◌≤◌, Bool, false, leb, List, length, sym, ap, ◌∙◌, subst, inl, inr, mul-le-mul_right, mul-le-mul_left, arith}
use native.Mathlib.Nat.{le-max_left}
use Rattle.std.proofs.lemmas.Bool.{and_cases, leb-false, cases_Bool}
use Rattle.field.specs.Laws.{Operations, Laws, power}
use Rattle.algebra.specs.Sums.{sum}
use Rattle.algebra.specs.Vandermonde.{Listed}
use Rattle.algebra.proofs.Numbers.{sum_ext, sub_self, equal_from_sub}
use Rattle.code.specs.declared.record.Code.{Code}
use Rattle.code.specs.Positions.{ahead, behind}
use Rattle.code.specs.Stripe.{Symbols, parity, width}
use Rattle.code.proofs.CountedRound.{behind_below, behind-behind, behind_then_ahead}
use Rattle.theorems.proofs.Ruled.{Ruled, nodes_positive, column_unique, groups_from_data}
use Rattle.theorems.proofs.Stripes.{stripe_difference, stripe_determines_file}
use Rattle.losses.specs.Losses.{AnyNodesLost, AnyNodesLostSharper}
use Rattle.losses.proofs.Counting.{tally, listed, listed_true, listed_false, few_listed, chosen, length-chosen, not_chosen, late, tally-late}
use Rattle.losses.proofs.Survivors.{node, node_is, node_below, node-node, node_differ, survivors}
use Rattle.losses.proofs.Descent.{columns_zero}

-- x is an array of symbols that keeps both rules and is 0 outside the lost nodes.
module _ (F : Operations) (L : Laws F) (code : Code) (x : Symbols) (ruled : Ruled F code x)
    (lost : List ℕ) (outside : (j c : ℕ) → j < code.n → c < width code → (Listed j lost → ⊥) → x j c ≡ 0)
    (few : length lost ≤ parity code + code.a)
  where
    pos : 0 < code.n
    pos = nodes_positive F L code

    -- numbered backward from a node v with m survivors behind it
    module _ (v : ℕ) (free : (d : ℕ) → d < code.m → Listed (node code.n pos v d) lost → ⊥) where
      place : ℕ → ℕ
      place d = node code.n pos v d

      -- whether the node at place d is lost
      gone : ℕ → Bool
      gone d = listed (place d) lost

      not_gone : (d : ℕ) → gone d ≡ false → Listed (place d) lost → ⊥
      unfolding gone
      not_gone d = listed_false (place d) lost

      outside_gone : (d c : ℕ) → c < width code → gone d ≡ false → x (place d) c ≡ 0
      unfolding place
      outside_gone d c l h = outside (place d) c (node_below code.n pos v d) l (not_gone d h)

      first_stand : (d : ℕ) → d < code.m → gone d ≡ false
      unfolding place gone
      first_stand d l = elim (cases_Bool (gone d)) [ inl h ↦ absurd (free d l (listed_true (place d) lost h)) | inr h ↦ h ]

      -- the group rule in places: with data cells from place e on, the coded cells lie at the places before e
      group : (e i : ℕ) → i < code.a → i < e
          → x (place (e - suc i)) (code.m + i) ≡ sum F code.m (λ u. F.mul (power F F.α (i * u)) (x (place (e + u)) u))
      unfolding place
      group e i ha he =
          ap (λ j. x j (code.m + i)) (sym coded)
          ∙ ruled.groups (behind code.n v e) i (behind_below code.n v e pos) ha
          ∙ sum_ext F L code.m (λ t. F.mul (power F F.α (i * t)) (x (behind code.n (behind code.n v e) (t + 1)) t))
          (λ u. F.mul (power F F.α (i * u)) (x (place (e + u)) u)) (λ u l. ap (λ j. F.mul (power F F.α (i * u)) (x j u)) (held u))
        where
          coded : ahead code.n (behind code.n v e) i ≡ place (e - suc i)
          coded =
              let back : e - i ≡ suc (e - suc i) = omega arith in
              behind_then_ahead code.n v e i pos (omega arith) ∙ ap (behind code.n v) back ∙ sym (node_is code.n pos v (e - suc i))

          held : (u : ℕ) → behind code.n (behind code.n v e) (u + 1) ≡ place (e + u)
          held u =
              let on : e + (u + 1) ≡ suc (e + u) = omega arith in
              behind-behind code.n v e (u + 1) pos ∙ ap (behind code.n v) on ∙ sym (node_is code.n pos v (e + u))

      -- a data column that is 0 at the first a lost places is 0: at most r others are lost
      column : (t : ℕ) → t < code.m → ((d : ℕ) → tally gone d < code.a → x (place d) t ≡ 0) → (d : ℕ) → x (place d) t ≡ 0
      unfolding place gone
      column t ht early d =
          column_unique F L code x ruled.columns t ht (λ j l. ruled.symbols j t l (omega arith)) rest short elsewhere
          (place d) (node_below code.n pos v d)
        where
          rest : List ℕ
          rest = chosen place (late gone code.a) code.n

          short : length rest ≤ parity code
          short =
              omega (
                arith,
                length-chosen place (late gone code.a) code.n,
                tally-late gone code.a code.n,
                few_listed place code.n (node_differ code.n pos v) lost,
              )

          at_place : (d : ℕ) → late gone code.a d ≡ false → x (place d) t ≡ 0
          at_place d h =
              elim (and_cases (gone d) (leb code.a (tally gone d)) h)
              [ inl g ↦ outside_gone d t (omega arith) g | inr g ↦ early d (leb-false code.a (tally gone d) g) ]

          elsewhere : (j : ℕ) → j < code.n → (Listed j rest → ⊥) → x j t ≡ 0
          elsewhere j l out =
              ap (λ i. x i t) (sym (node-node code.n pos v j l))
              ∙ at_place (place j)
              (not_chosen place (late gone code.a) code.n (place j) (node_below code.n pos v j)
              (λ i. out (subst (λ w. Listed w rest) (node-node code.n pos v j l) i)))

      places_zero : (t : ℕ) → t < code.m → (d : ℕ) → x (place d) t ≡ 0
      unfolding place
      places_zero =
          columns_zero F L code.m code.a (omega (arith, code.data_columns)) code.coded_columns.1 (λ d c. x (place d) c)
          (λ d c l. ruled.symbols (place d) c (node_below code.n pos v d) l) gone outside_gone first_stand group column

      data_zero : (j t : ℕ) → j < code.n → t < code.m → x j t ≡ 0
      unfolding place
      data_zero j t hj ht = ap (λ i. x i t) (sym (node-node code.n pos v j hj)) ∙ places_zero t ht (place j)

    -- Where n > (r + a)·m, every cell is 0.
    pub all_zero : (parity code + code.a) * code.m < code.n → (j c : ℕ) → j < code.n → c < width code → x j c ≡ 0
    all_zero wide = groups_from_data F L code x ruled.groups (data_zero v.0 v.2)
      where
        v : (v : ℕ) × (v < code.n) × ((d : ℕ) → d < code.m → Listed (node code.n pos v d) lost → ⊥)
        v = survivors code.n pos code.m lost (omega (arith, mul-le-mul_right code.m few))

pub any_nodes_lost_sharper : AnyNodesLostSharper
any_nodes_lost_sharper F L code lost wide few u v x y U V X Y agree =
    stripe_determines_file F code u v x y U V X Y same
  where
    same : (j t : ℕ) → j < code.k → t < code.m → x j t ≡ y j t
    same j t lj lt =
        let inside : j < code.n = omega (arith, code.data_nodes) in
        let held : t < width code = omega arith in
        equal_from_sub F L (x j t) (y j t) (X.symbols j t inside held) (Y.symbols j t inside held)
        (all_zero F L code (λ j c. F.sub (x j c) (y j c)) (stripe_difference F L code u v x y X Y) lost
        (λ j c lj lc out. ap (λ s. F.sub s (y j c)) (agree j c lj lc out) ∙ sub_self F L (y j c)) few wide j t inside held)

-- max(m, a − 1) is no less than m
pub any_nodes_lost : AnyNodesLost
any_nodes_lost F L code lost wide few =
    any_nodes_lost_sharper F L code lost
    (omega (arith, mul-le-mul_left (parity code + code.a) (le-max_left code.m (code.a - 1)))) few
