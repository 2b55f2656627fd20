-- Where k > a, some r + a + 1 nodes may not be lost: they hold a stripe that is not 0.
use Rattle.std.proofs.lemmas.Grind.{common_steps}
use Rattle.std.proofs.Common.{◌≡◌, ℕ, suc, ◌+◌, ◌-◌, ◌*◌, ◌<◌, ◌≤◌, cond, eqb, ltb, List, get_or, sym, refl, ap, ◌∙◌, ap₂, arith}
use native.Mathlib.Decide.{ℕ_discrete, dec_lt}
use Rattle.std.proofs.lemmas.Bool.{lt-ltb, le-ltb, ltb-true, ne_eqb, cond_both}
use Rattle.field.specs.Laws.{Operations, Laws, power}
use Rattle.algebra.specs.Sums.{sum}
use Rattle.algebra.specs.Vandermonde.{Listed, Completes}
use Rattle.algebra.proofs.Bridge.{zero_below}
use Rattle.algebra.proofs.Numbers.{add-zero, add_left_cancel, mul-zero, one_ne, sum_ext, sum_split, sum_zeros, syndrome_generator}
use Rattle.algebra.proofs.Vandermonde.{vandermonde_completes, plain_points, range, range_length, range_listed, range_inside, range_distinct}
use Rattle.code.specs.declared.record.Code.{Code}
use Rattle.code.specs.Positions.{behind}
use Rattle.code.specs.Stripe.{Symbols, IsFile, StripeOf, ColumnRule, parity, width}
use Rattle.code.proofs.CountedRound.{behind_within}
use Rattle.theorems.proofs.Ruled.{Ruled, stripe_ruled, ruled_sum, with_coded, with_coded_data, with_coded_ruled, coded_from_group}
use Rattle.theorems.proofs.Files.{start_of, start_is, start_stripe}
use Rattle.losses.specs.Losses.{NoMoreNodes, SameOutside}

-- Column 0 of the array: 1 at node 0, solved for the nodes 1 .. r, and 0 after them.
module _ (F : Operations) (L : Laws F) (code : Code) where
  solved : (y : ℕ → ℕ) × Completes F (suc (parity code)) 1 (power F F.α) (λ v. 1) y
  solved =
      (vandermonde_completes F L (suc (parity code)) 1 (omega arith) (power F F.α)
      (plain_points F L (suc (parity code)) (omega (arith, code.nodes, code.data_nodes))) (λ v. 1) (λ v l. L.one_below)).0

  seed : ℕ → ℕ
  seed v = cond (ltb v (suc (parity code))) (solved.0 v) 0

  seed_at : (v : ℕ) → v < suc (parity code) → seed v ≡ solved.0 v
  unfolding seed
  seed_at v l = ap (λ b. cond b (solved.0 v) 0) (lt-ltb v (suc (parity code)) l)

  seed_after : (v : ℕ) → parity code < v → seed v ≡ 0
  unfolding seed
  seed_after v l = ap (λ b. cond b (solved.0 v) 0) (le-ltb v (suc (parity code)) l)

  seed_start : seed 0 ≡ 1
  seed_start = seed_at 0 (omega arith) ∙ solved.1.starts 0 (omega arith)

  seed_below : (v : ℕ) → seed v < F.q
  unfolding seed
  seed_below v = grind (arith, common_steps, cond_both, ltb-true, zero_below)

  seed_vanishes : (i : ℕ) → i < parity code → sum F code.n (λ j. F.mul (power F F.α (i * j)) (seed j)) ≡ 0
  seed_vanishes i l =
      ap (λ (c : ℕ). sum F c term) whole
      ∙ sum_split F L (suc (parity code)) (code.n - suc (parity code)) term
      ∙ ap₂ F.add first (sum_zeros F L (code.n - suc (parity code)) (λ j. term (suc (parity code) + j)) second)
      ∙ add-zero F L 0 (zero_below F L)
    where
      term : ℕ → ℕ
      term j = F.mul (power F F.α (i * j)) (seed j)

      whole : code.n ≡ suc (parity code) + (code.n - suc (parity code))
      whole = omega (arith, code.data_nodes)

      first : sum F (suc (parity code)) term ≡ 0
      first =
          sum_ext F L (suc (parity code)) term (λ j. F.mul (power F F.α (i * j)) (solved.0 j))
          (λ j h. ap (F.mul (power F F.α (i * j))) (seed_at j h))
          ∙ syndrome_generator F L (suc (parity code)) solved.0 i
          ∙ solved.1.vanishes i (omega arith)

      second : (j : ℕ) → j < code.n - suc (parity code) → term (suc (parity code) + j) ≡ 0
      second j h =
          let v : ℕ = suc (parity code) + j in
          ap (F.mul (power F F.α (i * v))) (seed_after v (omega arith)) ∙ mul-zero F L (power F F.α (i * v))

  -- the data columns: the seed in column 0, and nothing in the others
  start : Symbols
  start j t = cond (eqb t 0) (seed j) 0

  start_first : (j : ℕ) → start j 0 ≡ seed j
  unfolding start
  start_first j = refl

  start_other : (j t : ℕ) → (t ≡ 0 → ⊥) → start j t ≡ 0
  unfolding start
  start_other j t away = ap (λ b. cond b (seed j) 0) (ne_eqb t 0 away)

  start_below : (j t : ℕ) → start j t < F.q
  unfolding start
  start_below j t = cond_both (eqb t 0) (seed j) 0 (λ s. s < F.q) (λ g. seed_below j) (λ g. zero_below F L)

  start_columns : ColumnRule F code start
  start_columns t i lt li =
      elim (ℕ_discrete t 0) [
        | yes e ↦
            sum_ext F L code.n (λ j. F.mul (power F F.α (i * j)) (start j t)) (λ j. F.mul (power F F.α (i * j)) (seed j))
            (λ j l. ap (F.mul (power F F.α (i * j))) (ap (start j) e ∙ start_first j))
            ∙ seed_vanishes i li
        | no away ↦
            sum_zeros F L code.n (λ j. F.mul (power F F.α (i * j)) (start j t))
            (λ j l. ap (F.mul (power F F.α (i * j))) (start_other j t away) ∙ mul-zero F L (power F F.α (i * j)))
      ]

  -- a data cell is 0 after node r
  start_after : (j t : ℕ) → parity code < j → start j t ≡ 0
  start_after j t far =
      elim (ℕ_discrete t 0) [ yes e ↦ ap (start j) e ∙ start_first j ∙ seed_after j far | no away ↦ start_other j t away ]

  limit : Symbols
  limit = with_coded F L code start

  limit_data : (j t : ℕ) → t < code.m → limit j t ≡ start j t
  unfolding limit
  limit_data = with_coded_data F L code start

  limit_ruled : Ruled F code limit
  unfolding limit
  limit_ruled = with_coded_ruled F L code start (λ j t lj lt. start_below j t) start_columns

  limit_start : limit 0 0 ≡ 1
  limit_start = limit_data 0 0 (omega (arith, code.data_columns)) ∙ start_first 0 ∙ seed_start

  -- It is 0 outside the nodes 0 .. r + a: the group of a coded cell there has its one cell of column 0 after node r.
  limit_outside : (j c : ℕ) → j < code.n → c < width code → parity code + code.a < j → limit j c ≡ 0
  limit_outside j c lj lc far =
      elim (dec_lt c code.m) [ yes l ↦ limit_data j c l ∙ start_after j c (omega arith) | no l ↦ coded (omega arith) ]
    where
      i : ℕ
      i = c - code.m

      first : code.m ≤ c → behind code.n (behind code.n j i) 1 ≡ j - i - 1
      first le =
          ap (λ (v : ℕ). behind code.n v 1) (behind_within code.n j i lj (omega arith))
          ∙ behind_within code.n (j - i) 1 (omega arith) (omega arith)

      cell : code.m ≤ c → (t : ℕ) → t < code.m → limit (behind code.n (behind code.n j i) (t + 1)) t ≡ 0
      cell le t lt =
          elim (ℕ_discrete t 0) [
            | yes e ↦ ap₂ limit (ap (λ (s : ℕ). behind code.n (behind code.n j i) (s + 1)) e ∙ first le) e
                ∙ limit_data (j - i - 1) 0 (omega arith) ∙ start_after (j - i - 1) 0 (omega arith)
            | no away ↦ let v : ℕ = behind code.n (behind code.n j i) (t + 1) in
                limit_data v t lt ∙ start_other v t away
          ]

      coded : code.m ≤ c → limit j c ≡ 0
      coded le =
          let e : c ≡ code.m + i = omega arith in
          ap (limit j) e ∙ coded_from_group F L code limit limit_ruled.groups j i lj (omega arith) (cell le)

-- Added to any stripe, the array gives the stripe of another file that is the same outside the nodes 0 .. r + a.
module _ (F : Operations) (L : Laws F) (code : Code) (u : List ℕ) (x : Symbols) (X : StripeOf F code u x) where
  moved : Symbols
  moved j c = F.add (x j c) (limit F L code j c)

  moved_ruled : Ruled F code moved
  unfolding moved
  moved_ruled = ruled_sum F L code x (limit F L code) (stripe_ruled F code u x X) (limit_ruled F L code)

  moved_outside : (j c : ℕ) → j < code.n → c < width code → parity code + code.a < j → x j c ≡ moved j c
  unfolding moved
  moved_outside j c lj lc far =
      sym (ap (F.add (x j c)) (limit_outside F L code j c lj lc far) ∙ add-zero F L (x j c) (X.symbols j c lj lc))

  -- the new file has another symbol at node 0, column 0
  moved_differs : (v : List ℕ) → StripeOf F code v moved → u ≡ v → ⊥
  unfolding moved
  moved_differs v V e = one_ne F L (sym (add_left_cancel F L (x 0 0) 0 1 (zero_below F L) L.one_below same))
    where
      node : 0 < code.k
      node = omega (arith, code.data_nodes)

      column : 0 < code.m
      column = omega (arith, code.data_columns)

      same : F.add (x 0 0) 0 ≡ F.add (x 0 0) 1
      same =
          add-zero F L (x 0 0) (X.symbols 0 0 (omega (arith, code.nodes)) (omega arith))
          ∙ X.starts 0 0 node column ∙ ap (λ w. get_or w (0 * code.m + 0) 0) e ∙ sym (V.starts 0 0 node column)
          ∙ ap (F.add (x 0 0)) (limit_start F L code)

  another : (lost : List ℕ) → ((j : ℕ) → (Listed j lost → ⊥) → parity code + code.a < j)
      → (v : List ℕ) × (y : Symbols) × IsFile F code v × StripeOf F code v y × (u ≡ v → ⊥) × SameOutside code lost x y
  another lost beyond = (
    start_of F L code moved,
    moved,
    start_is F L code moved moved_ruled,
    V,
    moved_differs (start_of F L code moved) V,
    λ j c lj lc out. moved_outside j c lj lc (beyond j out),
  )
    where
      V : StripeOf F code (start_of F L code moved) moved
      V = start_stripe F L code moved moved_ruled

pub no_more_nodes : NoMoreNodes
no_more_nodes F L code more = (
  range 0 count,
  range_length 0 count,
  range_distinct 0 count,
  λ w i. omega (arith, range_inside 0 count w i, code.data_nodes),
  λ u x U X. another F L code u x X (range 0 count) beyond,
)
  where
    count : ℕ
    count = parity code + code.a + 1

    beyond : (j : ℕ) → (Listed j (range 0 count) → ⊥) → parity code + code.a < j
    beyond j out =
        elim (dec_lt (parity code + code.a) j)
        [ yes l ↦ l | no l ↦ absurd (out (range_listed 0 count j (omega arith) (omega arith))) ]
