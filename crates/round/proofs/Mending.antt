-- The group rule gives each symbol of a node from the wanted cells.
use Rattle.std.proofs.lemmas.Grind.{common_steps}
use Rattle.std.proofs.Common.{◌≡◌, ℕ, zero, suc, ◌+◌, ◌-◌, ◌*◌, ◌%◌, ◌<◌, ◌≤◌, List, map, sym, refl, ap, ◌∙◌, inl, inr, add-zero, mod-lt, mod-eq_of_lt, zero-add, zero-mul, add-one, arith}
use Rattle.std.specs.List.{range_with_len}
use Rattle.std.proofs.lemmas.List.FromFn.{fill_by_all, get_or-map-range_with_len, length-map-range_with_len}
use Rattle.std.proofs.lemmas.Bool.{cases_lt, cases_eq}
use Rattle.field.specs.Laws.{Operations, Laws, power}
use Rattle.algebra.specs.Sums.{sum}
use Rattle.algebra.proofs.Numbers.{add_assoc, add_comm, add-sub, one-mul, sum_same}
use Rattle.code.specs.declared.record.Code.{Code}
use Rattle.code.specs.Positions.{ahead, behind}
use Rattle.code.specs.Stripe.{StripeOf, Symbols, width}
use Rattle.code.proofs.CountedRound.{ahead_below, ahead-behind, ahead_then_behind, behind-ahead, behind-behind, behind_below, behind_rounded}
use Rattle.round.specs.Wanted.{wanted, without, rebuilt, α_power}
use Rattle.round.specs.Rebuild.{mended, Has}
use Rattle.round.specs.Fetching.{made_in}
use Rattle.round.proofs.Fetches.{inside_at}
use Rattle.round.proofs.Making.{made_data, made_coded, made_same}
use Rattle.round.proofs.Places.{without_before, without_after, first_cell, other_cell, coded_cell}

-- a sum is one of its terms and the sum of the others
sum_apart : (F : Operations) → Laws F → (k t : ℕ) (g : ℕ → ℕ) → t < suc k
    → sum F (suc k) g ≡ F.add (g t) (sum F k (λ s. g (without t (s + 1))))
unfolding sum
sum_apart F L zero t g l =
    let first : t ≡ 0 = omega arith in
    add_comm F L 0 (g 0) ∙ ap (λ u. F.add (g u) 0) (sym first)
sum_apart F L (suc k) t g l =
    let others : ℕ → ℕ = λ s. g (without t (s + 1)) in
    elim (cases_eq t (suc k)) [
      | inl e ↦
          let same : sum F (suc k) others ≡ sum F (suc k) g =
          sum_same F (suc k) others g (λ s b. ap g (without_before t (s + 1) (omega arith) ∙ omega arith)) in
          add_comm F L (sum F (suc k) g) (g (suc k))
          ∙ ap (λ v. F.add (g (suc k)) v) (sym same) ∙ ap (λ u. F.add (g u) (sum F (suc k) others)) (sym e)
      | inr e ↦
          let before = sum_apart F L k t g (omega arith) in
          let last : others k ≡ g (suc k) = ap g (without_after t (k + 1) (omega arith) ∙ add-one k) in
          ap (λ v. F.add v (g (suc k))) before
          ∙ add_assoc F L (g t) (sum F k others) (g (suc k))
          ∙ ap (λ v. F.add (g t) (F.add (sum F k others) v)) (sym last)
    ]

pub sum_without : (F : Operations) → Laws F → (m t : ℕ) (g : ℕ → ℕ) → t < m
    → sum F m g ≡ F.add (g t) (sum F (m - 1) (λ s. g (without t (s + 1))))
sum_without F L m t g l = grind (arith, common_steps, sum_apart)

module _ (F : Operations) (L : Laws F) (code : Code) (file : List ℕ) (x : Symbols) (S : StripeOf F code file x) (f : ℕ) (known : f < code.n) where
  -- the symbol of the cell that is wanted as number s for column c
  got : ℕ → ℕ → ℕ
  got c s = x (wanted code f (c * code.m + s)).0 (wanted code f (c * code.m + s)).1

  -- the summands of the group that has the cell (f, t)
  in_group : ℕ → ℕ → ℕ
  in_group t u = x (behind code.n (f + t) u) u

  in_group_below : (t u : ℕ) → u < code.m → in_group t u < F.q
  unfolding in_group
  in_group_below t u h = S.symbols _ u (mod-lt _ (omega arith)) (omega arith)

  -- ⟨⟨f + t + 1⟩ − u − 1⟩ = ⟨f + t − u⟩
  group_node : (t u : ℕ) → behind code.n (ahead code.n f (t + 1)) (u + 1) ≡ behind code.n (f + t) u
  group_node t u =
      let there : f + (t + 1) ≡ f + t + 1 = omega arith in
      let shift : u + 1 ≡ 1 + u = omega arith in
      ap (λ v. behind code.n (v % code.n) (u + 1)) there ∙ ap (behind code.n (ahead code.n (f + t) 1)) shift
      ∙ ahead_then_behind code.n (f + t) 1 u (omega arith)

  group_of : (t : ℕ) → t < code.m → x (ahead code.n f (t + 1)) code.m ≡ sum F code.m (in_group t)
  unfolding in_group power
  group_of t h =
      let n = code.n in
      let room = code.room in
      let j = ahead n f (t + 1) in
      let hj : j < n = ahead_below n f (t + 1) (omega arith) in
      let here : ahead n j 0 ≡ j = ap (λ v. v % n) (add-zero j) ∙ mod-eq_of_lt hj in
      ap (λ v. x v code.m) (sym here) ∙ ap (x (ahead n j 0)) (sym (add-zero code.m))
      ∙ S.groups j 0 hj (omega arith)
      ∙ sum_same F code.m _ (in_group t) (λ u b.
      ap (λ e. F.mul (power F F.α e) (x (behind n j (u + 1)) u)) (zero-mul u)
      ∙ one-mul F L _ (S.symbols _ u (mod-lt _ (omega arith)) (omega arith))
      ∙ ap (λ v. x v u) (group_node t u))

  mends_data : (t : ℕ) → t < code.m → rebuilt F code t (got t) ≡ x f t
  unfolding got in_group
  mends_data t h =
      let n = code.n in
      let room = code.room in
      let rest = sum F (code.m - 1) (λ s. in_group t (without t (s + 1))) in
      let first : got t 0 ≡ sum F code.m (in_group t) =
      ap (λ (cell : ℕ × ℕ). x cell.0 cell.1) (first_cell code f t 0 h refl) ∙ group_of t h in
      let others : sum F (code.m - 1) (λ u. got t (u + 1)) ≡ rest =
      sum_same F (code.m - 1) (λ u. got t (u + 1)) (λ s. in_group t (without t (s + 1))) (λ u b.
      ap (λ (cell : ℕ × ℕ). x cell.0 cell.1) (other_cell code f t (u + 1) h (λ z. omega arith) (omega arith))) in
      made_data F code t code.m (got t) h
      ∙ ap (λ v. F.sub v (sum F (code.m - 1) (λ u. got t (u + 1)))) (first ∙ sum_without F L code.m t (in_group t) h)
      ∙ ap (F.sub (F.add (in_group t t) rest)) others
      ∙ add-sub F L (in_group t t) rest (in_group_below t t h)
      ∙ ap (λ v. x v t) (sym (behind_rounded n (f + t) t) ∙ behind-ahead n f t known)

  mends_coded : (c : ℕ) → code.m ≤ c → c < width code → rebuilt F code c (got c) ≡ x f c
  unfolding got
  mends_coded c lo hi =
      let n = code.n in
      let i = c - code.m in
      let room = code.room in
      let j = behind n f i in
      let pos : 0 < n = omega arith in
      let hj : j < n = behind_below n f i pos in
      let column : code.m + i ≡ c = omega arith in
      let order : (u : ℕ) → i + u + 1 ≡ i + (u + 1) = λ u. omega arith in
      made_coded F code c code.m (got c) lo
      ∙ sum_same F code.m (λ u. F.mul (α_power F (i * u)) (got c u)) (λ u. F.mul (α_power F (i * u)) (x (behind n j (u + 1)) u)) (λ u b.
      ap (F.mul (α_power F (i * u)))
      (ap (λ (cell : ℕ × ℕ). x cell.0 cell.1) (coded_cell code f c u lo b) ∙ ap (λ s. x (behind n f s) u) (order u) ∙ ap (λ v. x v u) (sym (behind-behind n f i (u + 1) pos))))
      ∙ sym (S.groups j i hj (omega arith))
      ∙ ap (λ v. x v (code.m + i)) (ahead-behind n f i known) ∙ ap (x f) column

  pub mends_column : (c : ℕ) → c < width code → rebuilt F code c (λ s. x (wanted code f (c * code.m + s)).0 (wanted code f (c * code.m + s)).1) ≡ x f c
  unfolding got
  mends_column c h = elim (cases_lt c code.m) [ inl l ↦ mends_data c l | inr l ↦ mends_coded c l h ]

-- what an array that has a stripe gives
pub mended_stripe : (F : Operations) → Laws F → (code : Code) (f : ℕ) → f < code.n → (cells file : List ℕ) (x : Symbols)
    → StripeOf F code file x → Has code cells x → mended F code f cells ≡ map (x f) (range_with_len 0 (width code))
mended_stripe F L code f known cells file x S has =
    fill_by_all (x f) (mended F code f cells) (width code) 0 (length-map-range_with_len (made_in F code f cells) 0 (width code))
    (λ c h. get_or-map-range_with_len (made_in F code f cells) 0 (width code) c c 0 h (zero-add c)
    ∙ made_same F code c code.m _ _ (omega arith) (λ s l.
    let i = inside_at code f c s l in
    has (wanted code f (c * code.m + s)).0 (wanted code f (c * code.m + s)).1 i.0 i.1)
    ∙ mends_column F L code file x S f known c h)
