-- Which cells a change of one symbol of the file reaches.
use Rattle.std.proofs.Common.{◌≡◌, ℕ, zero, suc, ◌+◌, ◌-◌, ◌*◌, ◌<◌, List, get_or, sym, refl, ap, ◌∙◌, subst, ap₂, arith}
use native.Mathlib.Decide.{dec_lt, ℕ_discrete}
use Rattle.field.specs.Laws.{Operations, Laws}
use Rattle.algebra.proofs.Numbers.{add_comm, add-zero, mul-one, mul-zero, sub-add, sub_self, equal_from_sub}
use Rattle.code.specs.declared.record.Code.{Code}
use Rattle.code.specs.Positions.{ahead, behind}
use Rattle.code.specs.Stripe.{Symbols, IsFile, StripeOf, parity, width}
use Rattle.code.proofs.CountedRound.{ahead_below, ahead_injective, ahead-behind, ahead-ahead, behind_below}
use Rattle.code.proofs.Places.{place_below, place_injective}
use Rattle.theorems.specs.Linear.{IsFactor}
use Rattle.theorems.specs.Change.{reached, changed, ChangeReaches, ChangeDiffers}
use Rattle.theorems.proofs.Ruled.{Ruled, stripe_ruled, ruled_sum, ruled_multiple, same_start, column_from_data, coded_from_group, nodes_positive}
use Rattle.theorems.proofs.Files.{file_below}
use Rattle.theorems.proofs.Stripes.{stripe_difference}

-- the reached nodes are nodes
pub reached_below : (code : Code) (j e : ℕ) → j < code.k → e < parity code + 1 → reached code j e < code.n
reached_below code j zero lj le = omega (arith, code.data_nodes)
reached_below code j (suc d) lj le = omega (arith, code.data_nodes)

-- the reached nodes are different
pub reached_injective : (code : Code) (j e f : ℕ) → j < code.k → reached code j e ≡ reached code j f → e ≡ f
reached_injective code j zero zero lj same = refl
reached_injective code j zero (suc f) lj same = absurd (omega arith)
reached_injective code j (suc e) zero lj same = absurd (omega arith)
reached_injective code j (suc e) (suc f) lj same = omega arith

cell_inside : (code : Code) (j t e i : ℕ) → j < code.k → t < code.m → e < parity code + 1 → i < code.a + 1
    → ((changed code j t e i).0 < code.n) × ((changed code j t e i).1 < width code)
cell_inside code j t e zero lj lt le li = (reached_below code j e lj le, omega arith)
cell_inside code j t e (suc i) lj lt le li =
    (ahead_below code.n (reached code j e) (t + 1 + i) (omega (arith, code.nodes)), omega arith)

cell_injective : (code : Code) (j t e i f h : ℕ) → j < code.k → t < code.m → e < parity code + 1 → f < parity code + 1
    → changed code j t e i ≡ changed code j t f h → (e ≡ f) × (i ≡ h)
cell_injective code j t e zero f zero lj lt le lf same =
    (reached_injective code j e f lj (ap (λ (c : ℕ × ℕ). c.0) same), refl)
cell_injective code j t e zero f (suc h) lj lt le lf same =
    let column : t ≡ code.m + h = ap (λ (c : ℕ × ℕ). c.1) same in absurd (omega arith)
cell_injective code j t e (suc i) f zero lj lt le lf same =
    let column : code.m + i ≡ t = ap (λ (c : ℕ × ℕ). c.1) same in absurd (omega arith)
cell_injective code j t e (suc i) f (suc h) lj lt le lf same = (reached_injective code j e f lj nodes, ap suc row)
  where
    row : i ≡ h
    row = let column : code.m + i ≡ code.m + h = ap (λ (c : ℕ × ℕ). c.1) same in omega arith

    nodes : reached code j e ≡ reached code j f
    nodes =
        ahead_injective code.n (reached code j e) (reached code j f) (t + 1 + i)
        (reached_below code j e lj le) (reached_below code j f lj lf)
        (ap (λ (c : ℕ × ℕ). c.0) same ∙ ap (λ s. ahead code.n (reached code j f) (t + 1 + s)) (sym row))

pub change_differs : ChangeDiffers
change_differs code j t lj lt =
    (λ e i le li. cell_inside code j t e i lj lt le li, λ e i f h le li lf lh same. cell_injective code j t e i f h lj lt le lf same)

-- An array that keeps both rules and that is 0 in the data columns of the first k nodes except at (j, t) is 0 outside
-- the cells of a change at (j, t).
module _ (F : Operations) (L : Laws F) (code : Code) (j t : ℕ) (lj : j < code.k) (lt : t < code.m) (x : Symbols) (X : Ruled F code x)
    (elsewhere : (i u : ℕ) → i < code.k → u < code.m → ((i ≡ j) × (u ≡ t) → ⊥) → x i u ≡ 0) where
  -- the other data columns are 0
  other_columns : (u v : ℕ) → u < code.m → (u ≡ t → ⊥) → v < code.n → x v u ≡ 0
  other_columns u v lu away lv = column_from_data F L code x X u lu (λ i li. elsewhere i u li lu (λ e. away e.1)) v lv

  -- a data cell is 0 unless it stands in column t at a reached node
  data_cells : (u v : ℕ) → u < code.m → v < code.n
      → (u ≡ t → (e : ℕ) → e < parity code + 1 → reached code j e ≡ v → ⊥) → x v u ≡ 0
  data_cells u v lu lv apart = by_case (ℕ_discrete u t) (dec_lt v code.k)
    where
      by_case : Dec (u ≡ t) → Dec (v < code.k) → x v u ≡ 0
      by_case (no away) _ = other_columns u v lu away lv
      by_case (yes here) (yes low) = elsewhere v u low lu (λ e. apart here 0 (omega arith) (sym e.0))
      by_case (yes here) (no high) =
          let back : code.k + (v - code.k) ≡ v = omega arith in absurd (apart here (suc (v - code.k)) (omega arith) back)

  -- a coded cell is 0 unless its group holds a reached cell
  coded_cells : (v i : ℕ) → v < code.n → i < code.a
      → ((e : ℕ) → e < parity code + 1 → ahead code.n (reached code j e) (t + 1 + i) ≡ v → ⊥) → x v (code.m + i) ≡ 0
  coded_cells v i lv li apart =
      coded_from_group F L code x X.groups v i lv li (λ u lu.
      data_cells u (behind code.n (behind code.n v i) (u + 1)) lu
      (behind_below code.n (behind code.n v i) (u + 1) (nodes_positive F L code))
      (λ here e le same. apart e le (ap₂ (λ w d. ahead code.n w (d + 1 + i)) same (sym here) ∙ back u)))
    where
      back : (u : ℕ) → ahead code.n (behind code.n (behind code.n v i) (u + 1)) (u + 1 + i) ≡ v
      back u =
          sym (ahead-ahead code.n (behind code.n (behind code.n v i) (u + 1)) (u + 1) i)
          ∙ ap (λ w. ahead code.n w i)
          (ahead-behind code.n (behind code.n v i) (u + 1) (behind_below code.n v i (nodes_positive F L code)))
          ∙ ahead-behind code.n v i lv

  pub unreached : (v c : ℕ) → v < code.n → c < width code
      → ((e i : ℕ) → e < parity code + 1 → i < code.a + 1 → changed code j t e i ≡ (v, c) → ⊥) → x v c ≡ 0
  unreached v c lv lc apart = by_case (dec_lt c code.m)
    where
      by_case : Dec (c < code.m) → x v c ≡ 0
      by_case (yes low) = data_cells c v low lv (λ here e le same. apart e 0 le (omega arith) (ap₂ (λ a b. (a, b)) same (sym here)))
      by_case (no high) =
          let column : code.m + (c - code.m) ≡ c = omega arith in
          ap (x v) (sym column)
          ∙ coded_cells v (c - code.m) lv (omega arith)
          (λ e le same. apart e (suc (c - code.m)) le (omega arith) (ap₂ (λ a b. (a, b)) same column))

-- the file's place j·m + t belongs to no other node and column
other_place : (code : Code) (j t i u : ℕ) → t < code.m → u < code.m → ((i ≡ j) × (u ≡ t) → ⊥) → i * code.m + u ≡ j * code.m + t → ⊥
other_place code j t i u lt lu away e = away (place_injective code.m i u j t lu lt e)

pub change_reaches : ChangeReaches
change_reaches F L code j t s file x lj lt S X =
    unreached F L code j t lj lt x (stripe_ruled F code file x X)
    (λ i u li lu away. X.starts i u li lu ∙ S.elsewhere (i * code.m + u) (other_place code j t i u lt lu away))

-- Where two files differ at most in the symbol of node j, column t, their stripes agree outside the cells of a change there.
pub change_keeps : (F : Operations) → Laws F → (code : Code) (j t : ℕ) (u w : List ℕ) (x y : Symbols) → j < code.k → t < code.m
    → StripeOf F code u x → StripeOf F code w y
    → ((p : ℕ) → p < code.k * code.m → (p ≡ j * code.m + t → ⊥) → get_or w p 0 ≡ get_or u p 0)
    → (v c : ℕ) → v < code.n → c < width code
    → ((e i : ℕ) → e < parity code + 1 → i < code.a + 1 → changed code j t e i ≡ (v, c) → ⊥) → y v c ≡ x v c
change_keeps F L code j t u w x y lj lt X Y same v c lv lc apart =
    equal_from_sub F L (y v c) (x v c) (Y.symbols v c lv lc) (X.symbols v c lv lc)
    (unreached F L code j t lj lt (λ i d. F.sub (y i d) (x i d)) (stripe_difference F L code w u y x Y X) elsewhere v c lv lc apart)
  where
    elsewhere : (i d : ℕ) → i < code.k → d < code.m → ((i ≡ j) × (d ≡ t) → ⊥) → F.sub (y i d) (x i d) ≡ 0
    elsewhere i d li ld away =
        ap₂ F.sub
        (Y.starts i d li ld
        ∙ same (i * code.m + d) (place_below code.k code.m i d li ld) (other_place code j t i d lt ld away))
        (X.starts i d li ld)
        ∙ sub_self F L (get_or u (i * code.m + d) 0)

-- The difference that a change makes in a cell is that of the symbols times the factor of the symbol's place in that cell.
pub change_by_factor : (F : Operations) → Laws F → (code : Code) (p : ℕ) (u w : List ℕ) (x y factor : Symbols)
    → p < code.k * code.m → IsFile F code u → IsFile F code w → StripeOf F code u x → StripeOf F code w y
    → ((o : ℕ) → o < code.k * code.m → (o ≡ p → ⊥) → get_or w o 0 ≡ get_or u o 0) → IsFactor F code p factor
    → (v c : ℕ) → v < code.n → c < width code
    → y v c ≡ F.add (x v c) (F.mul (F.sub (get_or w p 0) (get_or u p 0)) (factor v c))
change_by_factor F L code p u w x y factor lp U W X Y same f =
    same_start F L code y (λ v c. F.add (x v c) (F.mul d (factor v c))) (stripe_ruled F code w y Y)
    (ruled_sum F L code x (λ v c. F.mul d (factor v c)) (stripe_ruled F code u x X)
    (ruled_multiple F L code d factor (stripe_ruled F code f.0 factor f.2)))
    (λ i t li lt. Y.starts i t li lt ∙ agree (i * code.m + t) (place_below code.k code.m i t li lt)
    ∙ sym (ap₂ (λ a b. F.add a (F.mul d b)) (X.starts i t li lt) (f.2.starts i t li lt)))
  where
    d : ℕ
    d = F.sub (get_or w p 0) (get_or u p 0)

    at_place : get_or w p 0 ≡ F.add (get_or u p 0) (F.mul d (get_or f.0 p 0))
    at_place =
        sym (ap (λ b. F.add (get_or u p 0) (F.mul d b)) f.1.there
        ∙ ap (F.add (get_or u p 0)) (mul-one F L d (L.sub_below (get_or w p 0) (get_or u p 0)))
        ∙ add_comm F L (get_or u p 0) d
        ∙ sub-add F L (get_or w p 0) (get_or u p 0) (file_below F L code w W p))

    agree : (o : ℕ) → o < code.k * code.m → get_or w o 0 ≡ F.add (get_or u o 0) (F.mul d (get_or f.0 o 0))
    agree o l =
        elim (ℕ_discrete o p) [
          | yes e ↦ subst (λ r. get_or w r 0 ≡ F.add (get_or u r 0) (F.mul d (get_or f.0 r 0))) (sym e) at_place
          | no away ↦ same o l away
              ∙ sym (ap (λ b. F.add (get_or u o 0) (F.mul d b)) (f.1.elsewhere o away)
              ∙ ap (F.add (get_or u o 0)) (mul-zero F L d)
              ∙ add-zero F L (get_or u o 0) (file_below F L code u U o))
        ]
