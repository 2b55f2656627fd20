-- Arrays of symbols that keep both rules: stripes without their files. Sums, differences and multiples of such arrays
-- keep both rules, one that is 0 in the data columns of the first k nodes is 0, and data columns that keep the column
-- rule have coded columns.
use Rattle.std.proofs.lemmas.Grind.{common_steps}
use Rattle.std.proofs.Common.{◌≡◌, ℕ, zero, suc, ◌+◌, ◌-◌, ◌*◌, ◌<◌, ◌≤◌, cond, ltb, List, length, sym, ap, ◌∙◌, subst, ap₂, arith}
use mathlib.Core.Path.{fun_ext}
use native.Mathlib.Decide.{dec_lt}
use Rattle.std.proofs.lemmas.Bool.{lt-ltb, le-ltb, ltb-true, cond_both}
use Rattle.field.specs.Laws.{Operations, Laws, power}
use Rattle.algebra.specs.Sums.{sum, syndrome}
use Rattle.algebra.specs.Vandermonde.{Listed}
use Rattle.algebra.proofs.Bridge.{zero_below}
use Rattle.algebra.proofs.Numbers.{add-zero, mul-add, mul-sub, mul_left_comm, mul-zero, sub_self, sum_none, sum_more, sum_below, sum_ext, sum_add, sum_sub, sum_mul, sum_zeros, syndrome_generator, equal_from_sub}
use Rattle.algebra.proofs.Vandermonde.{vandermonde_unique, plain_points, range, range_length, range_listed}
use Rattle.code.specs.declared.record.Code.{Code}
use Rattle.code.specs.Positions.{ahead, behind}
use Rattle.code.specs.Stripe.{Symbols, ColumnRule, GroupRule, StripeOf, SameCells, parity, width}
use Rattle.code.proofs.CountedRound.{behind_below, behind-ahead, ahead-behind, ahead_below}

-- x has a symbol in each cell and keeps both rules
pub record Ruled (F : Operations) (code : Code) (x : Symbols) : Type 0 where
  pub symbols : (j c : ℕ) → j < code.n → c < width code → x j c < F.q
  pub columns : ColumnRule F code x
  pub groups : GroupRule F code x

-- a stripe keeps both rules
pub stripe_ruled : (F : Operations) (code : Code) (file : List ℕ) (x : Symbols) → StripeOf F code file x → Ruled F code x
stripe_ruled F code file x s = record { symbols = s.symbols; columns = s.columns; groups = s.groups }

-- an operation on two symbols that goes through sums and products, as sum, difference and multiple do
pub record Additive (F : Operations) (op : ℕ → ℕ → ℕ) : Type 0 where
  pub below : (u v : ℕ) → op u v < F.q
  pub zeros : op 0 0 ≡ 0
  pub products : (a u v : ℕ) → F.mul a (op u v) ≡ op (F.mul a u) (F.mul a v)
  pub sums : (n : ℕ) (f g : ℕ → ℕ) → sum F n (λ j. op (f j) (g j)) ≡ op (sum F n f) (sum F n g)

pub add_additive : (F : Operations) → Laws F → Additive F F.add
add_additive F L = record { below = L.add_below; zeros = add-zero F L 0 (zero_below F L); products = mul-add F L; sums = sum_add F L }

pub sub_additive : (F : Operations) → Laws F → Additive F F.sub
sub_additive F L = record { below = L.sub_below; zeros = sub_self F L 0; products = mul-sub F L; sums = sum_sub F L }

-- the multiple of the first of two symbols
pub mul_additive : (F : Operations) → Laws F → (s : ℕ) → Additive F (λ u v. F.mul s u)
mul_additive F L s = record {
  below = λ u v. L.mul_below s u;
  zeros = mul-zero F L s;
  products = λ a u v. mul_left_comm F L a s u;
  sums = λ n f g. sum_mul F L n s f;
}

module _ (F : Operations) (L : Laws F) (code : Code) where
  -- a code has nodes
  pub nodes_positive : 0 < code.n
  nodes_positive = omega (arith, code.nodes)

  -- an additive operation goes through sums with factors
  factored : (op : ℕ → ℕ → ℕ) → Additive F op → (n : ℕ) (w f g : ℕ → ℕ)
      → sum F n (λ j. F.mul (w j) (op (f j) (g j))) ≡ op (sum F n (λ j. F.mul (w j) (f j))) (sum F n (λ j. F.mul (w j) (g j)))
  factored op A n w f g =
      sum_ext F L n (λ j. F.mul (w j) (op (f j) (g j))) (λ j. op (F.mul (w j) (f j)) (F.mul (w j) (g j)))
      (λ j l. A.products (w j) (f j) (g j))
      ∙ A.sums n (λ j. F.mul (w j) (f j)) (λ j. F.mul (w j) (g j))

  -- Both rules hold of what an additive operation makes of two arrays, cell by cell.
  pub ruled_both : (op : ℕ → ℕ → ℕ) → Additive F op → (x y : Symbols) → Ruled F code x → Ruled F code y
      → Ruled F code (λ j c. op (x j c) (y j c))
  ruled_both op A x y X Y = record {
    symbols = λ j c lj lc. A.below (x j c) (y j c);
    columns = λ t i lt li.
        factored op A code.n (λ j. power F F.α (i * j)) (λ j. x j t) (λ j. y j t)
        ∙ ap₂ op (X.columns t i lt li) (Y.columns t i lt li) ∙ A.zeros;
    groups = λ j i lj li.
        ap₂ op (X.groups j i lj li) (Y.groups j i lj li)
        ∙ sym (factored op A code.m (λ t. power F F.α (i * t)) (λ t. x (behind code.n j (t + 1)) t) (λ t. y (behind code.n j (t + 1)) t));
  }

  -- the array that is 0 in every cell
  pub ruled_zero : Ruled F code (λ j c. 0)
  ruled_zero = record {
    symbols = λ j c lj lc. zero_below F L;
    columns = λ t i lt li. sum_zeros F L code.n (λ j. F.mul (power F F.α (i * j)) 0) (λ j l. mul-zero F L (power F F.α (i * j)));
    groups = λ j i lj li. sym (sum_zeros F L code.m (λ t. F.mul (power F F.α (i * t)) 0) (λ t l. mul-zero F L (power F F.α (i * t))));
  }

  pub ruled_sum : (x y : Symbols) → Ruled F code x → Ruled F code y → Ruled F code (λ j c. F.add (x j c) (y j c))
  ruled_sum = ruled_both F.add (add_additive F L)

  pub ruled_difference : (x y : Symbols) → Ruled F code x → Ruled F code y → Ruled F code (λ j c. F.sub (x j c) (y j c))
  ruled_difference = ruled_both F.sub (sub_additive F L)

  pub ruled_multiple : (s : ℕ) (x : Symbols) → Ruled F code x → Ruled F code (λ j c. F.mul s (x j c))
  ruled_multiple s x X = ruled_both (λ u v. F.mul s u) (mul_additive F L s) x x X X

  -- the sum of any number of arrays
  pub ruled_total : (n : ℕ) (f : ℕ → Symbols) → ((p : ℕ) → p < n → Ruled F code (f p)) → Ruled F code (λ j c. sum F n (λ p. f p j c))
  ruled_total zero f R = subst (Ruled F code) (fun_ext λ j. fun_ext λ c. sym (sum_none F L (λ p. f p j c))) ruled_zero
  ruled_total (suc n) f R =
      subst (Ruled F code) (fun_ext λ j. fun_ext λ c. sym (sum_more F L n (λ p. f p j c)))
      (ruled_sum (λ j c. sum F n (λ p. f p j c)) (f n) (ruled_total n f (λ p l. R p (omega arith))) (R n (omega arith)))

  -- Both rules see nothing but the cells of the code.
  pub ruled_same : (x y : Symbols) → SameCells code x y → Ruled F code x → Ruled F code y
  ruled_same x y same X = record {
    symbols = λ j c lj lc. subst (λ u. u < F.q) (same j c lj lc) (X.symbols j c lj lc);
    columns = λ t i lt li.
        sum_ext F L code.n (λ j. F.mul (power F F.α (i * j)) (y j t)) (λ j. F.mul (power F F.α (i * j)) (x j t))
        (λ j l. ap (F.mul (power F F.α (i * j))) (sym (same j t l (omega arith))))
        ∙ X.columns t i lt li;
    groups = λ j i lj li.
        sym (same (ahead code.n j i) (code.m + i) (ahead_below code.n j i nodes_positive) (omega arith))
        ∙ X.groups j i lj li
        ∙ sum_ext F L code.m (λ t. F.mul (power F F.α (i * t)) (x (behind code.n j (t + 1)) t))
        (λ t. F.mul (power F F.α (i * t)) (y (behind code.n j (t + 1)) t))
        (λ t l. ap (F.mul (power F F.α (i * t)))
        (same (behind code.n j (t + 1)) t (behind_below code.n j (t + 1) nodes_positive) (omega arith)));
  }

  -- the column rule says that the first r syndromes of each data column at the points α^j are 0
  pub column_syndromes : (x : Symbols) → ColumnRule F code x → (t i : ℕ) → t < code.m → i < parity code
      → syndrome F code.n (power F F.α) (λ j. x j t) i ≡ 0
  column_syndromes x rule t i lt li = sym (syndrome_generator F L code.n (λ j. x j t) i) ∙ rule t i lt li

  -- A data column of symbols that is 0 outside at most r listed nodes is 0.
  pub column_unique : (x : Symbols) → ColumnRule F code x → (t : ℕ) → t < code.m → ((v : ℕ) → v < code.n → x v t < F.q)
      → (places : List ℕ) → length places ≤ parity code → ((v : ℕ) → v < code.n → (Listed v places → ⊥) → x v t ≡ 0)
      → (v : ℕ) → v < code.n → x v t ≡ 0
  column_unique x rule t lt below places few outside =
      vandermonde_unique F L code.n (power F F.α) (plain_points F L code.n code.nodes.1) places (parity code) few
      (λ v. x v t) below outside (λ i li. column_syndromes x rule t i lt li)

  -- A data column that is 0 in the first k nodes is 0.
  pub column_from_data : (x : Symbols) → Ruled F code x → (t : ℕ) → t < code.m
      → ((j : ℕ) → j < code.k → x j t ≡ 0) → (v : ℕ) → v < code.n → x v t ≡ 0
  column_from_data x X t lt zeros =
      column_unique x X.columns t lt (λ v l. X.symbols v t l (omega arith)) (range code.k (parity code))
      (omega (arith, range_length code.k (parity code)))
      (λ v l out. elim (dec_lt v code.k) [
        | yes h ↦ zeros v h
        | no h ↦ absurd (out (range_listed code.k (parity code) v (omega arith) (omega arith)))
      ])

  -- Cell (v, m + i) belongs to group ⟨v − i⟩.
  pub coded_cell : (x : Symbols) → GroupRule F code x → (v i : ℕ) → v < code.n → i < code.a
      → x v (code.m + i)
      ≡ sum F code.m (λ t. F.mul (power F F.α (i * t)) (x (behind code.n (behind code.n v i) (t + 1)) t))
  coded_cell x rule v i lv li =
      ap (λ w. x w (code.m + i)) (sym (ahead-behind code.n v i lv))
      ∙ rule (behind code.n v i) i (behind_below code.n v i nodes_positive) li

  -- A coded cell is 0 if the data cells of its group are.
  pub coded_from_group : (x : Symbols) → GroupRule F code x → (v i : ℕ) → v < code.n → i < code.a
      → ((t : ℕ) → t < code.m → x (behind code.n (behind code.n v i) (t + 1)) t ≡ 0) → x v (code.m + i) ≡ 0
  coded_from_group x rule v i lv li zeros =
      coded_cell x rule v i lv li
      ∙ sum_zeros F L code.m (λ t. F.mul (power F F.α (i * t)) (x (behind code.n (behind code.n v i) (t + 1)) t))
      (λ t l. ap (F.mul (power F F.α (i * t))) (zeros t l) ∙ mul-zero F L (power F F.α (i * t)))

  -- An array is 0 in every cell if it is in the data columns.
  pub groups_from_data : (x : Symbols) → GroupRule F code x
      → ((v t : ℕ) → v < code.n → t < code.m → x v t ≡ 0) → (v c : ℕ) → v < code.n → c < width code → x v c ≡ 0
  groups_from_data x rule zeros v c lv lc = elim (dec_lt c code.m) [ yes h ↦ zeros v c lv h | no h ↦ coded (omega arith) ]
    where
      coded : code.m ≤ c → x v c ≡ 0
      coded le =
          let e : c ≡ code.m + (c - code.m) = omega arith in
          ap (x v) e
          ∙ coded_from_group x rule v (c - code.m) lv (omega arith)
          (λ t l. zeros (behind code.n (behind code.n v (c - code.m)) (t + 1)) t
          (behind_below code.n (behind code.n v (c - code.m)) (t + 1) nodes_positive) l)

  -- An array that is 0 in the data columns of the first k nodes is 0 in every cell.
  pub zero_start : (x : Symbols) → Ruled F code x → ((j t : ℕ) → j < code.k → t < code.m → x j t ≡ 0)
      → (v c : ℕ) → v < code.n → c < width code → x v c ≡ 0
  zero_start x X zeros =
      groups_from_data x X.groups (λ v t lv lt. column_from_data x X t lt (λ j lj. zeros j t lj lt) v lv)

  -- Arrays that agree in the data columns of the first k nodes agree in every cell.
  pub same_start : (x y : Symbols) → Ruled F code x → Ruled F code y
      → ((j t : ℕ) → j < code.k → t < code.m → x j t ≡ y j t) → SameCells code x y
  same_start x y X Y agree j c lj lc =
      equal_from_sub F L (x j c) (y j c) (X.symbols j c lj lc) (Y.symbols j c lj lc)
      (zero_start (λ j c. F.sub (x j c) (y j c)) (ruled_difference x y X Y)
      (λ i t li lt. ap (λ u. F.sub u (y i t)) (agree i t li lt) ∙ sub_self F L (y i t)) j c lj lc)

  -- the sum that the group rule has for the coded cell of group j in column m + i
  group_sum : Symbols → ℕ → ℕ → ℕ
  group_sum y j i = sum F code.m (λ t. F.mul (power F F.α (i * t)) (y (behind code.n j (t + 1)) t))

  -- the data columns of y, with the coded columns that the group rule gives them
  pub with_coded : Symbols → Symbols
  with_coded y j c = cond (ltb c code.m) (y j c) (group_sum y (behind code.n j (c - code.m)) (c - code.m))

  pub with_coded_data : (y : Symbols) (j t : ℕ) → t < code.m → with_coded y j t ≡ y j t
  unfolding with_coded
  with_coded_data y j t l =
      ap (λ b. cond b (y j t) (group_sum y (behind code.n j (t - code.m)) (t - code.m))) (lt-ltb t code.m l)

  with_coded_group : (y : Symbols) (j i : ℕ) → j < code.n
      → with_coded y (ahead code.n j i) (code.m + i)
      ≡ sum F code.m (λ t. F.mul (power F F.α (i * t)) (y (behind code.n j (t + 1)) t))
  unfolding with_coded group_sum
  with_coded_group y j i l =
      let v : ℕ = ahead code.n j i in
      let e : code.m + i - code.m ≡ i = omega arith in
      ap (λ b. cond b (y v (code.m + i)) (group_sum y (behind code.n v (code.m + i - code.m)) (code.m + i - code.m)))
      (le-ltb (code.m + i) code.m (omega arith))
      ∙ ap (λ d. group_sum y (behind code.n v d) d) e
      ∙ ap (λ w. group_sum y w i) (behind-ahead code.n j i l)

  with_coded_below : (y : Symbols) → ((j t : ℕ) → j < code.n → t < code.m → y j t < F.q)
      → (j c : ℕ) → j < code.n → with_coded y j c < F.q
  unfolding with_coded group_sum
  with_coded_below y below j c l = grind (arith, common_steps, below, cond_both, group_sum, ltb-true, sum_below)

  -- Data columns of symbols that keep the column rule, together with their coded columns, keep both rules.
  pub with_coded_ruled : (y : Symbols) → ((j t : ℕ) → j < code.n → t < code.m → y j t < F.q) → ColumnRule F code y
      → Ruled F code (with_coded y)
  with_coded_ruled y below rule = record {
    symbols = λ j c lj lc. with_coded_below y below j c lj;
    columns = λ t i lt li.
        sum_ext F L code.n (λ j. F.mul (power F F.α (i * j)) (with_coded y j t)) (λ j. F.mul (power F F.α (i * j)) (y j t))
        (λ j l. ap (F.mul (power F F.α (i * j))) (with_coded_data y j t lt))
        ∙ rule t i lt li;
    groups = λ j i lj li.
        with_coded_group y j i lj
        ∙ sum_ext F L code.m (λ t. F.mul (power F F.α (i * t)) (y (behind code.n j (t + 1)) t))
        (λ t. F.mul (power F F.α (i * t)) (with_coded y (behind code.n j (t + 1)) t))
        (λ t l. ap (F.mul (power F F.α (i * t))) (sym (with_coded_data y (behind code.n j (t + 1)) t l)));
  }
