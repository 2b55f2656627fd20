-- A round whose symbols come from an array, one symbol after the other.
use Rattle.std.proofs.lemmas.Grind.{common_steps}
use Rattle.std.proofs.Common.{◌≡◌, ℕ, ◌+◌, ◌*◌, ◌<◌, ◌≤◌, List, [], ◌∷◌, ◌++◌, length, get_or, set, Ok, sym, ap, ◌∙◌, subst, zero-add, arith, length-set}
use lib.Arith.{digits_lt}
use Rattle.std.proofs.lemmas.List.FromFn.{map-range_with_len_more, get_or-map-range_with_len, length-map-range_with_len}
use Rattle.field.specs.Laws.{Operations}
use Rattle.code.specs.declared.record.Code.{Code}
use Rattle.code.specs.Stripe.{width}
use Rattle.round.specs.Wanted.{wanted, wanted_for, whole}
use Rattle.round.specs.States.{Wants, Holds, Gives, Takes, AllSymbols, given_wanting, given_holding, given_over}
use Rattle.round.specs.Rebuild.{asked}
use Rattle.round.specs.Fetching.{fetched, Fetching, Unfit, Fills, Runs, made_in}
use Rattle.round.specs.declared.state.Wanting.{Wanting}
use Rattle.round.specs.declared.state.Holding.{Holding}
use Rattle.round.specs.declared.state.Over.{Over}
use Rattle.round.specs.declared.state.Taken.{Taken}
use Rattle.round.specs.declared.state.Taken.TheVariants as taken
use Rattle.round.specs.declared.state.Given.{Given}
use Rattle.round.specs.declared.state.Given.TheVariants as goal
use Rattle.round.proofs.Making.{made_same}
use Rattle.round.proofs.Places.{wanted_at}

-- one symbol more
pub fetched_more : (code : Code) (f : ℕ) (cells : List ℕ) (p : ℕ)
    → fetched code f cells (p + 1) ≡ fetched code f cells p ++ asked code f cells p ∷ []
fetched_more code f cells p = map-range_with_len_more (asked code f cells) 0 p p (zero-add p)

-- a wanted cell is one of the code's
pub inside_for : (code : Code) (f c s : ℕ) → s < code.m → ((wanted_for code f c s).0 < code.n) × ((wanted_for code f c s).1 < width code)
inside_for code f c s h = grind (arith, common_steps)

pub inside_at : (code : Code) (f c s : ℕ) → s < code.m
    → ((wanted code f (c * code.m + s)).0 < code.n) × ((wanted code f (c * code.m + s)).1 < width code)
inside_at code f c s h = rw (wanted_at code f c s h) (inside_for code f c s h)

-- there are m·(m + a) symbols in all
pub below_whole : (code : Code) (c s : ℕ) → c < width code → s < code.m → c * code.m + s < whole code
below_whole code c s hc hs = let d = digits_lt hc hs in omega arith

-- the place of a cell in the array
pub cell_below : (j c n k l : ℕ) → j < n → c < k → n * k ≤ l → j * k + c < l
cell_below j c n k l hj hc long = let d = digits_lt hj hc in omega arith

-- what the array has for the wanted cell
pub read_is : {X : Type 0} (code : Code) (f : ℕ) (cells : List ℕ) (w : Wanting X) (cell : ℕ × ℕ) (columns : ℕ)
    → w.code ≡ code → w.node ≡ f → columns ≡ width code → cell ≡ wanted w.code w.node (given_wanting w)
    → get_or cells (cell.0 * columns + cell.1) 0 ≡ asked code f cells (given_wanting w)
read_is code f cells w cell columns hc hn hk e = grind (arith, common_steps)

module _ {X : Type 0} (F : Operations) (code : Code) (f : ℕ) (cells : List ℕ) (w : Wanting X)
    (was : Fetching F code f cells w) (cell : ℕ × ℕ) (columns : ℕ) (columns_are : columns ≡ width code)
    (cell_is : cell ≡ wanted w.code w.node (given_wanting w)) where
  -- it stands in the array
  pub cell_inside : code.n * width code ≤ length cells → cell.0 * columns + cell.1 < length cells
  cell_inside long =
      let i = rw (← cell_is) at (inside_at w.code w.node w.column w.place w.unfinished) in
      let j = subst (λ (x : Code). (cell.0 < x.n) × (cell.1 < width x)) was.code_is i in
      cell_below cell.0 cell.1 code.n columns _ j.0 (rw columns_are j.1) (rw columns_are long)

  module _ (v : ℕ) (read : v ≡ get_or cells (cell.0 * columns + cell.1) 0) where
    -- the number read is the one asked for
    v_is : v ≡ asked code f cells (given_wanting w)
    v_is = read ∙ read_is code f cells w cell columns was.code_is was.node_is columns_are cell_is

    -- the symbols given once the wanted one is given too
    longer : (p : ℕ) → p ≡ given_wanting w + 1
        → fetched code f cells (given_wanting w) ++ v ∷ [] ≡ fetched code f cells p
    longer p e =
        ap (λ x. fetched code f cells (given_wanting w) ++ x ∷ []) v_is
        ∙ sym (fetched_more code f cells (given_wanting w)) ∙ ap (fetched code f cells) (sym e)

    -- the column goes on
    pub fetches_on : (g : Given X) (w' : Wanting X) → Gives F w v (Ok g) → g ≡ goal.Wanting w'
        → Fetching F code f cells w' × (w'.column ≡ w.column) × (w'.place ≡ w.place + 1)
    fetches_on g w' gives is =
        let h = subst (λ (x : Given X). Gives F w v (Ok x)) is gives in
        let on = h.given_too code f (fetched code f cells (given_wanting w)) was in
        let m : w'.code.m ≡ w.code.m = ap (λ (x : Code). x.m) (on.code_is ∙ sym was.code_is) in
        let column = h.column_kept in
        let count : w.column * w.code.m + w'.place ≡ w.column * w.code.m + w.place + 1 = rw (column, m) at h.counted in
        (subst (λ (l : List ℕ). Wants F code f l w') (longer (given_wanting w') h.counted) on, column, omega arith)

    -- the column is finished
    pub fetches_all : (g : Given X) (h' : Holding X) → Gives F w v (Ok g) → g ≡ goal.Holding h'
        → (h'.column ≡ w.column) × Holds F code f (fetched code f cells (given_holding h')) h'
    fetches_all g h' gives is =
        let h = subst (λ (x : Given X). Gives F w v (Ok x)) is gives in
        let on = h.given_too code f (fetched code f cells (given_wanting w)) was in
        (h.column_kept, subst (λ (l : List ℕ). Holds F code f l h') (longer (given_holding h') h.counted) on)

    -- the number is declined
    pub fetches_none : F.q ≤ v → Unfit F code f cells
    fetches_none above = (
      given_wanting w,
      subst (λ (x : Code). given_wanting w < whole x) was.code_is
          (below_whole w.code w.column w.place w.inside w.unfinished),
      rw v_is at above,
    )

-- the symbols fetched are those asked for
pub fetched_at : (code : Code) (f : ℕ) (cells : List ℕ) (n p : ℕ) → p < n → get_or (fetched code f cells n) p 0 ≡ asked code f cells p
fetched_at code f cells n p h = get_or-map-range_with_len (asked code f cells) 0 n p p 0 h (zero-add p)

-- all symbols that were given are symbols of the field
pub asked_below : (F : Operations) (code : Code) (f : ℕ) (cells : List ℕ) (n p : ℕ) → p < n
    → AllSymbols F (fetched code f cells n) → asked code f cells p < F.q
asked_below F code f cells n p h all =
    rw (fetched_at code f cells n p h) at (all p (rw (length-map-range_with_len (asked code f cells) 0 n) h))

module _ {X : Type 0} (F : Operations) (code : Code) (f : ℕ) (cells : List ℕ) (h : Holding X)
    (was : Holds F code f (fetched code f cells (given_holding h)) h) where
  -- the finished symbol is the one made of the array's symbols
  pub finished_is : h.made ≡ made_in F code f cells h.column
  finished_is = grind (arith, common_steps, fetched_at, made_same)

  -- the next column begins
  pub next_column : (v : ℕ) (t : Taken X) (w : Wanting X) → Takes F h (v, t) → t ≡ taken.Wanting w
      → Fetching F code f cells w × (w.column ≡ h.column + 1) × (v ≡ made_in F code f cells h.column)
  next_column v t w takes is =
      let k = subst (λ (x : Taken X). Takes F h (v, x)) is takes in
      let on = k.given_same code f (fetched code f cells (given_holding h)) was in
      (subst (λ (p : ℕ). Wants F code f (fetched code f cells p) w) (sym k.counted) on, k.column, k.symbol ∙ finished_is)

  -- the last column was finished
  pub last_column : (v : ℕ) (t : Taken X) (o : Over X) → Takes F h (v, t) → t ≡ taken.Over o
      → (given_over o ≡ whole code) × ((p : ℕ) → p < whole code → asked code f cells p < F.q)
      × (width code ≡ h.column + 1) × (v ≡ made_in F code f cells h.column)
  last_column v t o takes is =
      let k = subst (λ (x : Taken X). Takes F h (v, x)) is takes in
      let on = k.given_same code f (fetched code f cells (given_holding h)) was in
      let long : given_holding h ≡ whole code = sym (length-map-range_with_len (asked code f cells) 0 (given_holding h)) ∙ on.count in (
        ap whole on.code_is,
        (λ p l. asked_below F code f cells (given_holding h) p (rw long l) on.accepted),
        sym (k.last ∙ ap width was.code_is),
        k.symbol ∙ finished_is,
      )

-- the same round, by its own code and node
pub holds_for : {X : Type 0} (F : Operations) (code code' : Code) (f f' : ℕ) (cells : List ℕ) (h : Holding X) → code ≡ code' → f ≡ f'
    → Holds F code f (fetched code f cells (given_holding h)) h → Holds F code' f' (fetched code' f' cells (given_holding h)) h
holds_for F code code' f f' cells h c-is f-is was = grind (arith, common_steps)

-- one symbol more in its place
pub placed : (G : ℕ → ℕ) (xs : List ℕ) (i j v : ℕ) → i ≡ j → v ≡ G j → j < length xs → ((k : ℕ) → k < j → get_or xs k 0 ≡ G k)
    → (n : ℕ) → n ≡ j + 1 → (k : ℕ) → k < n → get_or (set xs i v) k 0 ≡ G k
placed G xs i j v i-is v_is below all n n-is k h = grind (arith, common_steps)

-- the round was given what the array has, and the symbols taken from it stand in their places
pub record Collects {X : Type 0} (F : Operations) (code : Code) (f : ℕ) (cells : List ℕ) (w : Wanting X) (symbols : List ℕ) : Type 0 where
  pub fetching : Fetching F code f cells w
  pub room : length symbols ≡ 11
  pub taken : (c : ℕ) → c < w.column → get_or symbols c 0 ≡ made_in F code f cells c

-- A column is finished and its symbol is taken.
module _ {X : Type 0} (F : Operations) (code : Code) (f : ℕ) (cells symbols : List ℕ) (w : Wanting X)
    (so_far : Collects F code f cells w symbols) (h : Holding X) (filled : Fills F w.code w.node cells w.column (Ok h))
    (i v : ℕ) (t : Taken X) (i_is : i ≡ h.column) (takes : Takes F h (v, t)) where
  was : Holds F code f (fetched code f cells (given_holding h)) h
  was = holds_for F w.code code w.node f cells h so_far.fetching.code_is so_far.fetching.node_is filled.1

  in_place : v ≡ made_in F code f cells h.column → (n : ℕ) → n ≡ h.column + 1
      → (c : ℕ) → c < n → get_or (set symbols i v) c 0 ≡ made_in F code f cells c
  in_place v_is =
      placed (made_in F code f cells) symbols i h.column v i_is v_is (omega (arith, so_far.room, h.inside))
      (λ k l. so_far.taken k (rw filled.0 at l))

  pub collects_on : (w' : Wanting X) → t ≡ taken.Wanting w' → Collects F code f cells w' (set symbols i v)
  collects_on w' is =
      let on = next_column F code f cells h was v t w' takes is in
      record {
        fetching = on.0;
        room = length-set _ _ _ ∙ so_far.room;
        taken = in_place on.2 w'.column on.1;
      }

  pub collects_all : (o : Over X) → t ≡ taken.Over o → (n : ℕ) → n ≡ given_over o
      → Runs F code f cells (Ok (n, set symbols i v))
  collects_all o is n n_is =
      let on = last_column F code f cells h was v t o takes is in
      (n_is ∙ on.0, length-set _ _ _ ∙ so_far.room, on.1, in_place on.3 (width code) on.2)
