-- A run in which a file is laid, a cell and a node are lost, the node is mended and a symbol is changed.
use Rattle.std.proofs.Common.{◌≡◌, ℕ, zero, suc, ◌+◌, ◌*◌, ◌<◌, ◌≤◌, Bool, false, cond, ◌&&◌, ◌||◌, eqb, ltb, ◌⊎◌, List, Some, None, Ok, sym, refl, ap, ◌∙◌, subst, inl, inr, suc-mul, arith}
use native.Mathlib.Decide.{dec_lt}
use Rattle.std.specs.Option.{option_map}
use Rattle.std.proofs.lemmas.Bool.{ne_eqb, cases_eq}
use Rattle.field.specs.Laws.{Operations, Laws}
use Rattle.algebra.proofs.Numbers.{add-zero}
use Rattle.code.specs.declared.record.Code.{Code}
use Rattle.code.specs.declared.refusal.Refusal.{Refusal}
use Rattle.code.specs.declared.refusal.Refusal.TheVariants.{Shape, Outside, Symbol, Foreign, Lost, Allowance}
use Rattle.code.specs.Stripe.{Symbols, IsFile, StripeOf, parity, width}
use Rattle.theorems.specs.Change.{changed}
use Rattle.theorems.specs.Linear.{SingleFile}
use Rattle.theorems.proofs.Files.{single_file}
use Rattle.code.proofs.Places.{place_below}
use Rattle.theorems.proofs.Reached.{change_reaches, change_differs}
use Rattle.theorems.proofs.Stripes.{one_stripe, stripe_unique}
use Rattle.round.specs.Wanted.{wanted, whole}
use Rattle.round.proofs.Rounds.{every_round}
use Rattle.store.specs.Meaning.{Meaning, Cells, put}
use Rattle.code.specs.Held.{Inside}
use Rattle.stripe.specs.Reasons.{Reached, total, one_if_present, present_cells, LoseCellHolds, ChangeHolds, MendNodeHolds}
use Rattle.stripe.specs.Calls.{LoseCell, LoseNode, MendNode, Change, without_node}
use Rattle.stripe.specs.Ledger.{HoldsFile}
use Rattle.stripe.specs.Survival.{Repaired, Repair}
use Rattle.stripe.proofs.Decisions.{decide_both}
use Rattle.stripe.proofs.Fitting.{lost_held, none_foreign}
use Rattle.stripe.proofs.Losing.{still_lost, lose_cell_mirrors, lose_node_mirrors}
use Rattle.stripe.proofs.Changing.{data_inside, change_mirrors}
use Rattle.stripe.proofs.Mending.{node_rebuilt}
use Rattle.stripe.proofs.Stores.{store, same_shape, whole_cells, inside_whole, outside_whole, whole_holds, lays, node_room, loses}

-- a sum of n numbers that are all b is n·b
total_all : (n b : ℕ) (f : ℕ → ℕ) → ((i : ℕ) → i < n → f i ≡ b) → total n f ≡ n * b
total_all zero b f h = omega arith
total_all (suc n) b f h = omega (arith, total_all n b f (λ i l. h i (omega arith)), h n (omega arith), suc-mul n b)

module _ (F : Operations) (L : Laws F) (code : Code) (file : List ℕ) (I : IsFile F code file) (x : Symbols) (X : StripeOf F code file x) where
  -- how many cells a change writes where all are present
  abbrev all_changed : ℕ
  all_changed = (parity code + 1) * (code.a + 1)

  abbrev room : ℕ
  room = code.n * width code + all_changed

  enough : code.n * width code ≤ room
  enough = omega arith

  abbrev laid : Meaning
  laid = store code room (whole_cells code x)

  laid_holds : HoldsFile F code laid (λ j d. false) file
  laid_holds = whole_holds F code room enough file I x X

  -- The cell (f, c) is lost, then node f.
  module _ (f c : ℕ) (known : f < code.n) (inside : c < width code) where
    abbrev one_lost : Cells
    one_lost = put (whole_cells code x) f c None

    abbrev node_lost : Cells
    node_lost = without_node code one_lost f

    loses_cell : LoseCell code f c laid (Ok 1) (store code room one_lost)
    loses_cell = (none, record { returned = refl; kept = same_shape code room (whole_cells code x) one_lost 1; cells = refl })
      where
        none : (e : Refusal) → LoseCellHolds code laid f c e → ⊥
        none Shape h = h (refl, refl)
        none Outside h = h (known, inside)
        none Allowance h = omega (arith, node_room F code room enough, code.data_columns)
        none _ h = h

    loses_node : LoseNode code f (store code room one_lost) (Ok (width code)) (store code room node_lost)
    loses_node = loses F code room enough one_lost f known

    abbrev gone : ℕ → ℕ → Bool
    gone j d = eqb j f || ((eqb j f && eqb d c) || false)

    -- what is left is of the stripe
    lost_holds : HoldsFile F code (store code room node_lost) gone file
    lost_holds =
        lose_node_mirrors F code (store code room one_lost) (store code room node_lost) (λ j d. (eqb j f && eqb d c) || false) (Some file) f (width code)
        loses_node.0 loses_node.1
        (lose_cell_mirrors F code laid (store code room one_lost) (λ j d. false) (Some file) f c 1 loses_cell.1 laid_holds)

    -- no cell that the round wants is lost, since none is of node f
    wanted_present : (p : ℕ) → p < whole code → node_lost (wanted code f p).0 (wanted code f p).1 ≡ None → ⊥
    wanted_present p l is =
        let within = (every_round code f known).inside p l in
        lost_held (node_lost (wanted code f p).0 (wanted code f p).1) (lost_holds.stripe (wanted code f p).0 (wanted code f p).1) is
        (lost_holds.held (wanted code f p).0 (wanted code f p).1 within.0 within.1 there)
      where
        there : gone (wanted code f p).0 (wanted code f p).1 ≡ false
        there =
            ap (λ t. t || ((t && eqb (wanted code f p).1 c) || false))
            (ne_eqb (wanted code f p).0 f (λ e. (every_round code f known).others (p, l, e)))

    -- outside node f nothing was lost
    others_left : (j d : ℕ) → ((j ≡ f) × (d < width code) → ⊥) → (j ≡ f) ⊎ (j ≡ f → ⊥) → whole_cells code x j d ≡ node_lost j d
    others_left j d out (inl e) =
        let none : whole_cells code x j d ≡ None = outside_whole code x j d (λ h. out (e, h.1)) in
        none ∙ sym (still_lost (eqb j f && ltb d (width code)) (one_lost j d) (still_lost (eqb j f && eqb d c) (whole_cells code x j d) none))
    others_left j d out (inr away) =
        sym (ap (λ t. cond (t && ltb d (width code)) None (cond (t && eqb d c) None (whole_cells code x j d))) (ne_eqb j f away))

    mends_node : MendNode F code f (store code room node_lost) (Ok (whole code)) laid
    mends_node = (
      none,
      record {
        returned = refl;
        kept = same_shape code room node_lost (whole_cells code x) (width code);
        cells = λ d ld. inside_whole code x f d (known, ld)
            ∙ ap Some (sym (node_rebuilt F L code (store code room node_lost) gone (refl, refl) file lost_holds f known wanted_present d ld
            ∙ stripe_unique F L code file lost_holds.stripe x lost_holds.is_stripe X f d known ld));
        others = λ j d out. others_left j d out (cases_eq j f);
      },
    )
      where
        none : (e : Refusal) → MendNodeHolds F code (store code room node_lost) f e → ⊥
        none Shape h = h (refl, refl)
        none Outside h = omega arith
        none (Foreign v d) (p, l, e, foreign, first) =
            none_foreign F L code (store code room node_lost) gone (refl, refl) (Some file) lost_holds v d
            (subst (λ (w : ℕ × ℕ). Inside code w.0 w.1) e ((every_round code f known).inside p l)) foreign
        none (Lost v d) (p, l, e, lost, first) =
            wanted_present p l (subst (λ (w : ℕ × ℕ). node_lost w.0 w.1 ≡ None) (sym e) lost)
        none Allowance h = omega (arith, node_room F code room enough)
        none _ h = h

  -- The symbol at (row, column) is changed.
  module _ (row column symbol : ℕ) (lr : row < code.k) (lc : column < code.m) (below : symbol < F.q) where
    single : (e : List ℕ) × SingleFile F code (row * code.m + column) (F.sub symbol (x row column)) e
    single =
        single_file F L code (row * code.m + column) (F.sub symbol (x row column)) (place_below code.k code.m row column lr lc)
        (L.sub_below symbol (x row column))

    step : (y : Symbols) × StripeOf F code single.0 y
    step = (one_stripe F L code single.0 single.1.is_file).0

    -- the stripe after the change
    abbrev next : Symbols
    next v d = F.add (x v d) (step.0 v d)

    reached_inside : (v d : ℕ) → Reached code row column v d → Inside code v d
    reached_inside v d (e, i, le, li, is) =
        subst (λ (w : ℕ × ℕ). Inside code w.0 w.1) is ((change_differs code row column lr lc).0 e i le li)

    -- outside the cells of the change nothing changes
    unreached : (v d : ℕ) → (Reached code row column v d → ⊥) → Dec (Inside code v d) → whole_cells code next v d ≡ whole_cells code x v d
    unreached v d out (yes at) =
        inside_whole code next v d at
        ∙ ap Some (ap (F.add (x v d)) zeros ∙ add-zero F L (x v d) (X.symbols v d at.0 at.1))
        ∙ sym (inside_whole code x v d at)
      where
        zeros : step.0 v d ≡ 0
        zeros =
            change_reaches F L code row column (F.sub symbol (x row column)) single.0 step.0 lr lc single.1 step.1
            v d at.0 at.1 (λ e i le li is. out (e, i, le, li, is))
    unreached v d out (no outside) = outside_whole code next v d outside ∙ sym (outside_whole code x v d outside)

    all_present : present_cells code laid row column ≡ all_changed
    all_present =
        total_all (parity code + 1) (code.a + 1) _ (λ e le.
        let inner = total_all (code.a + 1) 1 (λ i. one_if_present (whole_cells code x (changed code row column e i).0 (changed code row column e i).1))
        (λ i li. ap one_if_present
        (inside_whole code x (changed code row column e i).0 (changed code row column e i).1 ((change_differs code row column lr lc).0 e i le li))) in
        omega arith)

    changes : Change F code row column symbol laid (Ok all_changed) (store code room (whole_cells code next))
    changes = (
      none,
      record {
        returned = sym all_present;
        kept = same_shape code room (whole_cells code x) (whole_cells code next) (present_cells code laid row column);
        old = x row column;
        held = inside_whole code x row column (data_inside code row column lr lc);
        step = single.0;
        is_step = single.1;
        stripe = step.0;
        is_stripe = step.1;
        cells = λ v d h. inside_whole code next v d (reached_inside v d h)
            ∙ sym (ap (option_map (λ u. F.add u (step.0 v d))) (inside_whole code x v d (reached_inside v d h)));
        others = λ v d out. unreached v d out (decide_both (dec_lt v code.n) (dec_lt d (width code)));
      },
    )
      where
        none : (e : Refusal) → ChangeHolds F code laid row column symbol e → ⊥
        none Shape h = h (refl, refl)
        none Outside h = h (lr, lc)
        none Symbol h = omega arith
        none (Foreign v d) h =
            none_foreign F L code laid (λ j d. false) (refl, refl) (Some file) laid_holds v d (reached_inside v d h.0) h.1
        none (Lost v d) h =
            lost_held (whole_cells code x row column) (x row column) h.2 (inside_whole code x row column (data_inside code row column lr lc))
        none Allowance h = omega (arith, all_present)
        none _ h = h

    repaired : (f c : ℕ) → f < code.n → c < width code → Repaired F code file f c row column symbol
    repaired f c known inside = record {
      before = store code room (λ j d. None);
      after = store code room (whole_cells code next);
      lent = record { ref_ptr = (0, 0); now = file };
      lends = refl;
      blank = λ j d lj ld. refl;
      shaped = (refl, refl);
      run = (
        laid,
        lays F code room enough file I x X,
        (
          store code room (one_lost f c known inside),
          loses_cell f c known inside,
          (
            store code room (node_lost f c known inside),
            loses_node f c known inside,
            (laid, mends_node f c known inside, (store code room (whole_cells code next), changes, refl)),
          ),
        ),
      );
      holds = change_mirrors F L code laid (λ j d. false) file laid_holds row column symbol all_changed
          (store code room (whole_cells code next)) changes.0 changes.1;
    }

pub repairs : Repair
repairs F L code file I f c known inside row column symbol lr lc below =
    let one = (one_stripe F L code file I).0 in repaired F L code file I one.0 one.1 row column symbol lr lc below f c known inside
