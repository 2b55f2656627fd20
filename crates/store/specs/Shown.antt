-- Every grid keeps the laws of a meaning, an edit changes one cell, and later states are a frame.
use Rattle.std.proofs.Common.{◌≡◌, ℕ, ◌+◌, ◌*◌, ◌<◌, ◌≤◌, Bool, true, false, cond, ◌&&◌, Some, None, Option, nat_lt}
use Rattle.std.proofs.Common.{slice_index, slice_set, List, length, set, get_or, refl, sym, subst, ap, ◌∙◌, inl, inr}
use Rattle.std.proofs.Common.{arith, get_or-set_other, get_or-set_same, length-set}
use mathlib.Core.Path.{fun_ext}
use Rattle.std.proofs.lemmas.Nat.{mul-add-lt, same_from_place}
use Rattle.std.proofs.lemmas.Bool.{cases_lt, cases_eq}
use Rattle.std.proofs.lemmas.Bool.Decides.{nat_tests}
use Rattle.store.specs.Meaning.{Meaning, Cells, Lawful, Changed, Edits, Frames, Framed, Spares, Same, IsCell, allowed, put}
use Rattle.store.specs.Grids.{grid, meaning_of, told, number_of, PutNumber, numbers, Markable, Later}
use Rattle.store.specs.declared.lent.Grid.{Grid}

-- a cell holds no number above 65,535
told_small : (b : Bool) (x v : ℕ) → cond b (told x) None ≡ Some v → v < 65536
told_small b x v e = grind (arith, nat_tests)

pub grid_lawful : (g : Grid) → Lawful (meaning_of g)
grid_lawful g = record {
  outside = λ j c h. rw h;
  symbols = λ j c v e.
      told_small (nat_lt j g.shape.nodes && nat_lt c g.shape.columns)
      (slice_index (numbers g) (j * g.shape.columns + c)) v e;
}

-- a number put into the row at the place of a cell is put into that cell alone
grid_put : (row : List ℕ) (n w j c x : ℕ) → n * w ≤ length row → j < n → c < w
    → (grid (slice_set row (j * w + c) x) n w).cell ≡ put (grid row n w).cell j c (told x)
grid_put row n w j c x fits hj hc = fun_ext λ i. fun_ext λ d. go i d
  where
    lt : j * w + c < length row
    lt = omega (arith, mul-add-lt j w c n hj hc)

    go : (i d : ℕ) → (grid (set row (j * w + c) x) n w).cell i d ≡ put (grid row n w).cell j c (told x) i d
    go i d =
        elim (cases_lt d w) [
          | inl hd ↦
              elim (cases_eq (i * w + d) (j * w + c)) [
                | inl e ↦
                    let s = same_from_place i d j c w hd hc e in
                    let g : get_or (set row (j * w + c) x) (i * w + d) 0 ≡ x =
                    rw e (get_or-set_same row (j * w + c) x 0 lt) in
                    let p = s.0 in
                    let q = s.1 in
                    grind (arith, nat_tests)
                | inr ne ↦
                    let g = get_or-set_other row (j * w + c) (i * w + d) x 0 ne in
                    grind (arith, nat_tests)
              ]
          | inr hd ↦ grind (arith, nat_tests)
        ]

-- the number that stands for a cell is told as that cell
told_number : (v : Option ℕ) → IsCell v → told (number_of v) ≡ v
told_number None h = refl
told_number (Some s) h = grind (arith, nat_tests)

-- an edit of a grid changes one cell of what it means
pub grid_edits : Edits meaning_of PutNumber
grid_edits old new j c v cell taken e =
    let hj : j < old.shape.nodes = grind (arith, nat_tests) in
    let hc : c < old.shape.columns = grind (arith, nat_tests) in
    record {
      answer = sym taken;
      nodes = e.nodes;
      columns = e.columns;
      cell = rw (e.row, e.nodes, e.columns)
          (grid_put (numbers old) old.shape.nodes old.shape.columns j c (number_of v) old.room hj hc
          ∙ ap (put (meaning_of old).cell j c) (told_number v cell));
      most = omega arith;
      least = omega arith;
    }

markable : (v : Option ℕ) → IsCell v → Markable (number_of v)
markable None h = inr refl
markable (Some s) h = inl (omega arith)

-- an edit of a grid makes a later state of it
pub edits_later : Framed meaning_of PutNumber Later
edits_later old new j c v cell taken e =
    let hj : j < old.shape.nodes = grind (arith, nat_tests) in
    let hc : c < old.shape.columns = grind (arith, nat_tests) in
    let at = j * old.shape.columns + c in
    let within = mul-add-lt j old.shape.columns c old.shape.nodes hj hc in
    let m = markable v cell in
    record {
      memory = e.memory;
      nodes = e.nodes;
      columns = e.columns;
      room = ap length e.row ∙ length-set (numbers old) at (number_of v);
      kept = λ x. rw e.row (elim (cases_eq x at) [
        | inl p ↦
            let s : get_or (set (numbers old) at (number_of v)) x 0 ≡ number_of v =
            rw p (get_or-set_same (numbers old) at (number_of v) 0 (let r = old.room in omega arith)) in
            inr (omega arith, rw s m)
        | inr n ↦ inl (get_or-set_other (numbers old) at x (number_of v) 0 n)
      ]);
    }

pub later_frames : Frames Later
later_frames = record {
  same = λ s. record { memory = refl; nodes = refl; columns = refl; room = refl; kept = λ x. inl refl };
  joined = λ r s t p q. record {
    memory = q.memory ∙ p.memory;
    nodes = q.nodes ∙ p.nodes;
    columns = q.columns ∙ p.columns;
    room = q.room ∙ p.room;
    kept = λ x. elim (q.kept x) [
      | inl e ↦ elim (p.kept x) [
        | inl f ↦ inl (e ∙ f)
        | inr f ↦ inr (f.0, rw e f.1)
      ]
      | inr f ↦ inr (rw (← p.nodes, ← p.columns) f.0, f.1)
    ];
  };
}

-- a store that a change leaves as it is means what it meant, and the frame has it
pub same_spares : {S : Type 0} (meaning : S → Meaning) (frame : S → S → Type 0)
    → Frames frame → Spares meaning Same frame
same_spares {S} meaning frame frames old new e =
    (ap meaning e, subst (λ (s : S). frame old s) (sym e) (frames.same old))

-- For callers of a store: two meanings with the same parts are equal ..
pub same_meaning : (m n : Meaning)
    → m.nodes ≡ n.nodes → m.columns ≡ n.columns → m.cell ≡ n.cell → m.allowance ≡ n.allowance → m ≡ n
same_meaning m n p q r s =
    ap (λ (x : ℕ). record { nodes = x; columns = m.columns; cell = m.cell; allowance = m.allowance }) p
    ∙ ap (λ (x : ℕ). record { nodes = n.nodes; columns = x; cell = m.cell; allowance = m.allowance }) q
    ∙ ap (λ (f : Cells). record { nodes = n.nodes; columns = n.columns; cell = f; allowance = m.allowance }) r
    ∙ ap (λ (x : ℕ). record { nodes = n.nodes; columns = n.columns; cell = n.cell; allowance = x }) s

-- .. a change that is not taken leaves the meaning as it is ..
pub not_taken : (m n : Meaning) (j c : ℕ) (v : Option ℕ) → Changed m j c v false n → n ≡ m
not_taken m n j c v h =
    same_meaning n m h.nodes h.columns h.cell (let a = h.most in let b = h.least in omega arith)

-- .. and a cell inside is changed while the allowance is at least 1.
pub is_allowed : (m : Meaning) (j c : ℕ) → j < m.nodes → c < m.columns → 1 ≤ m.allowance → allowed m j c ≡ true
is_allowed m j c hj hc ha = grind (arith, nat_tests)
