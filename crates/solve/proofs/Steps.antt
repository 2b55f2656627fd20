-- The loops of the elimination, turn by turn.
use Rattle.std.proofs.Common.{◌≡◌, ℕ, ◌+◌, ◌<◌, ◌≤◌, Bool, ◌≢◌, ◌⊎◌, ◌↔◌, List, length, get_or, set, Ok, Err, sym, refl, ap, ◌∙◌, ap₂, inl, inr, arith, get_or-set_other, get_or-set_same}
use native.Mathlib.Decide.{ℕ_discrete, dec_lt}
use Rattle.std.proofs.lemmas.List.{length-set}
use Rattle.field.specs.Laws.{Operations, Laws}
use Rattle.algebra.proofs.Numbers as n
use Rattle.code.specs.declared.refusal.Refusal.TheVariants.{Contradiction}
use Rattle.solve.specs.Rows.{RowIs}
use Rattle.solve.specs.Systems.{entry, Keeps, Solution, Pivot, Empty, Reduced, KnownRows, Remainder, Installed, Absorbed}
use Rattle.solve.proofs.Memory.{row_other}
use Rattle.solve.proofs.Elimination.{keeps_subtract, keeps_right, keeps_zeros, sub_none, sub_whole, install_reduced, install_solutions, was_empty}

-- Symbol c is taken out of the equations before `from`.
pub record OutUpTo (F : Operations) (N c from : ℕ) (before after : List ℕ) : Type 0 where
  pub done : (p j : ℕ) → p < from → j < N + 1 → (p ≡ c → ⊥)
      → entry N after p j ≡ F.sub (entry N before p j) (F.mul (entry N before p c) (entry N before c j))
  pub rest : (p j : ℕ) → from ≤ p → j < N + 1 → entry N after p j ≡ entry N before p j
  pub kept : (j : ℕ) → j < N + 1 → entry N after c j ≡ entry N before c j

module _ (F : Operations) (L : Laws F) (N c : ℕ) (lc : c < N) (before after : List ℕ) where
  -- equations without a factor at c stay as they are
  pub out_skip : (from s : ℕ) → from ≤ s → s ≤ N → ((p j : ℕ) → p < N → j < N + 1 → entry N before p j < F.q)
      → ((i : ℕ) → from ≤ i → i < s → entry N after i c ≡ 0) → OutUpTo F N c from before after → OutUpTo F N c s before after
  out_skip from s le ls below none O = record { done = done; rest = λ p j h lj. O.rest p j (omega arith) lj; kept = O.kept }
    where
      done : (p j : ℕ) → p < s → j < N + 1 → (p ≡ c → ⊥)
          → entry N after p j ≡ F.sub (entry N before p j) (F.mul (entry N before p c) (entry N before c j))
      done p j h lj d = by_case (dec_lt p from)
        where
          by_case : Dec (p < from) → entry N after p j ≡ F.sub (entry N before p j) (F.mul (entry N before p c) (entry N before c j))
          by_case (yes g) = O.done p j g lj d
          by_case (no g) =
              let far : from ≤ p = omega arith in
              let z : entry N before p c ≡ 0 = sym (O.rest p c far (omega arith)) ∙ none p far h in
              O.rest p j far lj
              ∙ sym (ap (λ t. F.sub (entry N before p j) (F.mul t (entry N before c j))) z
              ∙ ap (F.sub (entry N before p j)) (n.zero-mul F L (entry N before c j))
              ∙ n.sub-zero F L (entry N before p j) (below p j (omega arith) lj))

  -- the equation of c itself is passed by
  pub out_pass : (s : ℕ) → s ≡ c → OutUpTo F N c s before after → OutUpTo F N c (s + 1) before after
  out_pass s e O = record {
    done = λ p j h lj d. O.done p j (omega arith) lj d;
    rest = λ p j h lj. O.rest p j (omega arith) lj;
    kept = O.kept;
  }

  -- another equation loses its factor at c
  pub out_row : (s by : ℕ) (mid : List ℕ) → (s ≡ c → ⊥) → by ≡ entry N mid s c → OutUpTo F N c s before mid
      → RowIs (N + 1) s (λ j. F.sub (entry N mid s j) (F.mul by (entry N mid c j))) mid after → OutUpTo F N c (s + 1) before after
  out_row s by mid d e O R = record {
    done = done;
    rest = λ p j h lj. row_other (N + 1) s _ mid after R p j lj (λ q. absurd (omega arith)) ∙ O.rest p j (omega arith) lj;
    kept = λ j lj. row_other (N + 1) s _ mid after R c j lj (λ q. d (sym q)) ∙ O.kept j lj;
  }
    where
      done : (p j : ℕ) → p < s + 1 → j < N + 1 → (p ≡ c → ⊥)
          → entry N after p j ≡ F.sub (entry N before p j) (F.mul (entry N before p c) (entry N before c j))
      done p j h lj dp = by_case (ℕ_discrete p s)
        where
          at_s : entry N after s j ≡ F.sub (entry N before s j) (F.mul (entry N before s c) (entry N before c j))
          at_s =
              R.inside j lj
              ∙ ap₂ (λ x y. F.sub x (F.mul by y)) (O.rest s j (omega arith) lj) (O.kept j lj)
              ∙ ap (λ x. F.sub (entry N before s j) (F.mul x (entry N before c j))) (e ∙ O.rest s c (omega arith) (omega arith))

          by_case : Dec (p ≡ s) → entry N after p j ≡ F.sub (entry N before p j) (F.mul (entry N before p c) (entry N before c j))
          by_case (yes q) = rw q at_s
          by_case (no q) = row_other (N + 1) s _ mid after R p j lj q ∙ O.done p j (omega arith) lj dp

-- A row from which the symbols below i that have equations are taken out.
pub record RemainderUpTo (F : Operations) (N i : ℕ) (A : ℕ → ℕ → ℕ) (row rest : ℕ → ℕ) : Type 0 where
  pub below : (c : ℕ) → c < N + 1 → rest c < F.q
  pub free : (p : ℕ) → p < i → p < N → Pivot N A p → rest p ≡ 0
  pub same : (u : ℕ → ℕ) → Solution F N A u → (Keeps F N row u ↔ Keeps F N rest u)

-- a symbol without an equation, or without a factor in the row
pub remainder_skip : (F : Operations) (N i : ℕ) (A : ℕ → ℕ → ℕ) (row rest : ℕ → ℕ) → (A i i ≡ 0) ⊎ (rest i ≡ 0)
    → RemainderUpTo F N i A row rest → RemainderUpTo F N (i + 1) A row rest
remainder_skip F N i A row rest none R = record { below = R.below; free = free; same = R.same }
  where
    free : (p : ℕ) → p < i + 1 → p < N → Pivot N A p → rest p ≡ 0
    free p l lp piv = by_case (ℕ_discrete p i)
      where
        here : (A i i ≡ 0) ⊎ (rest i ≡ 0) → p ≡ i → rest p ≡ 0
        here (inl z) e = let w : A p p ≡ 0 = ap (λ t. A t t) e ∙ z in absurd (omega (arith, w, piv.0))
        here (inr z) e = ap rest e ∙ z

        by_case : Dec (p ≡ i) → rest p ≡ 0
        by_case (yes e) = here none e
        by_case (no d) = R.free p (omega arith) lp piv

pub remainder_take : (F : Operations) (L : Laws F) (N i : ℕ) (A : ℕ → ℕ → ℕ) (row mid rest : ℕ → ℕ) → Reduced F N A → i < N → (A i i ≡ 0 → ⊥)
    → ((c : ℕ) → c < N + 1 → rest c ≡ F.sub (mid c) (F.mul (mid i) (A i c)))
    → RemainderUpTo F N i A row mid → RemainderUpTo F N (i + 1) A row rest
remainder_take F L N i A row mid rest X li ne e R = record { below = below; free = free; same = same }
  where
    pivot : Pivot N A i
    pivot = elim (X.rows i li) [ inl piv ↦ piv | inr z ↦ absurd (ne (z i (omega arith))) ]

    below : (c : ℕ) → c < N + 1 → rest c < F.q
    below c l = rw (e c l) (L.sub_below (mid c) (F.mul (mid i) (A i c)))

    free : (p : ℕ) → p < i + 1 → p < N → Pivot N A p → rest p ≡ 0
    free p l lp piv = by_case (ℕ_discrete p i)
      where
        by_case : Dec (p ≡ i) → rest p ≡ 0
        by_case (yes q) = ap rest q ∙ e i (omega arith) ∙ sub_whole F L N (mid i) (A i i) (R.below i (omega arith)) pivot.0
        by_case (no d) =
            e p (omega arith) ∙ sub_none F L N (mid p) (mid i) (A i p) (R.below p (omega arith)) (piv.1 i li (λ q. d (sym q)))
            ∙ R.free p (omega arith) lp piv

    same : (u : ℕ → ℕ) → Solution F N A u → (Keeps F N row u ↔ Keeps F N rest u)
    same u s =
        let step = keeps_subtract F L N mid (A i) rest u (mid i) (R.below N (omega arith)) e (s i li) in
        (λ h. step.0 ((R.same u s).0 h), λ h. (R.same u s).1 (step.1 h))

-- where p is known, only its own factor and the right side change
pub take_known : (F : Operations) (L : Laws F) (N p : ℕ) (A : ℕ → ℕ) (row : List ℕ) (x : ℕ) → p < N → length row ≡ N + 1
    → ((c : ℕ) → c < N + 1 → get_or row c 0 < F.q) → A p ≡ 1 → ((c : ℕ) → c < N → (c ≡ p → ⊥) → A c ≡ 0)
    → x ≡ F.sub (get_or row N 0) (F.mul (get_or row p 0) (A N))
    → (c : ℕ) → c < N + 1 → get_or (set (set row N x) p 0) c 0 ≡ F.sub (get_or row c 0) (F.mul (get_or row p 0) (A c))
take_known F L N p A row x lp long below one none e c lc = by_case (ℕ_discrete c p) (ℕ_discrete c N)
  where
    goal : ℕ → Type 0
    goal j = get_or (set (set row N x) p 0) j 0 ≡ F.sub (get_or row j 0) (F.mul (get_or row p 0) (A j))

    at_p : get_or (set (set row N x) p 0) p 0 ≡ F.sub (get_or row p 0) (F.mul (get_or row p 0) (A p))
    at_p =
        get_or-set_same (set row N x) p 0 0 (rw length-set (omega arith))
        ∙ sym (sub_whole F L N (get_or row p 0) (A p) (below p (omega arith)) one)

    at_n : get_or (set (set row N x) p 0) N 0 ≡ F.sub (get_or row N 0) (F.mul (get_or row p 0) (A N))
    at_n = let d : N ≢ p = omega arith in get_or-set_other (set row N x) p N 0 0 d ∙ get_or-set_same row N x 0 (omega arith) ∙ e

    by_case : Dec (c ≡ p) → Dec (c ≡ N) → get_or (set (set row N x) p 0) c 0 ≡ F.sub (get_or row c 0) (F.mul (get_or row p 0) (A c))
    by_case (yes q) k = rw q at_p
    by_case (no q) (yes k) = rw k at_n
    by_case (no q) (no k) =
        get_or-set_other (set row N x) p c 0 0 q ∙ get_or-set_other row N c x 0 k
        ∙ sym (sub_none F L N (get_or row c 0) (get_or row p 0) (A c) (below c lc) (none c (omega arith) q))

-- an equation of which nothing is left
pub absorbed_zero : {U : Type 0} (u : U) (F : Operations) (L : Laws F) (N : ℕ) (known : List Bool) (A : ℕ → ℕ → ℕ) (row rest : ℕ → ℕ)
    → Reduced F N A → KnownRows N known A → Remainder F N A row rest → ((c : ℕ) → c < N → rest c ≡ 0) → rest N ≡ 0
    → Absorbed {U = U} F N known row A (Ok u) A
absorbed_zero u F L N known A row rest X K R none z = record {
  reduced = X;
  known_rows = K;
  outcome = λ v. (λ h. h.0, λ s. (s, (R.same v s).1 (keeps_zeros F L N rest v zeros)));
}
  where
    zeros : (c : ℕ) → c < N + 1 → rest c ≡ 0
    zeros c l = elim (ℕ_discrete c N) [ yes e ↦ ap rest e ∙ z | no d ↦ none c (omega arith) ]

-- an equation of which only a right side is left
pub absorbed_not : {U : Type 0} (F : Operations) (L : Laws F) (N : ℕ) (known : List Bool) (A : ℕ → ℕ → ℕ) (row rest : ℕ → ℕ)
    → Reduced F N A → KnownRows N known A → Remainder F N A row rest → ((c : ℕ) → c < N → rest c ≡ 0) → (rest N ≡ 0 → ⊥)
    → Absorbed {U = U} F N known row A (Err Contradiction) A
absorbed_not F L N known A row rest X K R none ne = record {
  reduced = X;
  known_rows = K;
  outcome = (refl, λ v s h. ne (keeps_right F L N rest v none ((R.same v s).0 h)));
}

-- an equation that becomes that of symbol c
pub absorbed_some : {U : Type 0} (t : U) (F : Operations) (L : Laws F) (N : ℕ) (known : List Bool) (A B : ℕ → ℕ → ℕ) (row rest : ℕ → ℕ) (c : ℕ)
    → Reduced F N A → KnownRows N known A → Remainder F N A row rest → c < N → (rest c ≡ 0 → ⊥) → Installed F N c rest A B
    → Absorbed {U = U} F N known row A (Ok t) B
absorbed_some t F L N known A B row rest c X K R lc ne I = record {
  reduced = install_reduced F L N A B rest c X lc R.below R.free ne I.here I.others;
  known_rows = kept;
  outcome = λ u. (λ h. (moved u).0 (h.0, (R.same u h.0).0 h.1), λ s. (((moved u).1 s).0, (R.same u ((moved u).1 s).0).1 ((moved u).1 s).1));
}
  where
    moved : (u : ℕ → ℕ) → ((Solution F N A u × Keeps F N rest u) ↔ Solution F N B u)
    moved = install_solutions F L N A B rest c X lc R.below R.free ne I.here I.others

    empty : Empty N A c
    empty = was_empty F L N A B rest c X lc R.below R.free ne I.here I.others

    kept : KnownRows N known B
    kept p l m = (same p (omega arith) ∙ (K p l m).0, λ j lj d. same j (omega arith) ∙ (K p l m).1 j lj d)
      where
        away : p ≡ c → ⊥
        away e = let z : A p p ≡ 0 = ap (λ t. A t t) e ∙ empty c (omega arith) in omega (arith, z, (K p l m).0)

        same : (j : ℕ) → j < N + 1 → B p j ≡ A p j
        same j lj =
            I.others p j l lj away
            ∙ ap (λ t. F.sub (A p j) (F.mul t (B c j))) ((K p l m).1 c lc (λ e. away (sym e)))
            ∙ ap (F.sub (A p j)) (n.zero-mul F L (B c j)) ∙ n.sub-zero F L (A p j) (X.below p j l lj)

-- a multiple of a row put in place of equation c
module _ (F : Operations) (L : Laws F) (N c by : ℕ) (row before scaled : List ℕ)
    (S : RowIs (N + 1) c (λ j. F.mul by (get_or row j 0)) before scaled) where
  scaled_other : (p j : ℕ) → j < N + 1 → (p ≡ c → ⊥) → entry N scaled p j ≡ entry N before p j
  scaled_other p j l d = row_other (N + 1) c _ before scaled S p j l d

  pub scaled_below : ((p j : ℕ) → p < N → j < N + 1 → entry N before p j < F.q) → (p j : ℕ) → p < N → j < N + 1 → entry N scaled p j < F.q
  scaled_below below p j lp lj =
      elim (ℕ_discrete p c) [
        | yes e ↦ rw (e, S.inside j lj) (L.mul_below by (get_or row j 0))
        | no d ↦ rw (scaled_other p j lj d) (below p j lp lj)
      ]

  pub installed : (after : List ℕ) → c < N → by ≡ F.inv (get_or row c 0)
      → ((j : ℕ) → j < N + 1 → entry N after c j ≡ entry N scaled c j)
      → ((p j : ℕ) → p < N → j < N + 1 → (p ≡ c → ⊥)
      → entry N after p j ≡ F.sub (entry N scaled p j) (F.mul (entry N scaled p c) (entry N scaled c j)))
      → Installed F N c (λ j. get_or row j 0) (entry N before) (entry N after)
  installed after lc e kept others = record {
    here = λ j l. kept j l ∙ S.inside j l ∙ ap (λ t. F.mul t (get_or row j 0)) e;
    others = λ p j lp lj d.
        others p j lp lj d
        ∙ ap₂ (λ x y. F.sub x (F.mul y (entry N scaled c j))) (scaled_other p j lj d) (scaled_other p c (omega arith) d)
        ∙ ap (λ x. F.sub (entry N before p j) (F.mul (entry N before p c) x)) (sym (kept j lj));
  }
