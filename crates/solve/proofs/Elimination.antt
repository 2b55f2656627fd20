-- Row steps keep the solutions of a system, and the reduced form says what they share.
use Rattle.std.proofs.Common.{◌≡◌, ℕ, ◌+◌, ◌<◌, cond, eqb, ◌⊎◌, ◌↔◌, sym, refl, ap, ◌∙◌, ap₂, inl, inr, arith}
use native.Mathlib.Decide.{ℕ_discrete}
use Rattle.std.proofs.lemmas.Bool.{eq-eqb, ne_eqb}
use Rattle.field.specs.Laws.{Operations, Laws}
use Rattle.algebra.specs.Sums.{sum}
use Rattle.algebra.proofs.Bridge.{zero_below}
use Rattle.algebra.proofs.Numbers as n
use Rattle.solve.specs.Systems.{Keeps, Solution, Pivot, Empty, Reduced}

module _ (F : Operations) (L : Laws F) (N : ℕ) where
  -- equations with the same numbers are kept by the same vectors
  pub keeps_same : (r s u : ℕ → ℕ) → ((c : ℕ) → c < N + 1 → r c ≡ s c) → Keeps F N r u → Keeps F N s u
  keeps_same r s u e h =
      n.sum_ext F L N (λ c. F.mul (s c) (u c)) (λ c. F.mul (r c) (u c)) (λ c l. ap (λ t. F.mul t (u c)) (sym (e c (omega arith))))
      ∙ h ∙ e N (omega arith)

  -- the sum of r − g·s is the sum of r less g times that of s
  dot_subtract : (r s u : ℕ → ℕ) (g : ℕ)
      → sum F N (λ c. F.mul (F.sub (r c) (F.mul g (s c))) (u c))
      ≡ F.sub (sum F N (λ c. F.mul (r c) (u c))) (F.mul g (sum F N (λ c. F.mul (s c) (u c))))
  dot_subtract r s u g =
      n.sum_ext F L N (λ c. F.mul (F.sub (r c) (F.mul g (s c))) (u c)) (λ c. F.sub (F.mul (r c) (u c)) (F.mul g (F.mul (s c) (u c))))
      (λ c l. n.sub-mul F L (r c) (F.mul g (s c)) (u c) ∙ ap (F.sub (F.mul (r c) (u c))) (n.mul_assoc F L g (s c) (u c)))
      ∙ n.sum_sub F L N (λ c. F.mul (r c) (u c)) (λ c. F.mul g (F.mul (s c) (u c)))
      ∙ ap (F.sub (sum F N (λ c. F.mul (r c) (u c)))) (n.sum_mul F L N g (λ c. F.mul (s c) (u c)))

  dot_scale : (r u : ℕ → ℕ) (g : ℕ) → sum F N (λ c. F.mul (F.mul g (r c)) (u c)) ≡ F.mul g (sum F N (λ c. F.mul (r c) (u c)))
  dot_scale r u g =
      n.sum_ext F L N (λ c. F.mul (F.mul g (r c)) (u c)) (λ c. F.mul g (F.mul (r c) (u c))) (λ c l. n.mul_assoc F L g (r c) (u c))
      ∙ n.sum_mul F L N g (λ c. F.mul (r c) (u c))

  -- from a − x = b − x, a = b
  sub_cancel : (a b x : ℕ) → a < F.q → b < F.q → F.sub a x ≡ F.sub b x → a ≡ b
  sub_cancel a b x ha hb e = sym (n.sub-add F L a x ha) ∙ ap (λ t. F.add t x) e ∙ n.sub-add F L b x hb

  -- Where s is kept, r is kept exactly if r − g·s is.
  pub keeps_subtract : (r s t u : ℕ → ℕ) (g : ℕ) → r N < F.q → ((c : ℕ) → c < N + 1 → t c ≡ F.sub (r c) (F.mul g (s c)))
      → Keeps F N s u → (Keeps F N r u ↔ Keeps F N t u)
  keeps_subtract r s t u g b e hs = (forth, back)
    where
      difference : ℕ → ℕ
      difference c = F.sub (r c) (F.mul g (s c))

      forth : Keeps F N r u → Keeps F N t u
      forth h = keeps_same difference t u (λ c l. sym (e c l)) (dot_subtract r s u g ∙ ap₂ (λ x y. F.sub x (F.mul g y)) h hs)

      back : Keeps F N t u → Keeps F N r u
      back h =
          let d : Keeps F N difference u = keeps_same t difference u e h in
          sub_cancel (sum F N (λ c. F.mul (r c) (u c))) (r N) (F.mul g (s N)) (n.sum_below F L N (λ c. F.mul (r c) (u c))) b
          (ap (λ y. F.sub (sum F N (λ c. F.mul (r c) (u c))) (F.mul g y)) (sym hs) ∙ sym (dot_subtract r s u g) ∙ d)

  -- A multiple by g ≠ 0 is kept exactly if the equation is.
  pub keeps_scale : (r t u : ℕ → ℕ) (g : ℕ) → r N < F.q → g < F.q → (g ≡ 0 → ⊥) → ((c : ℕ) → c < N + 1 → t c ≡ F.mul g (r c))
      → (Keeps F N r u ↔ Keeps F N t u)
  keeps_scale r t u g b hg ne e = (forth, back)
    where
      forth : Keeps F N r u → Keeps F N t u
      forth h = keeps_same (λ c. F.mul g (r c)) t u (λ c l. sym (e c l)) (dot_scale r u g ∙ ap (F.mul g) h)

      back : Keeps F N t u → Keeps F N r u
      back h =
          n.mul_left_cancel F L g (sum F N (λ c. F.mul (r c) (u c))) (r N) hg (n.sum_below F L N (λ c. F.mul (r c) (u c))) b ne
          (sym (dot_scale r u g) ∙ keeps_same t (λ c. F.mul g (r c)) u e h)

  -- an equation whose numbers are all 0 is kept by every vector
  pub keeps_zeros : (r u : ℕ → ℕ) → ((c : ℕ) → c < N + 1 → r c ≡ 0) → Keeps F N r u
  keeps_zeros r u z =
      n.sum_zeros F L N (λ c. F.mul (r c) (u c)) (λ c l. ap (λ t. F.mul t (u c)) (z c (omega arith)) ∙ n.zero-mul F L (u c))
      ∙ sym (z N (omega arith))

  -- where only the right side can differ from 0, it has to be 0
  pub keeps_right : (r u : ℕ → ℕ) → ((c : ℕ) → c < N → r c ≡ 0) → Keeps F N r u → r N ≡ 0
  keeps_right r u z h =
      sym h ∙ n.sum_zeros F L N (λ c. F.mul (r c) (u c)) (λ c l. ap (λ t. F.mul t (u c)) (z c l) ∙ n.zero-mul F L (u c))

  -- where the only factor is 1, at p, the equation is kept exactly if the symbol at p is the right side
  pub keeps_alone : (r u : ℕ → ℕ) (p : ℕ) → p < N → u p < F.q → r p ≡ 1 → ((c : ℕ) → c < N → (c ≡ p → ⊥) → r c ≡ 0)
      → sum F N (λ c. F.mul (r c) (u c)) ≡ u p
  keeps_alone r u p l b one others =
      n.sum_single F L N p (λ c. F.mul (r c) (u c)) l (L.mul_below (r p) (u p))
      (λ c m d. ap (λ t. F.mul t (u c)) (others c m d) ∙ n.zero-mul F L (u c))
      ∙ ap (λ t. F.mul t (u p)) one ∙ n.one-mul F L (u p) b

  -- x − y·0 is x
  pub sub_none : (x y z : ℕ) → x < F.q → z ≡ 0 → F.sub x (F.mul y z) ≡ x
  sub_none x y z b e = ap (λ t. F.sub x (F.mul y t)) e ∙ ap (F.sub x) (n.mul-zero F L y) ∙ n.sub-zero F L x b

  -- x − x·1 is 0
  pub sub_whole : (x z : ℕ) → x < F.q → z ≡ 1 → F.sub x (F.mul x z) ≡ 0
  sub_whole x z b e = ap (λ t. F.sub x (F.mul x t)) e ∙ ap (F.sub x) (n.mul-one F L x b) ∙ n.sub_self F L x

  -- A new equation r without factors at the symbols that have an equation, and with a factor at c. Equation c becomes r
  -- divided by that factor, and c is taken out of the other equations: the form is reduced again, and its solutions are
  -- those of the system that keep r.
  module _ (A B : ℕ → ℕ → ℕ) (r : ℕ → ℕ) (c : ℕ) (R : Reduced F N A) (lc : c < N)
      (below : (j : ℕ) → j < N + 1 → r j < F.q) (free : (p : ℕ) → p < N → Pivot N A p → r p ≡ 0) (ne : r c ≡ 0 → ⊥)
      (here : (j : ℕ) → j < N + 1 → B c j ≡ F.mul (F.inv (r c)) (r j))
      (others : (p j : ℕ) → p < N → j < N + 1 → (p ≡ c → ⊥) → B p j ≡ F.sub (A p j) (F.mul (A p c) (B c j))) where
    factor_below : r c < F.q
    factor_below = below c (omega arith)

    at_one : B c c ≡ 1
    at_one = here c (omega arith) ∙ n.mul_comm F L (F.inv (r c)) (r c) ∙ n.mul-inv F L (r c) factor_below ne

    -- 0 where r is 0
    at_zero : (j : ℕ) → j < N + 1 → r j ≡ 0 → B c j ≡ 0
    at_zero j l z = here j l ∙ ap (F.mul (F.inv (r c))) z ∙ n.mul-zero F L (F.inv (r c))

    -- equation c was empty
    pub was_empty : Empty N A c
    was_empty = elim (R.rows c lc) [ inl piv ↦ absurd (ne (free c lc piv)) | inr z ↦ z ]

    -- an empty equation stays empty
    stays_empty : (p : ℕ) → p < N → (p ≡ c → ⊥) → Empty N A p → Empty N B p
    stays_empty p l d z j lj =
        others p j l lj d ∙ ap₂ (λ x y. F.sub x (F.mul y (B c j))) (z j lj) (z c (omega arith))
        ∙ ap (F.sub 0) (n.zero-mul F L (B c j)) ∙ n.sub_self F L 0

    -- a factor at a symbol that has an equation stays
    stays : (s p : ℕ) → s < N → p < N → (s ≡ c → ⊥) → Pivot N A p → B s p ≡ A s p
    stays s p ls lp d piv =
        others s p ls (omega arith) d
        ∙ sub_none (A s p) (A s c) (B c p) (R.below s p ls (omega arith)) (at_zero p (omega arith) (free p lp piv))

    stays_pivot : (p : ℕ) → p < N → (p ≡ c → ⊥) → Pivot N A p → Pivot N B p
    stays_pivot p l d piv = (stays p p l l d piv ∙ piv.0, clear)
      where
        clear : (s : ℕ) → s < N → (s ≡ p → ⊥) → B s p ≡ 0
        clear s ls e = by_case (ℕ_discrete s c)
          where
            by_case : Dec (s ≡ c) → B s p ≡ 0
            by_case (yes q) = ap (λ t. B t p) q ∙ at_zero p (omega arith) (free p l piv)
            by_case (no q) = stays s p ls l q piv ∙ piv.1 s ls e

    new_pivot : Pivot N B c
    new_pivot = (at_one, λ s ls d. others s c ls (omega arith) d ∙ sub_whole (A s c) (B c c) (R.below s c ls (omega arith)) at_one)

    pub install_reduced : Reduced F N B
    install_reduced = record { below = small; rows = rows }
      where
        small : (p j : ℕ) → p < N → j < N + 1 → B p j < F.q
        small p j lp lj = by_case (ℕ_discrete p c)
          where
            by_case : Dec (p ≡ c) → B p j < F.q
            by_case (yes e) = rw (e, here j lj) (L.mul_below (F.inv (r c)) (r j))
            by_case (no d) = rw (others p j lp lj d) (L.sub_below (A p j) (F.mul (A p c) (B c j)))

        rows : (p : ℕ) → p < N → Pivot N B p ⊎ Empty N B p
        rows p l = by_case (ℕ_discrete p c) (R.rows p l)
          where
            by_case : Dec (p ≡ c) → Pivot N A p ⊎ Empty N A p → Pivot N B p ⊎ Empty N B p
            by_case (yes e) k = rw e (inl new_pivot)
            by_case (no d) (inl piv) = inl (stays_pivot p l d piv)
            by_case (no d) (inr z) = inr (stays_empty p l d z)

    scaled : (u : ℕ → ℕ) → (Keeps F N r u ↔ Keeps F N (B c) u)
    scaled u = keeps_scale r (B c) u (F.inv (r c)) (below N (omega arith)) (L.inv_below (r c)) (n.inv_ne F L (r c) factor_below ne) here

    pub install_solutions : (u : ℕ → ℕ) → ((Solution F N A u × Keeps F N r u) ↔ Solution F N B u)
    install_solutions u = (forth, back)
      where
        step : (p : ℕ) → p < N → (p ≡ c → ⊥) → Keeps F N (B c) u → (Keeps F N (A p) u ↔ Keeps F N (B p) u)
        step p l d h = keeps_subtract (A p) (B c) (B p) u (A p c) (R.below p N l (omega arith)) (λ j lj. others p j l lj d) h

        forth : Solution F N A u × Keeps F N r u → Solution F N B u
        forth h p l =
            let k : Keeps F N (B c) u = (scaled u).0 h.1 in
            elim (ℕ_discrete p c) [ yes e ↦ rw e k | no d ↦ (step p l d k).0 (h.0 p l) ]

        back : Solution F N B u → Solution F N A u × Keeps F N r u
        back h =
            let k : Keeps F N (B c) u = h c lc in
            (λ p l. elim (ℕ_discrete p c) [ yes e ↦ rw e (keeps_zeros (A c) u was_empty) | no d ↦ (step p l d k).1 (h p l) ], (scaled u).1 k)

  -- a sum with two terms other than 0
  sum_two : (p g : ℕ) (f : ℕ → ℕ) → p < N → g < N → (p ≡ g → ⊥) → ((c : ℕ) → f c < F.q)
      → ((c : ℕ) → c < N → (c ≡ p → ⊥) → (c ≡ g → ⊥) → f c ≡ 0) → sum F N f ≡ F.add (f p) (f g)
  sum_two p g f lp lg d b none =
      n.sum_ext F L N f (λ c. F.add (first c) (second c)) (λ c l. parts c)
      ∙ n.sum_add F L N first second
      ∙ ap₂ F.add
      (n.sum_single F L N p first lp (rw (at_p) (b p)) (λ c l e. ap (λ t. cond t (f c) 0) (ne_eqb c p e)) ∙ at_p)
      (n.sum_single F L N g second lg (rw (at_g) (b g)) rest ∙ at_g)
    where
      first : ℕ → ℕ
      first c = cond (eqb c p) (f c) 0

      second : ℕ → ℕ
      second c = cond (eqb c p) 0 (f c)

      at_p : first p ≡ f p
      at_p = ap (λ t. cond t (f p) 0) (eq-eqb p p refl)

      at_g : second g ≡ f g
      at_g = ap (λ t. cond t 0 (f g)) (ne_eqb g p (λ e. d (sym e)))

      rest : (c : ℕ) → c < N → (c ≡ g → ⊥) → second c ≡ 0
      rest c l e = by_case (ℕ_discrete c p)
        where
          by_case : Dec (c ≡ p) → second c ≡ 0
          by_case (yes q) = ap (λ t. cond t 0 (f c)) (eq-eqb c p q)
          by_case (no q) = ap (λ t. cond t 0 (f c)) (ne_eqb c p q) ∙ none c l q e

      parts : (c : ℕ) → f c ≡ F.add (first c) (second c)
      parts c = by_case (ℕ_discrete c p)
        where
          by_case : Dec (c ≡ p) → f c ≡ F.add (first c) (second c)
          by_case (yes q) = sym (ap₂ F.add (ap (λ t. cond t (f c) 0) (eq-eqb c p q)) (ap (λ t. cond t 0 (f c)) (eq-eqb c p q)) ∙ n.add-zero F L (f c) (b c))
          by_case (no q) = sym (ap₂ F.add (ap (λ t. cond t (f c) 0) (ne_eqb c p q)) (ap (λ t. cond t 0 (f c)) (ne_eqb c p q)) ∙ n.zero-add F L (f c) (b c))

  -- What a system in reduced form says of its solutions.
  module _ (A : ℕ → ℕ → ℕ) (R : Reduced F N A) where
    -- the solution that is 0 at each symbol without an equation
    abbrev pub base : ℕ → ℕ
    base p = A p N

    pub base_below : (p : ℕ) → p < N → base p < F.q
    base_below p l = R.below p N l (omega arith)

    pub base_solves : Solution F N A base
    base_solves p l = elim (R.rows p l) [ inl piv ↦ by_pivot piv | inr z ↦ keeps_zeros (A p) (λ c. A c N) z ]
      where
        by_pivot : Pivot N A p → Keeps F N (A p) (λ c. A c N)
        by_pivot piv =
            n.sum_single F L N p (λ c. F.mul (A p c) (A c N)) l (L.mul_below (A p p) (A p N)) others
            ∙ ap (λ t. F.mul t (A p N)) piv.0 ∙ n.one-mul F L (A p N) (R.below p N l (omega arith))
          where
            others : (c : ℕ) → c < N → (c ≡ p → ⊥) → F.mul (A p c) (A c N) ≡ 0
            others c lc d =
                elim (R.rows c lc) [
                  | inl q ↦ ap (λ t. F.mul t (A c N)) (q.1 p l (λ e. d (sym e))) ∙ n.zero-mul F L (A c N)
                  | inr z ↦ ap (F.mul (A p c)) (z N (omega arith)) ∙ n.mul-zero F L (A p c)
                ]

    -- an equation with no factor but the 1 at p gives the symbol at p of every solution
    pub alone_shared : (p : ℕ) → p < N → (A p p ≡ 0 → ⊥) → ((c : ℕ) → c < N → (c ≡ p → ⊥) → A p c ≡ 0)
        → (u : ℕ → ℕ) → u p < F.q → Solution F N A u → u p ≡ A p N
    alone_shared p l ne none u b s =
        elim (R.rows p l) [
          | inl piv ↦ sym (keeps_alone (A p) u p l b piv.0 none) ∙ s p l
          | inr z ↦ absurd (ne (z p (omega arith)))
        ]

    -- For a symbol g without an equation: the solution that is 1 there, and 0 at the other symbols without one.
    module _ (g : ℕ) (lg : g < N) (empty : Empty N A g) where
      pub other : ℕ → ℕ
      other c = cond (eqb c g) 1 (F.sub (A c N) (A c g))

      pub other_there : other g ≡ 1
      unfolding other
      other_there = ap (λ t. cond t 1 (F.sub (A g N) (A g g))) (eq-eqb g g refl)

      pub other_away : (c : ℕ) → (c ≡ g → ⊥) → other c ≡ F.sub (A c N) (A c g)
      unfolding other
      other_away c d = ap (λ t. cond t 1 (F.sub (A c N) (A c g))) (ne_eqb c g d)

      pub other_below : (c : ℕ) → other c < F.q
      other_below c = elim (ℕ_discrete c g) [ yes e ↦ rw (e, other_there) L.one_below | no d ↦ rw (other_away c d) (L.sub_below (A c N) (A c g)) ]

      pub other_solves : Solution F N A other
      other_solves p l = elim (R.rows p l) [ inl piv ↦ by_pivot piv | inr z ↦ keeps_zeros (A p) other z ]
        where
          by_pivot : Pivot N A p → Keeps F N (A p) other
          by_pivot piv =
              sum_two p g (λ c. F.mul (A p c) (other c)) l lg apart (λ c. L.mul_below (A p c) (other c)) others
              ∙ ap₂ F.add
              (ap₂ F.mul piv.0 (other_away p apart) ∙ n.one-mul F L (F.sub (A p N) (A p g)) (L.sub_below (A p N) (A p g)))
              (ap (F.mul (A p g)) other_there ∙ n.mul-one F L (A p g) (R.below p g l (omega arith)))
              ∙ n.sub-add F L (A p N) (A p g) (R.below p N l (omega arith))
            where
              apart : p ≡ g → ⊥
              apart e = let z : A p p ≡ 0 = ap (λ t. A t t) e ∙ empty g (omega arith) in omega (arith, z, piv.0)

              others : (c : ℕ) → c < N → (c ≡ p → ⊥) → (c ≡ g → ⊥) → F.mul (A p c) (other c) ≡ 0
              others c lc d e =
                  elim (R.rows c lc) [
                    | inl q ↦ ap (λ t. F.mul t (other c)) (q.1 p l (λ x. d (sym x))) ∙ n.zero-mul F L (other c)
                    | inr z ↦
                        ap (F.mul (A p c)) (other_away c e ∙ ap₂ F.sub (z N (omega arith)) (z g (omega arith)) ∙ n.sub_self F L 0)
                        ∙ n.mul-zero F L (A p c)
                  ]

      -- they differ at g itself
      pub differ_there : base g ≡ other g → ⊥
      differ_there e = let z : ◌≡◌ {A = ℕ} 0 1 = sym (empty N (omega arith)) ∙ e ∙ other_there in omega arith

      -- and at each symbol whose equation has a factor at g
      pub differ_away : (p : ℕ) → p < N → (p ≡ g → ⊥) → (A p g ≡ 0 → ⊥) → base p ≡ other p → ⊥
      differ_away p l d ne e =
          ne (sub_cancel_left (e ∙ other_away p d))
        where
          sub_cancel_left : A p N ≡ F.sub (A p N) (A p g) → A p g ≡ 0
          sub_cancel_left h =
              n.add_left_cancel F L (A p N) (A p g) 0 (R.below p g l (omega arith)) (zero_below F L)
              (ap (λ t. F.add t (A p g)) h ∙ n.sub-add F L (A p N) (A p g) (R.below p N l (omega arith)) ∙ sym (n.add-zero F L (A p N) (R.below p N l (omega arith))))

    -- Where equation p is not alone, two solutions differ at p.
    pub record Differ (p : ℕ) : Type 0 where
      pub first : ℕ → ℕ
      pub second : ℕ → ℕ
      pub first_below : (c : ℕ) → c < N → first c < F.q
      pub second_below : (c : ℕ) → c < N → second c < F.q
      pub first_solves : Solution F N A first
      pub second_solves : Solution F N A second
      pub differ : first p ≡ second p → ⊥

    pub free_differs : (p : ℕ) → p < N → A p p ≡ 0 → Differ p
    free_differs p l z = elim (R.rows p l) [ inl piv ↦ absurd (omega (arith, piv.0)) | inr e ↦ at e ]
      where
        at : Empty N A p → Differ p
        at e = record {
          first = base;
          second = other p l e;
          first_below = base_below;
          second_below = λ c lc. other_below p l e c;
          first_solves = base_solves;
          second_solves = other_solves p l e;
          differ = differ_there p l e;
        }

    pub factor_differs : (p g : ℕ) → p < N → g < N → (g ≡ p → ⊥) → (A p g ≡ 0 → ⊥) → Differ p
    factor_differs p g l lg d ne = elim (R.rows g lg) [ inl piv ↦ absurd (ne (piv.1 p l (λ e. d (sym e)))) | inr e ↦ at e ]
      where
        at : Empty N A g → Differ p
        at e = record {
          first = base;
          second = other g lg e;
          first_below = base_below;
          second_below = λ c lc. other_below g lg e c;
          first_solves = base_solves;
          second_solves = other_solves g lg e;
          differ = differ_away g lg e p l (λ x. d (sym x)) ne;
        }
