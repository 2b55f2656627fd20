-- The inverse that is defined from the product: what it is where some number inverts u, and where none does.
use Rattle.std.specs.Prelude.{◌≡◌, ℕ, zero, suc, ◌<◌, cond, ◌==◌, ◌≢◌}
use Rattle.std.proofs.Math.Path.{refl, sym, ap₂}
use Rattle.std.proofs.Common.{ap, ◌∙◌, subst, not-suc-le-zero, arith}
use Rattle.std.proofs.Math.Logic.{inl, inr}
use Rattle.std.proofs.lemmas.Bool.{cond-true, cond-false, cond_both, eq-eqb, ne_eqb, cases_eq}
use Rattle.field.specs.Laws.{symbol}
use Rattle.field.specs.Reciprocals.{reciprocal}
use Rattle.field.specs.Operands.{left_operand}
use Rattle.field.specs.Powers.{Multiplies}

module _ (mul : ℕ → ℕ → ℕ) where
  pub reciprocal_below : (n u : ℕ) → 0 < n → reciprocal mul n u < n
  unfolding reciprocal
  reciprocal_below zero u h = h
  reciprocal_below (suc zero) u h = cond_both (mul u 0 == 1) 0 0 (λ r. r < 1) (λ _. h) (λ _. h)
  reciprocal_below (suc (suc n)) u h =
      let below : reciprocal mul (suc n) u < suc n = reciprocal_below (suc n) u (omega arith) in
      cond_both (mul u (suc n) == 1) (suc n) (reciprocal mul (suc n) u) (λ r. r < suc (suc n))
      (λ _. omega arith) (λ _. omega arith)

  -- no number below n inverts u
  pub reciprocal_none : (n u : ℕ) → ((s : ℕ) → s < n → mul u s ≢ 1) → reciprocal mul n u ≡ 0
  unfolding reciprocal
  reciprocal_none zero u none = refl
  reciprocal_none (suc n) u none =
      cond-false (mul u n == 1) n (reciprocal mul n u) (ne_eqb (mul u n) 1 (none n (omega arith)))
      ∙ reciprocal_none n u (λ s h. none s (omega arith))

  -- r, and no other number below n, inverts u
  pub reciprocal_only : (n u r : ℕ) → r < n → mul u r ≡ 1 → ((s : ℕ) → s < n → mul u s ≡ 1 → s ≡ r)
      → reciprocal mul n u ≡ r
  unfolding reciprocal
  reciprocal_only zero u r h inverts only = absurd (not-suc-le-zero h)
  reciprocal_only (suc n) u r h inverts only =
      elim (cases_eq r n) [
        | inl e ↦ cond-true (mul u n == 1) n (reciprocal mul n u)
            (eq-eqb (mul u n) 1 (subst (λ (s : ℕ). mul u s ≡ 1) e inverts)) ∙ sym e
        | inr e ↦ cond-false (mul u n == 1) n (reciprocal mul n u)
            (ne_eqb (mul u n) 1 (λ i. e (sym (only n (omega arith) i))))
            ∙ reciprocal_only n u r (omega arith) inverts (λ s k. only s (omega arith))
      ]

  -- it sees of u only what the products of u are
  pub reciprocal_same : (n u v : ℕ) → ((s : ℕ) → mul u s ≡ mul v s) → reciprocal mul n u ≡ reciprocal mul n v
  unfolding reciprocal
  reciprocal_same zero u v same = refl
  reciprocal_same (suc n) u v same =
      ap₂ (λ (x r : ℕ). cond (x == 1) n r) (same n) (reciprocal_same n u v same)

-- The inverse of an operand is that of its symbol.
pub reciprocal_operand : (q : ℕ) (mul : ℕ → ℕ → ℕ) → 0 < q → ((u v : ℕ) → mul u v ≡ mul (symbol q u) (symbol q v))
    → (u : ℕ) → reciprocal mul q u ≡ reciprocal mul q (symbol q u)
reciprocal_operand q mul p operands u = reciprocal_same mul q u (symbol q u) (left_operand q mul p operands u)

-- The inverse of a number whose products are all 0 is 0.
pub reciprocal_zero : (q : ℕ) (mul : ℕ → ℕ → ℕ) (u : ℕ) → ((s : ℕ) → mul u s ≡ 0) → reciprocal mul q u ≡ 0
reciprocal_zero q mul u zeros =
    reciprocal_none mul q u (λ s _ one. let wrong : ◌≡◌ {A = ℕ} 0 1 = sym (zeros s) ∙ one in omega arith)

-- A symbol has one inverse at most, so the inverse is any symbol that inverts.
module _ (q : ℕ) (mul : ℕ → ℕ → ℕ) (M : Multiplies q mul) where
  pub one_inverse : (u r s : ℕ) → u < q → r < q → s < q → mul u r ≡ 1 → mul u s ≡ 1 → s ≡ r
  one_inverse u r s hu hr hs r-inverts s_inverts =
      sym (M.one s hs) ∙ ap (mul s) (sym r-inverts) ∙ sym (M.assoc s u r hs hu hr)
      ∙ ap (λ (x : ℕ). mul x r) (M.comm s u hs hu ∙ s_inverts) ∙ M.comm 1 r M.one_below hr ∙ M.one r hr

  pub reciprocal_is : (u r : ℕ) → u < q → r < q → mul u r ≡ 1 → reciprocal mul q u ≡ r
  reciprocal_is u r hu hr inverts =
      reciprocal_only mul q u r hr inverts (λ s hs s_inverts. one_inverse u r s hu hr hs inverts s_inverts)
