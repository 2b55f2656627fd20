-- What can be decided: bounded searches, the shape of a store, a cell inside the code.
use Rattle.std.proofs.lemmas.Grind.{common_steps}
use Rattle.std.proofs.Common.{◌≡◌, ℕ, zero, suc, ◌+◌, ◌<◌, ◌⊎◌, Some, None, Option, refl, subst, inl, inr, arith}
use native.Mathlib.Decide.{ℕ_discrete}
use Rattle.code.specs.declared.record.Code.{Code}
use Rattle.code.specs.Stripe.{parity, width}
use Rattle.theorems.specs.Change.{changed}
use Rattle.store.specs.Meaning.{Meaning}
use Rattle.stripe.specs.Reasons.{Shaped, FirstListed, Reached}

-- what can be decided and cannot fail holds
pub decided : {P : Type 0} → Dec P → ((P → ⊥) → ⊥) → P
decided (yes p) h = p
decided (no n) h = absurd (h n)

-- two decisions decide both together
pub decide_both : {P Q : Type 0} → Dec P → Dec Q → Dec (P × Q)
decide_both (yes p) (yes q) = yes (p, q)
decide_both (yes p) (no n) = no (λ h. n h.1)
decide_both (no n) d = no (λ h. n h.0)

-- whether some number below a bound has a property that is decided for each
pub decide_below : (P : ℕ → Type 0) → ((i : ℕ) → Dec (P i)) → (n : ℕ) → Dec ((i : ℕ) × (i < n) × P i)
decide_below P each zero = no (λ h. let l = h.1 in omega arith)
decide_below P each (suc n) = by_case (decide_below P each n) (each n)
  where
    by_case : Dec ((i : ℕ) × (i < n) × P i) → Dec (P n) → Dec ((i : ℕ) × (i < suc n) × P i)
    by_case (yes h) d = let l = h.1 in yes (h.0, omega arith, h.2)
    by_case (no none) (yes p) = yes (n, omega arith, p)
    by_case (no none) (no not) = no (λ h. let l = h.1 in at h.0 l h.2 (ℕ_discrete h.0 n))
      where
        at : (i : ℕ) → i < suc n → P i → Dec (i ≡ n) → ⊥
        at i l p (yes e) = not (subst P e p)
        at i l p (no away) = none (i, omega arith, p)

-- where some number below a bound has a property that is decided for each, there is a first one
pub first_below : (P : ℕ → Type 0) → ((i : ℕ) → Dec (P i)) → (n : ℕ) → (i : ℕ) → i < n → P i
    → (p : ℕ) × (p < n) × P p × ((o : ℕ) → o < p → P o → ⊥)
first_below P each zero i l h = absurd (omega arith)
first_below P each (suc n) i l h = by_case (decide_below P each n) (λ s. first_below P each n s.0 s.1 s.2)
  where
    First : ℕ → Type 0
    First b = (p : ℕ) × (p < b) × P p × ((o : ℕ) → o < p → P o → ⊥)

    by_case : Dec ((i : ℕ) × (i < n) × P i) → (((i : ℕ) × (i < n) × P i) → First n) → First (suc n)
    by_case (yes s) earlier = let f = earlier s in let b = f.1 in (f.0, omega arith, f.2, f.3)
    by_case (no none) earlier =
        let e : i ≡ n = decided (ℕ_discrete i n) (λ away. none (i, omega arith, h)) in
        (n, omega arith, subst P e h, λ o b q. none (o, b, q))

-- a store has the shape of the code or has not
pub decide_shaped : (code : Code) (m : Meaning) → Dec (Shaped code m)
decide_shaped code m = decide_both (ℕ_discrete m.nodes code.n) (ℕ_discrete m.columns (width code))

-- two cells are the same or are not
pub decide_pair : (x y : ℕ × ℕ) → Dec (x ≡ y)
decide_pair x y = grind (arith, common_steps)

-- a cell is reached by a change or is not
pub decide_reached : (code : Code) (j t v c : ℕ) → Dec (Reached code j t v c)
decide_reached code j t v c =
    shuffle (decide_below (λ e. (i : ℕ) × (i < code.a + 1) × (changed code j t e i ≡ (v, c)))
    (λ e. decide_below (λ i. changed code j t e i ≡ (v, c)) (λ i. decide_pair (changed code j t e i) (v, c)) (code.a + 1))
    (parity code + 1))
  where
    shuffle : Dec ((e : ℕ) × (e < parity code + 1) × ((i : ℕ) × (i < code.a + 1) × (changed code j t e i ≡ (v, c))))
        → Dec (Reached code j t v c)
    shuffle (yes h) = yes (h.0, h.2.0, h.1, h.2.1, h.2.2)
    shuffle (no none) = no (λ h. none (h.0, h.2, (h.1, h.3, h.4)))

-- a cell is lost or is not
pub decide_lost : (o : Option ℕ) → Dec (o ≡ None)
decide_lost None = yes refl
decide_lost (Some v) = no (λ e. let z : ◌≡◌ {A = ℕ} 0 1 = cc in omega arith)

-- A cell is lost or holds a number.
pub lost_or_held : (o : Option ℕ) → (o ≡ None) ⊎ ((v : ℕ) × (o ≡ Some v))
lost_or_held None = inl refl
lost_or_held (Some v) = inr (v, refl)

-- if none of the listed cells is the first that has a property, none has it
pub none_listed : (count : ℕ) (cell : ℕ → ℕ × ℕ) (P : ℕ → ℕ → Type 0) → ((j c : ℕ) → Dec (P j c))
    → ((j c : ℕ) → FirstListed count cell P j c → ⊥) → (p : ℕ) → p < count → P (cell p).0 (cell p).1 → ⊥
none_listed count cell P each none p l h =
    let f = first_below (λ o. P (cell o).0 (cell o).1) (λ o. each (cell o).0 (cell o).1) count p l h in
    none (cell f.0).0 (cell f.0).1 (f.0, f.1, refl, f.2, f.3)
