-- A test that antt computes at every number below a bound, and lists that antt computes for the code's tables.
use Rattle.std.specs.Prelude.{◌≡◌, ℕ, zero, suc, ◌+◌, ◌<◌, Bool, true, cond, ◌&&◌, List, [], ◌∷◌, ◌==◌, slice_index}
use Rattle.std.proofs.Math.Path.{sym, ap}
use Rattle.std.proofs.Common.{◌∙◌, subst, inl, inr, le_of_suc-le-suc, not-suc-le-zero, zero-add, add-zero}
use Rattle.std.proofs.Common.{suc-add, add-suc, arith}
use Rattle.std.proofs.lemmas.Bool.{and_parts, cases_eq, eqb-true}
use Rattle.field.specs.Laws.{Operations, power}

-- The test f passes at every number below n.
abbrev pub passes : ℕ → (ℕ → Bool) → Bool
passes zero f = true
passes (suc n) f = f n && passes n f

pub passes_at : (n : ℕ) (f : ℕ → Bool) → passes n f ≡ true → (k : ℕ) → k < n → f k ≡ true
passes_at zero f t k h = absurd (not-suc-le-zero h)
passes_at (suc n) f t k h =
    elim (cases_eq k n) [
      | inl e ↦ subst (λ (x : ℕ). f x ≡ true) (sym e) (and_parts (f n) (passes n f) t).0
      | inr e ↦ passes_at n f (and_parts (f n) (passes n f) t).1 k (omega arith)
    ]

-- The values f i, f (i + 1) ..: n of them.
unfoldable pub values : (ℕ → ℕ) → ℕ → ℕ → List ℕ
values f zero i = []
values f (suc n) i = f i ∷ values f n (suc i)

-- v, u v, u (u v) ..: n of them.
unfoldable pub multiples : (ℕ → ℕ → ℕ) → ℕ → ℕ → ℕ → List ℕ
multiples mul zero u v = []
multiples mul (suc n) u v = v ∷ multiples mul n u (mul u v)

-- The place of the first x in the list.
unfoldable pub place : ℕ → List ℕ → ℕ
place x [] = 0
place x (y ∷ ys) = cond (y == x) 0 (suc (place x ys))

-- The places of i, i + 1 .. in the list: n of them.
abbrev pub places : List ℕ → ℕ → ℕ → List ℕ
places list n i = values (λ x. place x list) n i

-- What stands at k in the list stands nowhere before k.
unfoldable pub own_place : List ℕ → ℕ → Bool
own_place list k = place (slice_index list k) list == k

pub values_from : (f : ℕ → ℕ) (n i k : ℕ) → k < n → slice_index (values f n i) k ≡ f (i + k)
unfolding values
values_from f zero i k h = absurd (not-suc-le-zero h)
values_from f (suc n) i zero h = ap f (sym (add-zero i))
values_from f (suc n) i (suc k) h =
    values_from f n (suc i) k (le_of_suc-le-suc h) ∙ ap f (suc-add i k ∙ sym (add-suc i k))

pub values_at : (f : ℕ → ℕ) (n k : ℕ) → k < n → slice_index (values f n 0) k ≡ f k
values_at f n k h = values_from f n 0 k h ∙ ap f (zero-add k)

module _ (F : Operations) (u : ℕ) where
  powers_from : (n e k : ℕ) → k < n → slice_index (multiples F.mul n u (power F u e)) k ≡ power F u (e + k)
  unfolding multiples power
  powers_from zero e k h = absurd (not-suc-le-zero h)
  powers_from (suc n) e zero h = ap (power F u) (sym (add-zero e))
  powers_from (suc n) e (suc k) h =
      powers_from n (suc e) k (le_of_suc-le-suc h) ∙ ap (power F u) (suc-add e k ∙ sym (add-suc e k))

  -- The multiples of 1 are the powers.
  pub powers_at : (n k : ℕ) → k < n → slice_index (multiples F.mul n u 1) k ≡ power F u k
  unfolding power
  powers_at n k h = powers_from n 0 k h ∙ ap (power F u) (zero-add k)

  -- Where each of the first n powers has its own place in their list, they all differ.
  pub powers_apart : (n : ℕ) → passes n (own_place (multiples F.mul n u 1)) ≡ true
      → (d e : ℕ) → d < n → e < n → power F u d ≡ power F u e → d ≡ e
  unfolding own_place
  powers_apart n t d e hd he same = sym (at d hd) ∙ ap (λ (x : ℕ). place x list) same ∙ at e he
    where
      list : List ℕ
      list = multiples F.mul n u 1

      at : (k : ℕ) → k < n → place (power F u k) list ≡ k
      at k h =
          ap (λ (x : ℕ). place x list) (sym (powers_at n k h))
          ∙ eqb-true (place (slice_index list k) list) k (passes_at n (own_place list) t k h)
