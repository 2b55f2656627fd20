-- What `find` over a range of numbers says, place by place.
use Rattle.std.proofs.Common.{◌≡◌, ℕ, ◌+◌, ◌-◌, ◌<◌, ◌≤◌, length, Some, None, Option, sym, ◌∙◌, subst, arith}
use Rattle.std.specs.Prelude.{MatchOption}
use Rattle.std.specs.List.{AllWithin, HoldsAt, range_with_len}
use Rattle.std.proofs.lemmas.List.FromFn.{length-range_with_len, get_or-range_with_len}

pub found_between : (Yes No : ℕ → Type 0) (a b : ℕ) (r : Option ℕ)
    → MatchOption r (AllWithin No (range_with_len a (b - a)) 0 (length (range_with_len a (b - a))))
    (λ x. Yes x × (i : ℕ) × (i < length (range_with_len a (b - a))) × HoldsAt (λ y. y ≡ x) (range_with_len a (b - a)) i × AllWithin No (range_with_len a (b - a)) 0 i)
    → MatchOption r ((i : ℕ) → a ≤ i → i < b → No i) (λ s. (s < b) × Yes s)
found_between Yes No a b None h = λ i k l.
    let e : a + (i - a) ≡ i = omega arith in
    subst No (get_or-range_with_len a (b - a) (i - a) 0 (omega arith) ∙ e)
    (h (i - a) 0 (omega arith) (omega (arith, length-range_with_len a (b - a))))
found_between Yes No a b (Some s) h =
    let l : h.1 < b - a = omega (arith, h.2, length-range_with_len a (b - a)) in
    let e : s ≡ a + h.1 = sym (h.3 0) ∙ get_or-range_with_len a (b - a) h.1 0 l in
    (omega (arith, e, l), h.0)

-- the same from 0 on
pub found_below : (Yes No : ℕ → Type 0) (b : ℕ) (r : Option ℕ)
    → MatchOption r ((i : ℕ) → 0 ≤ i → i < b → No i) (λ s. (s < b) × Yes s)
    → MatchOption r ((i : ℕ) → i < b → No i) (λ s. (s < b) × Yes s)
found_below Yes No b None h = λ i l. h i (omega arith) l
found_below Yes No b (Some s) h = h

pub only_found : (Yes : ℕ → Type 0) (b : ℕ) (P : Type 0) (r : Option ℕ)
    → MatchOption r P (λ s. (s < b) × Yes s) → MatchOption r P Yes
only_found Yes b P None h = h
only_found Yes b P (Some s) h = h.1
