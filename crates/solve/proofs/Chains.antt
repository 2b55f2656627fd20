-- What `all` and `find` over a range of numbers say, place by place.
use Rattle.std.proofs.Common.{◌≡◌, ℕ, ◌+◌, ◌-◌, ◌<◌, ◌≤◌, Bool, true, false, length, Some, None, Option, sym, ◌∙◌, subst, arith}
use Rattle.std.specs.Prelude.{MatchOption}
use Rattle.std.specs.Bool.{MatchBool}
use Rattle.std.specs.List.{AllWithin, HoldsAt, range_with_len}
use Rattle.std.proofs.lemmas.List.FromFn.{length-range_with_len, get_or-range_with_len}

pub in_range : (P : ℕ → Type 0) (a b : ℕ) (end : ℕ) → end ≤ b - a → AllWithin P (range_with_len a (b - a)) 0 end → (i : ℕ) → a ≤ i → i < a + end → P i
in_range P a b end l all i h k =
    let e : a + (i - a) ≡ i = omega arith in
    subst P (get_or-range_with_len a (b - a) (i - a) 0 (omega arith) ∙ e) (all (i - a) 0 (omega arith) (omega arith))

pub all_of_range : (P Q : ℕ → Type 0) (n : ℕ) (r : Bool)
    → MatchBool r (AllWithin P (range_with_len 0 (n - 0)) 0 (length (range_with_len 0 (n - 0)))) ((k : ℕ) × (k < length (range_with_len 0 (n - 0))) × HoldsAt Q (range_with_len 0 (n - 0)) k)
    → MatchBool r ((p : ℕ) → p < n → P p) ((p : ℕ) × (p < n) × Q p)
all_of_range P Q n true h = λ p l. in_range P 0 n (length (range_with_len 0 (n - 0))) (omega (arith, length-range_with_len 0 (n - 0))) h p (omega arith) (omega (arith, length-range_with_len 0 (n - 0)))
all_of_range P Q n false h =
    let l : h.0 < n - 0 = omega (arith, h.1, length-range_with_len 0 (n - 0)) in
    let e : 0 + h.0 ≡ h.0 = omega arith in
    (h.0, omega arith, subst Q (get_or-range_with_len 0 (n - 0) h.0 0 l ∙ e) (h.2 0))

pub first_of_range : (Yes No : ℕ → Type 0) (a b : ℕ) (r : Option ℕ)
    → MatchOption r (AllWithin No (range_with_len a (b - a)) 0 (length (range_with_len a (b - a))))
    (λ x. Yes x × (i : ℕ) × (i < length (range_with_len a (b - a))) × HoldsAt (λ y. y ≡ x) (range_with_len a (b - a)) i × AllWithin No (range_with_len a (b - a)) 0 i)
    → MatchOption r ((i : ℕ) → a ≤ i → i < b → No i) (λ s. (a ≤ s) × (s < b) × Yes s × ((i : ℕ) → a ≤ i → i < s → No i))
first_of_range Yes No a b None h = λ i l k. in_range No a b (length (range_with_len a (b - a))) (omega (arith, length-range_with_len a (b - a))) h i l (omega (arith, length-range_with_len a (b - a)))
first_of_range Yes No a b (Some s) h =
    let l : h.1 < b - a = omega (arith, h.2, length-range_with_len a (b - a)) in
    let e : s ≡ a + h.1 = sym (h.3 0) ∙ get_or-range_with_len a (b - a) h.1 0 l in
    (omega (arith, e), omega (arith, e, l), h.0, λ i m k. in_range No a b h.1 (omega (arith, l)) h.4 i m (omega (arith, e)))
