-- How many places of a range have a mark, and what that says of lists that hold few numbers.
use Rattle.std.proofs.Common.{◌≡◌, ℕ, zero, suc, ◌+◌, ◌-◌, ◌<◌, ◌≤◌, Bool, true, false, cond, ◌&&◌, ◌||◌, eqb, leb, List, [], ◌∷◌, length, sym, refl, ap, ◌∙◌, inl, inr, add-zero, add-suc, arith}
use native.Mathlib.Decide.{ℕ_discrete}
use Rattle.std.proofs.lemmas.Bool.{eqb-true, eq-eqb, or_left, or_right, or_cases, leb-true, both_ways, false≢true}
use Rattle.algebra.specs.Vandermonde.{Listed}

-- 1 where there is a mark
abbrev pub bit : Bool → ℕ
bit true = 1
bit false = 0

-- how many of the places 0 .. n − 1 have a mark
unfoldable pub tally : (ℕ → Bool) → ℕ → ℕ
tally b zero = 0
tally b (suc n) = tally b n + bit (b n)

pub tally_none : (b : ℕ → Bool) → tally b 0 ≡ 0
unfolding tally
tally_none b = refl

pub tally_more : (b : ℕ → Bool) (n : ℕ) → tally b (suc n) ≡ tally b n + bit (b n)
unfolding tally
tally_more b n = refl

bit_small : (t : Bool) → bit t ≤ 1
bit_small true = omega arith
bit_small false = omega arith

pub tally_small : (b : ℕ → Bool) (n : ℕ) → tally b n ≤ n
tally_small b zero = omega (arith, tally_none b)
tally_small b (suc n) = omega (arith, tally_more b n, bit_small (b n), tally_small b n)

-- the first n places and the k after them
pub tally_split : (b : ℕ → Bool) (n k : ℕ) → tally b (n + k) ≡ tally b n + tally (λ u. b (n + u)) k
tally_split b n zero = ap (tally b) (add-zero n) ∙ omega (arith, tally_none (λ u. b (n + u)))
tally_split b n (suc k) =
    ap (tally b) (add-suc n k) ∙ tally_more b (n + k)
    ∙ omega (arith, tally_split b n k, tally_more (λ u. b (n + u)) k)

-- the s places before n, from the last one on, and those before them
pub tally_back : (b : ℕ → Bool) (n s : ℕ) → s ≤ n → tally b n ≡ tally b (n - s) + tally (λ i. b (n - suc i)) s
tally_back b n zero h = let e : n ≡ n - 0 = omega arith in ap (tally b) e ∙ omega (arith, tally_none (λ i. b (n - suc i)))
tally_back b n (suc s) h =
    let e : n - s ≡ suc (n - suc s) = omega arith in
    let back : tally b (n - s) ≡ tally b (n - suc s) + bit (b (n - suc s)) = ap (tally b) e ∙ tally_more b (n - suc s) in
    omega (arith, tally_back b n s (omega arith), back, tally_more (λ i. b (n - suc i)) s)

pub tally_unmarked : (b : ℕ → Bool) (n : ℕ) → ((d : ℕ) → d < n → b d ≡ false) → tally b n ≡ 0
tally_unmarked b zero h = tally_none b
tally_unmarked b (suc n) h =
    omega (arith, tally_more b n, ap bit (h n (omega arith)), tally_unmarked b n (λ d l. h d (omega arith)))

-- at most one place has a mark if any two that have one are the same
tally_once : (b : ℕ → Bool) (n : ℕ) → ((d e : ℕ) → d < n → e < n → b d ≡ true → b e ≡ true → d ≡ e) → tally b n ≤ 1
tally_once b zero h = omega (arith, tally_none b)
tally_once b (suc n) h = by_case (b n) refl (tally_once b n (λ d e ld le. h d e (omega arith) (omega arith)))
  where
    by_case : (t : Bool) → b n ≡ t → tally b n ≤ 1 → tally b (suc n) ≤ 1
    by_case false m few = omega (arith, tally_more b n, ap bit m)
    by_case true m few = omega (arith, tally_more b n, ap bit m, tally_unmarked b n free)
      where
        other : (d : ℕ) → d < n → (t : Bool) → b d ≡ t → b d ≡ false
        other d l false m' = m'
        other d l true m' = let same : d ≡ n = h d n (omega arith) (omega arith) m' m in absurd (omega arith)

        free : (d : ℕ) → d < n → b d ≡ false
        free d l = other d l (b d) refl

tally_or : (b c : ℕ → Bool) (n : ℕ) → tally (λ d. b d || c d) n ≤ tally b n + tally c n
tally_or b c zero = omega (arith, tally_none (λ d. b d || c d))
tally_or b c (suc n) =
    omega (arith, tally_more (λ d. b d || c d) n, tally_more b n, tally_more c n, tally_or b c n, either (b n) (c n))
  where
    either : (s t : Bool) → bit (s || t) ≤ bit s + bit t
    either true t = omega arith
    either false t = omega arith

-- where fewer than n of n places have a mark, one has none
pub unmarked : (b : ℕ → Bool) (n : ℕ) → tally b n < n → (v : ℕ) × (v < n) × (b v ≡ false)
unmarked b zero h = absurd (omega arith)
unmarked b (suc n) h = by_case (b n) refl (unmarked b n)
  where
    by_case : (t : Bool) → b n ≡ t → (tally b n < n → (v : ℕ) × (v < n) × (b v ≡ false)) → (v : ℕ) × (v < suc n) × (b v ≡ false)
    by_case false m rest = (n, omega arith, m)
    by_case true m rest = let v = rest (omega (arith, tally_more b n, ap bit m)) in (v.0, omega (arith, v.1), v.2)

-- whether v stands in the list
abbrev pub listed : ℕ → List ℕ → Bool
listed v [] = false
listed v (w ∷ W) = eqb v w || listed v W

pub listed_true : (v : ℕ) (W : List ℕ) → listed v W ≡ true → Listed v W
listed_true v [] h = absurd (false≢true h)
listed_true v (w ∷ W) h = elim (or_cases (eqb v w) (listed v W) h) [ inl e ↦ inl (eqb-true v w e) | inr e ↦ inr (listed_true v W e) ]

pub listed_from : (v : ℕ) (W : List ℕ) → Listed v W → listed v W ≡ true
listed_from v [] h = elim h [ ]
listed_from v (w ∷ W) (inl e) = or_left (eqb v w) (listed v W) (eq-eqb v w e)
listed_from v (w ∷ W) (inr i) = or_right (eqb v w) (listed v W) (listed_from v W i)

pub listed_false : (v : ℕ) (W : List ℕ) → listed v W ≡ false → Listed v W → ⊥
listed_false v W h i = both_ways (listed v W) h (listed_from v W i)

-- a list holds no more of n different numbers than it is long
pub few_listed : (f : ℕ → ℕ) (n : ℕ) → ((d e : ℕ) → d < n → e < n → f d ≡ f e → d ≡ e)
    → (W : List ℕ) → tally (λ d. listed (f d) W) n ≤ length W
few_listed f n differ [] = omega (arith, tally_unmarked (λ d. false) n (λ d l. refl))
few_listed f n differ (w ∷ W) =
    omega (
      arith,
      tally_or (λ d. eqb (f d) w) (λ d. listed (f d) W) n,
      few_listed f n differ W,
      tally_once (λ d. eqb (f d) w) n (λ d e ld le md me. differ d e ld le (eqb-true (f d) w md ∙ sym (eqb-true (f e) w me))),
    )

-- the numbers f d of the places d < n with a mark
pub chosen : (ℕ → ℕ) → (ℕ → Bool) → ℕ → List ℕ
chosen f b zero = []
chosen f b (suc n) = cond (b n) (f n ∷ chosen f b n) (chosen f b n)

pub length-chosen : (f : ℕ → ℕ) (b : ℕ → Bool) (n : ℕ) → length (chosen f b n) ≡ tally b n
unfolding chosen
length-chosen f b zero = sym (tally_none b)
length-chosen f b (suc n) = by_case (b n) refl (length-chosen f b n)
  where
    by_case : (t : Bool) → b n ≡ t → length (chosen f b n) ≡ tally b n
        → length (cond t (f n ∷ chosen f b n) (chosen f b n)) ≡ tally b (suc n)
    by_case true m rest = omega (arith, tally_more b n, ap bit m)
    by_case false m rest = omega (arith, tally_more b n, ap bit m)

pub not_chosen : (f : ℕ → ℕ) (b : ℕ → Bool) (n d : ℕ) → d < n → (Listed (f d) (chosen f b n) → ⊥) → b d ≡ false
unfolding chosen
not_chosen f b zero d l out = absurd (omega arith)
not_chosen f b (suc n) d l out = by_case (b n) refl out (not_chosen f b n d)
  where
    by_case : (t : Bool) → b n ≡ t → (Listed (f d) (cond t (f n ∷ chosen f b n) (chosen f b n)) → ⊥)
        → (d < n → (Listed (f d) (chosen f b n) → ⊥) → b d ≡ false) → b d ≡ false
    by_case true m out rest =
        elim (ℕ_discrete d n)
        [ yes e ↦ absurd (out (inl (ap f e))) | no e ↦ rest (omega arith) (λ i. out (inr i)) ]
    by_case false m out rest =
        elim (ℕ_discrete d n)
        [ yes e ↦ ap b e ∙ m | no e ↦ rest (omega arith) out ]

-- the marked places that have a or more marked ones before them
abbrev pub late : (ℕ → Bool) → ℕ → ℕ → Bool
late b a d = b d && leb a (tally b d)

pub tally-late : (b : ℕ → Bool) (a n : ℕ) → tally (late b a) n ≤ tally b n - a
tally-late b a zero = omega (arith, tally_none (late b a))
tally-late b a (suc n) = by_case (b n) refl (leb a (tally b n)) refl (tally-late b a n)
  where
    by_case : (s : Bool) → b n ≡ s → (t : Bool) → leb a (tally b n) ≡ t
        → tally (late b a) n ≤ tally b n - a → tally (late b a) (suc n) ≤ tally b (suc n) - a
    by_case true m true h few =
        omega (arith, tally_more (late b a) n, tally_more b n, ap bit m, leb-true a (tally b n) h, bit_small (late b a n))
    by_case true m false h few =
        let none : late b a n ≡ false = cc in
        omega (arith, tally_more (late b a) n, tally_more b n, ap bit m, ap bit none)
    by_case false m t h few =
        let none : late b a n ≡ false = cc in
        omega (arith, tally_more (late b a) n, tally_more b n, ap bit m, ap bit none)
