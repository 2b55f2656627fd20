-- Rows in memory, number by number.
use Rattle.std.proofs.Common.{◌≡◌, ℕ, ◌+◌, ◌*◌, ◌<◌, ◌≤◌, cond, ◌≢◌, ◌⊎◌, List, length, get_or, set, sym, ap, ◌∙◌, inl, inr, mul-le-mul_right, mul-le-mul_left, arith, get_or-set_other, get_or-set_same}
use native.Mathlib.Decide.{ℕ_discrete, dec_lt}
use Rattle.std.proofs.lemmas.Bool.{lt-ltb, le-ltb}
use Rattle.field.specs.Laws.{Operations, Laws, symbol}
use Rattle.solve.specs.Rows.{RowIs, operand}

-- an operand of more than 16 bits counts as 0 in every field
pub operand_symbol : (F : Operations) → Laws F → (x : ℕ) → symbol F.q (operand x) ≡ symbol F.q x
operand_symbol F L x =
    elim (dec_lt x 65536) [
      | yes h ↦ ap (λ b. symbol F.q (cond b x 0)) (lt-ltb x 65536 h)
      | no h ↦
          let large : F.q ≤ x = omega (arith, L.size_bound) in
          let far : 65536 ≤ x = omega arith in
          let none : symbol F.q 0 ≡ 0 = ap (λ b. cond b 0 0) (lt-ltb 0 F.q (omega (arith, L.one_below))) in
          ap (λ b. symbol F.q (cond b x 0)) (le-ltb x 65536 far) ∙ none ∙ sym (ap (λ b. cond b x 0) (le-ltb x F.q large))
    ]

pub mul_operand : (F : Operations) → Laws F → (u v : ℕ) → F.mul (operand u) (operand v) ≡ F.mul u v
mul_operand F L u v =
    L.mul_operands (operand u) (operand v)
    ∙ ap (λ t. F.mul t (symbol F.q (operand v))) (operand_symbol F L u)
    ∙ ap (F.mul (symbol F.q u)) (operand_symbol F L v)
    ∙ sym (L.mul_operands u v)

pub sub_operand : (F : Operations) → Laws F → (u v : ℕ) → F.sub (operand u) (operand v) ≡ F.sub u v
sub_operand F L u v =
    L.sub_operands (operand u) (operand v)
    ∙ ap (λ t. F.sub t (symbol F.q (operand v))) (operand_symbol F L u)
    ∙ ap (F.sub (symbol F.q u)) (operand_symbol F L v)
    ∙ sym (L.sub_operands u v)

pub inv_operand : (F : Operations) → Laws F → (u : ℕ) → F.inv (operand u) ≡ F.inv u
inv_operand F L u = L.inv_operand (operand u) ∙ ap F.inv (operand_symbol F L u) ∙ sym (L.inv_operand u)

-- A row that has become f in its first numbers, the others being as they were.
pub record RowUpTo (width s done : ℕ) (f : ℕ → ℕ) (before after : List ℕ) : Type 0 where
  pub inside : (c : ℕ) → c < done → get_or after (s * width + c) 0 ≡ f c
  pub ahead : (i : ℕ) → i < s * width → get_or after i 0 ≡ get_or before i 0
  pub behind : (i : ℕ) → s * width + done ≤ i → get_or after i 0 ≡ get_or before i 0

pub row_more : (width s done : ℕ) (f : ℕ → ℕ) (before after : List ℕ) (v : ℕ) → RowUpTo width s done f before after
    → s * width + done < length after → v ≡ f done → RowUpTo width s (done + 1) f before (set after (s * width + done) v)
row_more width s done f before after v R l e = record { inside = inside; ahead = ahead; behind = behind }
  where
    inside : (c : ℕ) → c < done + 1 → get_or (set after (s * width + done) v) (s * width + c) 0 ≡ f c
    inside c h = by_case (ℕ_discrete c done)
      where
        by_case : Dec (c ≡ done) → get_or (set after (s * width + done) v) (s * width + c) 0 ≡ f c
        by_case (yes q) = rw q (get_or-set_same after (s * width + done) v 0 l ∙ e)
        by_case (no q) = let d : s * width + c ≢ s * width + done = omega arith in get_or-set_other after (s * width + done) (s * width + c) v 0 d ∙ R.inside c (omega arith)

    ahead : (i : ℕ) → i < s * width → get_or (set after (s * width + done) v) i 0 ≡ get_or before i 0
    ahead i h = let d : i ≢ s * width + done = omega arith in get_or-set_other after (s * width + done) i v 0 d ∙ R.ahead i h

    behind : (i : ℕ) → s * width + (done + 1) ≤ i → get_or (set after (s * width + done) v) i 0 ≡ get_or before i 0
    behind i h = let d : i ≢ s * width + done = omega arith in get_or-set_other after (s * width + done) i v 0 d ∙ R.behind i (omega arith)

-- the numbers of two different rows lie apart
pub rows_apart : (width s p c : ℕ) → c < width → (p ≡ s → ⊥) → (p * width + c < s * width) ⊎ (s * width + width ≤ p * width + c)
rows_apart width s p c h d =
    elim (dec_lt p s) [
      | yes l ↦ let m : p + 1 ≤ s = omega arith in inl (omega (arith, mul-le-mul_right width m))
      | no l ↦ let m : s + 1 ≤ p = omega arith in inr (omega (arith, mul-le-mul_right width m))
    ]

-- a row other than the one that changes
pub row_other : (width s : ℕ) (f : ℕ → ℕ) (before after : List ℕ) → RowIs width s f before after
    → (p c : ℕ) → c < width → (p ≡ s → ⊥) → get_or after (p * width + c) 0 ≡ get_or before (p * width + c) 0
row_other width s f before after R p c h d =
    elim (rows_apart width s p c h d) [ inl l ↦ R.ahead (p * width + c) l | inr l ↦ R.behind (p * width + c) l ]

-- a memory of which the first numbers are those of f
pub front_more : (p x : ℕ) (f : ℕ → ℕ) (before after : List ℕ) → p < length after → x ≡ f p
    → ((i : ℕ) → i < p → get_or after i 0 ≡ f i) → ((i : ℕ) → p ≤ i → get_or after i 0 ≡ get_or before i 0)
    → ((i : ℕ) → i < p + 1 → get_or (set after p x) i 0 ≡ f i) × ((i : ℕ) → p + 1 ≤ i → get_or (set after p x) i 0 ≡ get_or before i 0)
front_more p x f before after l e done rest = (more, λ i h. let d : i ≢ p = omega arith in get_or-set_other after p i x 0 d ∙ rest i (omega arith))
  where
    more : (i : ℕ) → i < p + 1 → get_or (set after p x) i 0 ≡ f i
    more i h = by_case (ℕ_discrete i p)
      where
        by_case : Dec (i ≡ p) → get_or (set after p x) i 0 ≡ f i
        by_case (yes q) = rw q (get_or-set_same after p x 0 l ∙ e)
        by_case (no q) = get_or-set_other after p i x 0 q ∙ done i (omega arith)

-- the right side of equation p stands behind number p
pub right_behind : (n p : ℕ) → p ≤ p * (n + 1) + n
right_behind n p = let m : p * 1 ≤ p * (n + 1) = mul-le-mul_left p (omega arith) in omega arith
