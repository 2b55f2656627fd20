-- A part in the middle of a list: what stands in it, and in the list once the part is written.
use Rattle.std.proofs.Common.{◌≡◌, ℕ, ◌+◌, ◌-◌, ◌*◌, ◌<◌, ◌≤◌, List, length, get_or, take, drop, sym, ap, ◌∙◌, mul-le-mul_right, add-mul, add_comm, one-mul, arith, rules}
use borrow.Rule.Slice.PartMut.{put_mid}
use Rattle.std.proofs.lemmas.List.{places, get_or-take, get_or-drop, length-drop, length-take-le}
use Rattle.code.proofs.Places.{place_below}

-- the k numbers from place a on
pub window_length : (a k : ℕ) (xs : List ℕ) → a + k ≤ length xs → length (take k (drop a xs)) ≡ k
window_length a k xs h = length-take-le k (drop a xs) (rw length-drop (omega arith))

pub window_at : (a k : ℕ) (xs : List ℕ) (v : ℕ) → v < k → get_or (take k (drop a xs)) v 0 ≡ get_or xs (a + v) 0
window_at a k xs v h = get_or-take k (drop a xs) v 0 h ∙ get_or-drop a xs v 0

-- the same where the part is a whole slice from place 1 on
pub rest_at : (xs : List ℕ) (v : ℕ) → v < length xs - 1 → get_or (take (length xs - 1) (drop 1 xs)) v 0 ≡ get_or xs (v + 1) 0
rest_at xs v h = window_at 1 (length xs - 1) xs v h ∙ ap (λ t. get_or xs t 0) (add_comm 1 v)

-- the list with ys put there
pub put_inside : (a k : ℕ) (xs ys : List ℕ) (v : ℕ) → a ≤ length xs → v < length ys → get_or (put_mid a k xs ys) (a + v) 0 ≡ get_or ys v 0
put_inside a k xs ys v ha hv = search (rules, places)

pub put_before : (a k : ℕ) (xs ys : List ℕ) (p : ℕ) → a ≤ length xs → p < a → get_or (put_mid a k xs ys) p 0 ≡ get_or xs p 0
put_before a k xs ys p ha hp = search (rules, places)

pub put_after : (a k : ℕ) (xs ys : List ℕ) (p : ℕ) → a + k ≤ length xs → length ys ≡ k → a + k ≤ p → get_or (put_mid a k xs ys) p 0 ≡ get_or xs p 0
put_after a k xs ys p ha hy hp = search (rules, places)

pub put_length : (a k : ℕ) (xs ys : List ℕ) → a + k ≤ length xs → length ys ≡ k → length (put_mid a k xs ys) ≡ length xs
put_length a k xs ys ha hy = search (rules, places)

-- Rows of w numbers, one after the other: row v begins at number v·w.

pub row_next : (v w : ℕ) → (v + 1) * w ≡ v * w + w
row_next v w = add-mul v 1 w ∙ ap (λ t. v * w + t) (one-mul w)

-- row v ends within n rows
pub row_end : (v w n : ℕ) → v < n → v * w + w ≤ n * w
row_end v w n l = omega (arith, row_next v w, mul-le-mul_right {m = v + 1} {n = n} w (omega arith))

-- row v, which begins at number a, is written with ys
pub row_written : (v w a K : ℕ) (xs ys : List ℕ) → a ≡ v * w → a ≤ length xs → (c : ℕ) → c < length ys
    → get_or (put_mid a K xs ys) (v * w + c) 0 ≡ get_or ys c 0
row_written v w a K xs ys at inside c l =
    ap (λ t. get_or (put_mid a K xs ys) (t + c) 0) (sym at) ∙ put_inside a K xs ys c inside l

-- and the rows before it are kept
pub row_kept : (v w a K : ℕ) (xs ys : List ℕ) → a ≡ v * w → a ≤ length xs → (u c : ℕ) → u < v → c < w
    → get_or (put_mid a K xs ys) (u * w + c) 0 ≡ get_or xs (u * w + c) 0
row_kept v w a K xs ys at inside u c l h =
    put_before a K xs ys (u * w + c) inside (omega (arith, place_below v w u c l h))
