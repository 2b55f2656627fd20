-- Places in rows of m: place j·m + t is column t of row j, as the symbols of a file and the cells of an array stand.
use Rattle.std.proofs.Common.{◌≡◌, ℕ, ◌+◌, ◌*◌, ◌/◌, ◌%◌, ◌<◌, sym, ap, ◌∙◌, mod-lt}
use lib.Arith.{digits_lt, digits_div, digits_mod}
use Rattle.std.proofs.lemmas.Nat.{div-add-mod', div_below}

-- a place in one of k rows is one of k·m
pub place_below : (k m j t : ℕ) → j < k → t < m → j * m + t < k * m
place_below k m j t lj lt = digits_lt lj lt

-- row and column are known from the place
pub place_injective : (m j t i s : ℕ) → t < m → s < m → j * m + t ≡ i * m + s → (j ≡ i) × (t ≡ s)
place_injective m j t i s lt ls e =
    (sym (digits_div j lt) ∙ ap (λ (x : ℕ). x / m) e ∙ digits_div i ls, sym (digits_mod j lt) ∙ ap (λ (x : ℕ). x % m) e ∙ digits_mod i ls)

-- row and column of one of k·m places
pub place_parts : (k m p : ℕ) → 0 < m → p < k * m → (p / m < k) × (p % m < m) × (p / m * m + p % m ≡ p)
place_parts k m p pos l = (div_below p m k pos l, mod-lt p pos, div-add-mod' p m)
