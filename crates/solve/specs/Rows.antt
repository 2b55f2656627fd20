-- Rows of a fixed width, one after the other in a list.
use Rattle.std.specs.Prelude.{◌≡◌, ℕ, ◌+◌, ◌*◌, ◌<◌, ◌≤◌, cond, List, Option, MatchOption, ◌≢◌, nat_lt, slice_index}

-- a 32-bit number as 16-bit operand: one that does not fit counts as 0
abbrev pub operand : ℕ → ℕ
operand x = cond (nat_lt x 65536) x 0

-- Row s has become f, and all other numbers are as they were.
pub record RowIs (width s : ℕ) (f : ℕ → ℕ) (before after : List ℕ) : Type 0 where
  pub inside : (c : ℕ) → c < width → slice_index after (s * width + c) ≡ f c
  pub ahead : (i : ℕ) → i < s * width → slice_index after i ≡ slice_index before i
  pub behind : (i : ℕ) → s * width + width ≤ i → slice_index after i ≡ slice_index before i

-- The first row from `from` on, of `count` rows, whose number at the symbol is not 0, or that there is none.
abbrev pub Usable : ℕ → ℕ → ℕ → ℕ → List ℕ → Option ℕ → Type 0
Usable width count symbol from w r =
    MatchOption r ((i : ℕ) → from ≤ i → i < count → slice_index w (i * width + symbol) ≡ 0)
    (λ s. (from ≤ s) × (s < count) × (slice_index w (s * width + symbol) ≢ 0)
    × ((i : ℕ) → from ≤ i → i < s → slice_index w (i * width + symbol) ≡ 0))
