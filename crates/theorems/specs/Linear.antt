-- Stripes are linear: sums, differences and multiples of stripes are stripes, so each cell of a stripe is
-- a weighted sum of the file's symbols.
use Rattle.std.specs.Prelude.{◌≡◌, ℕ, ◌*◌, ◌<◌, List, ◌≢◌, slice_index, slice_index_or}
use Rattle.field.specs.Laws.{Operations, Laws}
use Rattle.algebra.specs.Sums.{sum}
use Rattle.code.specs.declared.record.Code.{Code}
use Rattle.code.specs.Stripe.{Symbols, IsFile, StripeOf, width}

-- file w has, at each place p, the symbol that `at` gives for p
abbrev pub HasSymbols : Code → (ℕ → ℕ) → List ℕ → Type 0
HasSymbols code at w = (p : ℕ) → p < code.k * code.m → slice_index w p ≡ at p

-- The sum, the difference and the multiple of stripes are the stripes of the sum, the difference and the
-- multiple of the files, symbol by symbol and cell by cell.
pub record LinearIn (F : Operations) (code : Code) : Type 0 where
  pub sums : (u v w : List ℕ) (x y : Symbols) → IsFile F code u → IsFile F code v → IsFile F code w
      → StripeOf F code u x → StripeOf F code v y → HasSymbols code (λ p. F.add (slice_index u p) (slice_index v p)) w
      → StripeOf F code w (λ j c. F.add (x j c) (y j c))
  pub differences : (u v w : List ℕ) (x y : Symbols) → IsFile F code u → IsFile F code v → IsFile F code w
      → StripeOf F code u x → StripeOf F code v y → HasSymbols code (λ p. F.sub (slice_index u p) (slice_index v p)) w
      → StripeOf F code w (λ j c. F.sub (x j c) (y j c))
  pub multiples : (s : ℕ) (u w : List ℕ) (x : Symbols) → s < F.q → IsFile F code u → IsFile F code w
      → StripeOf F code u x → HasSymbols code (λ p. F.mul s (slice_index u p)) w
      → StripeOf F code w (λ j c. F.mul s (x j c))

abbrev pub Linear : Type 0
Linear = (F : Operations) → Laws F → (code : Code) → LinearIn F code

-- the file that is s at place p and 0 elsewhere
pub record SingleFile (F : Operations) (code : Code) (p s : ℕ) (e : List ℕ) : Type 0 where
  pub is_file : IsFile F code e
  pub there : slice_index_or e p 0 ≡ s
  pub elsewhere : (o : ℕ) → (o ≢ p) → slice_index e o ≡ 0

-- the factor of place p in each cell: that cell in the stripe of the unit file at p
abbrev pub IsFactor : Operations → Code → ℕ → Symbols → Type 0
IsFactor F code p factor = (e : List ℕ) × SingleFile F code p 1 e × StripeOf F code e factor

-- Each cell of a stripe is the sum over the file's symbols of the place's factor in that cell times the symbol.
abbrev pub WeightedSum : Type 0
WeightedSum =
    (F : Operations) → Laws F → (code : Code) (file : List ℕ) (x : Symbols) (factor : ℕ → Symbols)
    → IsFile F code file → StripeOf F code file x → ((p : ℕ) → p < code.k * code.m → IsFactor F code p (factor p))
    → (j c : ℕ) → j < code.n → c < width code
    → x j c ≡ sum F (code.k * code.m) (λ p. F.mul (factor p j c) (slice_index file p))
