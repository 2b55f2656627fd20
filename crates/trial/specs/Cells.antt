-- What is answered for the cells of a stripe.
use Rattle.std.specs.Prelude.{◌≡◌, ℕ, ◌+◌, ◌*◌, ◌/◌, ◌%◌, Bool, List, Option, Result, Err, nat_lt, nat_le, if◌then◌else◌, false, position, take, MatchOption, IfErr}
use Rattle.code.specs.declared.record.Code.{Code}
use Rattle.code.specs.declared.refusal.Refusal.{Refusal}
use Rattle.code.specs.declared.refusal.Refusal.TheVariants.{Foreign, Contradiction}
use Rattle.code.specs.Stripe.{width}

-- a present cell holds this number, which is no symbol of a field of that size; above 65,535 a cell is lost
abbrev pub foreign : ℕ → ℕ → Bool
foreign q x = if nat_le q x then nat_lt x 65536 else false

-- how many numbers an equation for each cell takes: the factors of the symbols, and what the cell holds
abbrev pub room : Code → ℕ
room code = code.n * width code * (code.k * code.m + 1)

-- the first cell of the stripe whose number is no symbol
abbrev pub first_foreign : ℕ → Code → List ℕ → Option ℕ
first_foreign q code held = position (foreign q) (take (code.n * width code) held)

-- Refused with the first such cell if there is one, and for no other reason than a contradiction if there
-- is none.
abbrev pub Refuses : {A : Type 0} → ℕ → Code → List ℕ → Result A Refusal → Type 0
Refuses q code held answer = MatchOption (first_foreign q code held)
    (IfErr answer (λ e. e ≡ Contradiction))
    (λ x. answer ≡ Err (Foreign (x / width code) (x % width code)))
