-- Which files fit a store that holds the stripe of a file but for some nodes.
use Rattle.std.proofs.Common.{arith}
use Rattle.std.proofs.lemmas.Grind.{common_steps}
use Rattle.std.proofs.Common.{◌≡◌, ℕ, false, cond, List, Some, None, Option, refl, ap, ◌∙◌, inl, inr}
use Rattle.std.proofs.lemmas.Bool.{cases_Bool, cond-true, cond-false}
use Rattle.field.specs.Laws.{Operations, Laws}
use Rattle.algebra.specs.Vandermonde.{Listed}
use Rattle.code.specs.declared.record.Code.{Code}
use Rattle.code.specs.Stripe.{Symbols, IsFile, StripeOf, Fits, width}
use Rattle.theorems.proofs.Stripes.{stripe_unique}
use Rattle.losses.specs.Losses.{SameOutside}
use Rattle.losses.proofs.Counting.{listed, listed_true, listed_false}
use Rattle.store.specs.Meaning.{Meaning}
use Rattle.code.specs.Held.{Inside}
use Rattle.examples.specs.Small.{HoldsWithout}

module _ (F : Operations) (L : Laws F) (code : Code) (file : List ℕ) (x : Symbols) (X : StripeOf F code file x)
    (lost : List ℕ) (m : Meaning) (H : HoldsWithout F code file lost m) where
  -- The nodes that are not lost hold the stripe.
  pub held : (j c : ℕ) → Inside code j c → listed j lost ≡ false → m.cell j c ≡ Some (x j c)
  held j c inside out =
      H.present j c inside (listed_false j lost out)
      ∙ ap Some (stripe_unique F L code file H.stripe x H.is_stripe X j c inside.0 inside.1)

  -- A file whose stripe is the same in the nodes that are not lost fits.
  pub fits : (u : List ℕ) (y : Symbols) → IsFile F code u → StripeOf F code u y → SameOutside code lost y x → Fits F code m.cell u
  fits u y is Y same = grind (arith, common_steps, held, listed, listed_false, listed_true)

  -- The file itself fits.
  pub own_fits : IsFile F code file → Fits F code m.cell file
  own_fits is = fits file x is X (λ j c lj lc out. refl)

  -- The stripe of a file that fits is the same in the nodes that are not lost.
  pub kept : (u : List ℕ) (U : Fits F code m.cell u) (j c : ℕ) → Inside code j c → listed j lost ≡ false → U.stripe j c ≡ x j c
  kept u U j c inside out = U.agrees j c (x j c) inside.0 inside.1 (held j c inside out)

-- There is a store that holds a stripe but for these nodes.
pub store_exists : (F : Operations) (code : Code) (file : List ℕ) (x : Symbols) → StripeOf F code file x → (lost : List ℕ) (allowance : ℕ)
    → (m : Meaning) × HoldsWithout F code file lost m × (m.allowance ≡ allowance)
store_exists F code file x X lost allowance = (
  record { nodes = code.n; columns = width code; cell = cell; allowance = allowance },
  record { shaped = (refl, refl); stripe = x; is_stripe = X; present = present; absent = absent },
  refl,
)
  where
    cell : ℕ → ℕ → Option ℕ
    cell j c = cond (listed j lost) None (Some (x j c))

    present : (j c : ℕ) → Inside code j c → (Listed j lost → ⊥) → cell j c ≡ Some (x j c)
    present j c inside out =
        elim (cases_Bool (listed j lost)) [
          | inl gone ↦ absurd (out (listed_true j lost gone))
          | inr e ↦ cond-false (listed j lost) None (Some (x j c)) e
        ]

    absent : (j c : ℕ) → Inside code j c → Listed j lost → cell j c ≡ None
    absent j c inside gone =
        elim (cases_Bool (listed j lost)) [
          | inl e ↦ cond-true (listed j lost) None (Some (x j c)) e
          | inr out ↦ absurd (listed_false j lost out gone)
        ]
