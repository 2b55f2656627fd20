-- Files: made from a function of the place, from an array, and compared.
use Rattle.std.proofs.lemmas.Grind.{common_steps}
use Rattle.std.proofs.Common.{◌≡◌, ℕ, ◌+◌, ◌*◌, ◌/◌, ◌%◌, ◌<◌, cond, eqb, List, map, get_or, sym, refl, ap, ◌∙◌, ap₂, arith, ext_get_or}
use native.Mathlib.Decide.{dec_lt}
use Rattle.std.specs.List.{range_with_len}
use Rattle.std.proofs.lemmas.List.FromFn.{length-map-range_with_len, get_or-map-range_with_len}
use Rattle.std.proofs.lemmas.List.{get_or_past}
use Rattle.std.proofs.lemmas.Bool.{eq-eqb, ne_eqb, cond_both}
use Rattle.field.specs.Laws.{Operations, Laws}
use Rattle.algebra.proofs.Bridge.{zero_below}
use Rattle.code.specs.declared.record.Code.{Code}
use Rattle.code.specs.Stripe.{Symbols, IsFile, StripeOf}
use Rattle.code.proofs.Places.{place_below, place_injective, place_parts}
use Rattle.theorems.specs.Linear.{HasSymbols, SingleFile}
use Rattle.theorems.proofs.Ruled.{Ruled}

-- each number that a file gives is a symbol, also past its end, where it gives 0
pub file_below : (F : Operations) → Laws F → (code : Code) (file : List ℕ) → IsFile F code file → (p : ℕ) → get_or file p 0 < F.q
file_below F L code file I p = grind (arith, common_steps, get_or_past, zero_below)

-- files with the same symbols are the same
pub same_file : (F : Operations) (code : Code) (u v : List ℕ) → IsFile F code u → IsFile F code v
    → HasSymbols code (λ p. get_or v p 0) u → u ≡ v
same_file F code u v U V same = ext_get_or 0 u v (U.long ∙ sym V.long) (λ p l. same p (omega (arith, U.long)))

-- An array that keeps both rules and starts with the file is its stripe.
pub ruled_stripe : (F : Operations) (code : Code) (file : List ℕ) (x : Symbols) → Ruled F code x
    → ((j t : ℕ) → j < code.k → t < code.m → x j t ≡ get_or file (j * code.m + t) 0) → StripeOf F code file x
ruled_stripe F code file x X starts = record { starts = starts; symbols = X.symbols; columns = X.columns; groups = X.groups }

-- node and column of a place of a file
pub place_node : (code : Code) (p : ℕ) → p < code.k * code.m
    → (p / code.m < code.k) × (p % code.m < code.m) × (p / code.m * code.m + p % code.m ≡ p)
place_node code p = place_parts code.k code.m p code.data_columns.0

module _ (F : Operations) (L : Laws F) (code : Code) where
  -- the file whose symbol at each place p is `at p`
  pub file_from : (ℕ → ℕ) → List ℕ
  file_from at = map at (range_with_len 0 (code.k * code.m))

  pub file_from_has : (at : ℕ → ℕ) → HasSymbols code at (file_from at)
  unfolding file_from
  file_from_has at p l = get_or-map-range_with_len at 0 (code.k * code.m) p p 0 l (omega arith)

  pub file_from_is : (at : ℕ → ℕ) → ((p : ℕ) → p < code.k * code.m → at p < F.q) → IsFile F code (file_from at)
  unfolding file_from
  file_from_is at below = grind (arith, common_steps, get_or-map-range_with_len, length-map-range_with_len)

  -- the file with which an array starts
  pub start_of : Symbols → List ℕ
  start_of x = file_from (λ p. x (p / code.m) (p % code.m))

  -- An array that keeps both rules is the stripe of the file with which it starts.
  pub start_is : (x : Symbols) → Ruled F code x → IsFile F code (start_of x)
  unfolding start_of
  start_is x X = grind (arith, common_steps, file_from_is, place_node)

  pub start_stripe : (x : Symbols) → Ruled F code x → StripeOf F code (start_of x) x
  unfolding start_of
  start_stripe x X = ruled_stripe F code (file_from (λ p. x (p / code.m) (p % code.m))) x X starts
    where
      starts : (j t : ℕ) → j < code.k → t < code.m
          → x j t ≡ get_or (file_from (λ p. x (p / code.m) (p % code.m))) (j * code.m + t) 0
      starts j t lj lt = ap₂ x there.0 there.1 ∙ sym (file_from_has (λ p. x (p / code.m) (p % code.m)) (j * code.m + t) inside)
        where
          inside : j * code.m + t < code.k * code.m
          inside = place_below code.k code.m j t lj lt

          there : (j ≡ (j * code.m + t) / code.m) × (t ≡ (j * code.m + t) % code.m)
          there =
              let at = place_node code (j * code.m + t) inside in
              place_injective code.m j t ((j * code.m + t) / code.m) ((j * code.m + t) % code.m) lt at.1 (sym at.2)

  -- There is a file that is s at place p and 0 elsewhere.
  pub single_file : (p s : ℕ) → p < code.k * code.m → s < F.q → (e : List ℕ) × SingleFile F code p s e
  single_file p s inside below = (file_from at, record { is_file = is; there = there; elsewhere = elsewhere })
    where
      at : ℕ → ℕ
      at o = cond (eqb o p) s 0

      is : IsFile F code (file_from at)
      is = file_from_is at (λ o l. cond_both (eqb o p) s 0 (λ u. u < F.q) (λ e. below) (λ e. zero_below F L))

      there : get_or (file_from at) p 0 ≡ s
      there = file_from_has at p inside ∙ ap (λ b. cond b s 0) (eq-eqb p p refl)

      elsewhere : (o : ℕ) → (o ≡ p → ⊥) → get_or (file_from at) o 0 ≡ 0
      elsewhere o away =
          elim (dec_lt o (code.k * code.m)) [
            | yes l ↦ file_from_has at o l ∙ ap (λ b. cond b s 0) (ne_eqb o p away)
            | no h ↦ get_or_past (file_from at) o 0 (omega (arith, is.long))
          ]
