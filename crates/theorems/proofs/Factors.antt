-- Each cell of a stripe is a weighted sum of the file's symbols.
use Rattle.std.proofs.Common.{◌≡◌, ℕ, ◌+◌, ◌*◌, ◌<◌, List, get_or, sym, ap, ◌∙◌, subst}
use mathlib.Core.Path.{fun_ext}
use Rattle.field.specs.Laws.{Operations, Laws}
use Rattle.algebra.specs.Sums.{sum}
use Rattle.algebra.proofs.Numbers.{mul_comm, one-mul, zero-mul, sum_single}
use Rattle.code.specs.declared.record.Code.{Code}
use Rattle.code.specs.Stripe.{Symbols, IsFile}
use Rattle.code.proofs.Places.{place_below}
use Rattle.theorems.specs.Linear.{SingleFile, IsFactor, WeightedSum}
use Rattle.theorems.proofs.Ruled.{Ruled, stripe_ruled, ruled_multiple, ruled_total}
use Rattle.theorems.proofs.Files.{file_below, ruled_stripe, single_file}
use Rattle.theorems.proofs.Stripes.{stripe_of, stripe_exists, stripe_unique}

-- each place has its factor in every cell
pub factor_exists : (F : Operations) → Laws F → (code : Code) (p : ℕ) → p < code.k * code.m → (factor : Symbols) × IsFactor F code p factor
factor_exists F L code p l = (stripe_of F L code e.0 e.1.is_file, (e.0, e.1, stripe_exists F L code e.0 e.1.is_file))
  where
    e : (e : List ℕ) × SingleFile F code p 1 e
    e = single_file F L code p 1 l L.one_below

-- The sum over the file's symbols of each place's factor times the symbol is an array that keeps both rules and starts
-- with the file: the stripe of the file, of which there is only one.
module _ (F : Operations) (L : Laws F) (code : Code) (file : List ℕ) (factor : ℕ → Symbols) (I : IsFile F code file)
    (factors : (p : ℕ) → p < code.k * code.m → IsFactor F code p (factor p)) where
  weighted : Symbols
  weighted j c = sum F (code.k * code.m) (λ p. F.mul (factor p j c) (get_or file p 0))

  weighted_ruled : Ruled F code weighted
  unfolding weighted
  weighted_ruled =
      ruled_total F L code (code.k * code.m) (λ p j c. F.mul (factor p j c) (get_or file p 0)) (λ p l.
      subst (Ruled F code) (fun_ext λ j. fun_ext λ c. mul_comm F L (get_or file p 0) (factor p j c))
      (ruled_multiple F L code (get_or file p 0) (factor p) (stripe_ruled F code (factors p l).0 (factor p) (factors p l).2)))

  -- at a data cell of the first k nodes the one factor that is not 0 is that of its own place
  weighted_starts : (j t : ℕ) → j < code.k → t < code.m → weighted j t ≡ get_or file (j * code.m + t) 0
  unfolding weighted
  weighted_starts j t lj lt = sum_single F L (code.k * code.m) here term inside (L.mul_below (factor here j t) (get_or file here 0)) others ∙ there
    where
      here : ℕ
      here = j * code.m + t

      inside : here < code.k * code.m
      inside = place_below code.k code.m j t lj lt

      term : ℕ → ℕ
      term p = F.mul (factor p j t) (get_or file p 0)

      others : (p : ℕ) → p < code.k * code.m → (p ≡ here → ⊥) → term p ≡ 0
      others p l away =
          ap (λ u. F.mul u (get_or file p 0)) ((factors p l).2.starts j t lj lt ∙ (factors p l).1.elsewhere here (λ e. away (sym e)))
          ∙ zero-mul F L (get_or file p 0)

      there : term here ≡ get_or file here 0
      there =
          ap (λ u. F.mul u (get_or file here 0)) ((factors here inside).2.starts j t lj lt ∙ (factors here inside).1.there)
          ∙ one-mul F L (get_or file here 0) (file_below F L code file I here)

pub weighted_sum : WeightedSum
unfolding weighted
weighted_sum F L code file x factor I X factors =
    stripe_unique F L code file x (weighted F L code file factor I factors) X
    (ruled_stripe F code file (weighted F L code file factor I factors)
    (weighted_ruled F L code file factor I factors) (weighted_starts F L code file factor I factors))
