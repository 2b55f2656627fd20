-- Each file has exactly one stripe, and stripes are linear.
use Rattle.std.proofs.Common.{◌≡◌, ℕ, ◌+◌, ◌*◌, ◌/◌, ◌%◌, ◌<◌, List, get_or, sym, ap, ◌∙◌, ap₂, arith}
use Rattle.field.specs.Laws.{Operations, Laws, power}
use Rattle.algebra.specs.Vandermonde.{Completes}
use Rattle.algebra.proofs.Numbers.{syndrome_generator}
use Rattle.algebra.proofs.Vandermonde.{vandermonde_completes, plain_points}
use Rattle.code.specs.declared.record.Code.{Code}
use Rattle.code.specs.Stripe.{Symbols, IsFile, StripeOf, SameCells, ColumnRule, OneStripe, width}
use Rattle.code.proofs.Places.{place_below}
use Rattle.theorems.specs.Linear.{HasSymbols, Linear}
use Rattle.theorems.proofs.Ruled.{Ruled, Additive, add_additive, sub_additive, mul_additive, stripe_ruled, ruled_both, ruled_difference, ruled_same, same_start, zero_start, with_coded, with_coded_data, with_coded_ruled}
use Rattle.theorems.proofs.Files.{file_below, ruled_stripe, same_file, place_node}

-- Existence: each data column is the completion of the file's symbols in it, and the coded columns are the groups' sums.
module _ (F : Operations) (L : Laws F) (code : Code) (file : List ℕ) (I : IsFile F code file) where
  column : (t : ℕ) → (y : ℕ → ℕ) × Completes F code.n code.k (power F F.α) (λ j. get_or file (j * code.m + t) 0) y
  column t =
      (vandermonde_completes F L code.n code.k (omega (arith, code.data_nodes.1)) (power F F.α)
      (plain_points F L code.n code.nodes.1) (λ j. get_or file (j * code.m + t) 0)
      (λ j l. file_below F L code file I (j * code.m + t))).0

  data_cells : Symbols
  data_cells j t = (column t).0 j

  data_rule : ColumnRule F code data_cells
  unfolding data_cells
  data_rule t i lt li = syndrome_generator F L code.n (column t).0 i ∙ (column t).1.vanishes i li

  -- the stripe of the file
  pub stripe_of : Symbols
  stripe_of = with_coded F L code data_cells

  pub stripe_exists : StripeOf F code file stripe_of
  unfolding stripe_of data_cells
  stripe_exists =
      ruled_stripe F code file (with_coded F L code data_cells)
      (with_coded_ruled F L code data_cells (λ j t lj lt. (column t).1.below j lj) data_rule)
      (λ j t lj lt. with_coded_data F L code data_cells j t lt ∙ (column t).1.starts j lj)

-- Two stripes of one file have the same cells.
pub stripe_unique : (F : Operations) → Laws F → (code : Code) (file : List ℕ) (x y : Symbols)
    → StripeOf F code file x → StripeOf F code file y → SameCells code x y
stripe_unique F L code file x y X Y =
    same_start F L code x y (stripe_ruled F code file x X) (stripe_ruled F code file y Y)
    (λ j t lj lt. X.starts j t lj lt ∙ sym (Y.starts j t lj lt))

pub one_stripe : OneStripe
one_stripe F L code file I = ((stripe_of F L code file I, stripe_exists F L code file I), stripe_unique F L code file)

-- What has the cells of a stripe is a stripe of the same file.
pub stripe_same : (F : Operations) → Laws F → (code : Code) (file : List ℕ) (x y : Symbols) → SameCells code x y
    → StripeOf F code file x → StripeOf F code file y
stripe_same F L code file x y same X =
    ruled_stripe F code file y (ruled_same F L code x y same (stripe_ruled F code file x X))
    (λ j t lj lt. sym (same j t (omega (arith, code.data_nodes)) (omega arith)) ∙ X.starts j t lj lt)

-- Files whose stripes agree in the data columns of the first k nodes are the same.
pub stripe_determines_file : (F : Operations) (code : Code) (u v : List ℕ) (x y : Symbols) → IsFile F code u → IsFile F code v
    → StripeOf F code u x → StripeOf F code v y → ((j t : ℕ) → j < code.k → t < code.m → x j t ≡ y j t) → u ≡ v
stripe_determines_file F code u v x y U V X Y agree = same_file F code u v U V symbols
  where
    symbols : HasSymbols code (λ p. get_or v p 0) u
    symbols p l =
        let at = place_node code p l in
        ap (λ o. get_or u o 0) (sym at.2)
        ∙ sym (X.starts (p / code.m) (p % code.m) at.0 at.1)
        ∙ agree (p / code.m) (p % code.m) at.0 at.1
        ∙ Y.starts (p / code.m) (p % code.m) at.0 at.1
        ∙ ap (λ o. get_or v o 0) at.2

-- The stripe of a file of zeros is 0 in every cell.
pub zero_file : (F : Operations) → Laws F → (code : Code) (file : List ℕ) (x : Symbols)
    → StripeOf F code file x → HasSymbols code (λ p. 0) file → (j c : ℕ) → j < code.n → c < width code → x j c ≡ 0
zero_file F L code file x X zeros =
    zero_start F L code x (stripe_ruled F code file x X)
    (λ j t lj lt. X.starts j t lj lt ∙ zeros (j * code.m + t) (place_below code.k code.m j t lj lt))

-- The cell-wise difference of two stripes keeps both rules.
pub stripe_difference : (F : Operations) → Laws F → (code : Code) (u v : List ℕ) (x y : Symbols)
    → StripeOf F code u x → StripeOf F code v y → Ruled F code (λ j c. F.sub (x j c) (y j c))
stripe_difference F L code u v x y X Y =
    ruled_difference F L code x y (stripe_ruled F code u x X) (stripe_ruled F code v y Y)

-- What an additive operation makes of two stripes is the stripe of what it makes of their files.
pub stripe_both : (F : Operations) → Laws F → (code : Code) (op : ℕ → ℕ → ℕ) → Additive F op → (u v w : List ℕ) (x y : Symbols)
    → StripeOf F code u x → StripeOf F code v y → HasSymbols code (λ p. op (get_or u p 0) (get_or v p 0)) w
    → StripeOf F code w (λ j c. op (x j c) (y j c))
stripe_both F L code op A u v w x y X Y at =
    ruled_stripe F code w (λ j c. op (x j c) (y j c))
    (ruled_both F L code op A x y (stripe_ruled F code u x X) (stripe_ruled F code v y Y))
    (λ j t lj lt. ap₂ op (X.starts j t lj lt) (Y.starts j t lj lt)
    ∙ sym (at (j * code.m + t) (place_below code.k code.m j t lj lt)))

pub stripes_linear : Linear
stripes_linear F L code = record {
  sums = λ u v w x y U V W X Y at. stripe_both F L code F.add (add_additive F L) u v w x y X Y at;
  differences = λ u v w x y U V W X Y at. stripe_both F L code F.sub (sub_additive F L) u v w x y X Y at;
  multiples = λ s u w x l U W X at. stripe_both F L code (λ a b. F.mul s a) (mul_additive F L s) u u w x x X X at;
}
