-- The first foreign cell, by node and column, is the first in the list.
use Rattle.std.proofs.Common.{◌≡◌, ℕ, ◌+◌, ◌*◌, ◌/◌, ◌%◌, ◌<◌, ◌≤◌, List, Some, Option, Err, sym, refl, ap, subst, inl, inr, mul-le-mul_right, arith}
use Rattle.code.specs.declared.refusal.Refusal.TheVariants.{Foreign}
use Rattle.field.specs.Laws.{Operations}
use Rattle.code.specs.declared.record.Code.{Code}
use Rattle.code.specs.Stripe.{Held, width}
use Rattle.code.specs.Held.{Inside, ForeignAt, Before, First}
use Rattle.encode.specs.Encoding.{cell_count}
use Rattle.solve.specs.Cells.{Lists, Gathered}
use Rattle.code.proofs.Places.{place_parts}
use Rattle.solve.proofs.Places.{place_split, width_positive}

-- a cell that comes before has the smaller number
before_less : (w i d j c : ℕ) → d < w → c < w → Before i d j c → i * w + d < j * w + c
before_less w i d j c ld lc (inl l) = let m : i + 1 ≤ j = omega arith in omega (arith, mul-le-mul_right w m)
before_less w i d j c ld lc (inr (e, l)) = let m : i * w ≡ j * w = ap (λ t. t * w) e in omega arith

pub first_foreign : (F : Operations) (code : Code) (held : Held) (x : ℕ) (cells : List (Option ℕ)) → x < cell_count code → Lists F code held x cells
    → ForeignAt F held (x / width code) (x % width code)
    → First (Inside code) (ForeignAt F held) (x / width code) (x % width code)
first_foreign F code held x cells l lists here = ((at.0, at.1), here, none)
  where
    w : ℕ
    w = width code

    at : (x / w < code.n) × (x % w < w) × (x / w * w + x % w ≡ x)
    at = place_parts code.n w x (width_positive code) l

    none : (i d : ℕ) → Inside code i d → ForeignAt F held i d → Before i d (x / w) (x % w) → ⊥
    none i d inside foreign before =
        let low : i * w + d < x = omega (arith, before_less w i d (x / w) (x % w) inside.1 at.1 before, at.2) in
        let split = place_split code.n w i d inside.0 inside.1 in
        (lists (i * w + d) low).1 (subst (λ t. ForeignAt F held t ((i * w + d) % w)) (sym split.1) (subst (λ t. ForeignAt F held i t) (sym split.2) foreign))

-- the same, with the number of columns as the code computes it
pub foreign_answer : (F : Operations) (code : Code) (held : Held) (x v w : ℕ) (cells : List (Option ℕ)) → w ≡ width code → x < code.n * w
    → Lists F code held x cells → held (x / w) (x % w) ≡ Some v → F.q ≤ v
    → Gathered F code held (Err (Foreign (x / w) (x % w)))
foreign_answer F code held x v w cells e l lists is large =
    subst Answer (sym e) (λ l is. (x / width code, x % width code, refl, first_foreign F code held x cells l lists (v, is, large))) l is
  where
    Answer : ℕ → Type 0
    Answer w = x < code.n * w → held (x / w) (x % w) ≡ Some v → Gathered F code held (Err (Foreign (x / w) (x % w)))
