-- The tables of the code for bytes, as lists that antt computes, and the rule of each.
use Rattle.std.specs.Prelude.{◌≡◌, ℕ, zero, suc, ◌+◌, ◌-◌, ◌<◌, Bool, true, ◌&&◌, List, ◌∷◌, ◌==◌, nat_lt}
use Rattle.std.specs.Prelude.{slice_index, refl}
use Rattle.std.proofs.Common.{sym, ap, ap₂, ◌∙◌, subst, le_of_suc-le-suc, not-suc-le-zero, one-add, arith, lit<}
use Rattle.std.proofs.lemmas.Bool.{and_parts, eqb-true, ltb-true}
use Rattle.field.specs.Laws.{power, symbol}
use Rattle.field.specs.Polynomials.{xtime, times}
use Rattle.field.specs.Reciprocals.{reciprocal}
use Rattle.field.specs.Bytes.{bytes, product}
use Rattle.field.specs.Operands.{symbol_below}
use Rattle.field.specs.Powers.{power-add, power_below}
use Rattle.field.specs.Tables.{passes, passes_at, own_place, multiples, place, places, values_from, powers_at}
use Rattle.field.specs.Tables.{powers_apart}
use Rattle.field.specs.ReciprocalsLemmas.{reciprocal_is, reciprocal_operand}
use Rattle.field.specs.BytesRing.{multiplies, product_operands}

-- The powers of 2 with the exponents 0 to 509.
unfoldable pub powers : List ℕ
powers = multiples product 510 2 1

-- The exponent of each byte but 0, where 0 stands.
unfoldable pub exponents : List ℕ
exponents = 0 ∷ places powers 255 1

-- 1 + u stands among the first 255 of the list.
unfoldable stands : List ℕ → ℕ → Bool
stands list u = nat_lt (place (suc u) list) 255 && slice_index list (place (suc u) list) == suc u

bytes_stand : passes 255 (stands powers) ≡ true
unfolding stands powers multiples product times xtime place
bytes_stand = refl

stands_parts : (list : List ℕ) (u : ℕ) → stands list u ≡ true
    → (place (suc u) list < 255) × (slice_index list (place (suc u) list) ≡ suc u)
unfolding stands
stands_parts list u t =
    let parts = and_parts (nat_lt (place (suc u) list) 255) (slice_index list (place (suc u) list) == suc u) t in
    (ltb-true (place (suc u) list) 255 parts.0, eqb-true (slice_index list (place (suc u) list)) (suc u) parts.1)

pub powers_rule : (e : ℕ) → e < 510 → slice_index powers e ≡ power bytes 2 e
unfolding powers
powers_rule e h = powers_at bytes 2 510 e h

exponents_at : (u : ℕ) → u < 255 → slice_index exponents (suc u) ≡ place (suc u) powers
unfolding exponents
exponents_at u h = values_from (λ x. place x powers) 255 1 u h ∙ ap (λ (x : ℕ). place x powers) (one-add u)

-- The entry at a byte but 0 is below 255, and 2 to that power is the byte.
pub exponents_rule : (u : ℕ) → 0 < u → u < 256
    → (slice_index exponents u < 255) × (power bytes 2 (slice_index exponents u) ≡ u)
exponents_rule zero p h = absurd (not-suc-le-zero p)
exponents_rule (suc u) p h =
    let l : u < 255 = le_of_suc-le-suc h in
    let parts = stands_parts powers u (passes_at 255 (stands powers) bytes_stand u l) in
    let small : place (suc u) powers < 510 = omega arith in
    subst (λ (e : ℕ). (e < 255) × (power bytes 2 e ≡ suc u)) (sym (exponents_at u l))
    (parts.0, sym (powers_rule (place (suc u) powers) small) ∙ parts.1)

-- 2 to the power 255 is 1.
round : power bytes 2 255 ≡ 1
unfolding power product times xtime
round = refl

-- The product by the sum of the exponents.
pub product_by_exponents : (u v d e : ℕ) → power bytes 2 d ≡ symbol 256 u → power bytes 2 e ≡ symbol 256 v
    → product u v ≡ power bytes 2 (d + e)
product_by_exponents u v d e hd he =
    product_operands u v ∙ ap₂ product (sym hd) (sym he) ∙ sym (power-add bytes multiplies 2 d e (lit< tt))

-- The inverse by the exponent that is missing to 255.
pub inverse_by_exponent : (u d : ℕ) → d < 255 → power bytes 2 d ≡ u → product u (power bytes 2 (255 - d)) ≡ 1
inverse_by_exponent u d h hd =
    let whole : d + (255 - d) ≡ 255 = omega arith in
    ap (λ (x : ℕ). product x (power bytes 2 (255 - d))) (sym hd)
    ∙ sym (power-add bytes multiplies 2 d (255 - d) (lit< tt)) ∙ ap (power bytes 2) whole ∙ round

pub reciprocal_by_exponent : (u d : ℕ) → d < 255 → power bytes 2 d ≡ symbol 256 u
    → reciprocal product 256 u ≡ power bytes 2 (255 - d)
reciprocal_by_exponent u d h hd =
    reciprocal_operand 256 product (lit< tt) product_operands u
    ∙ reciprocal_is 256 product multiplies (symbol 256 u) (power bytes 2 (255 - d))
    (symbol_below 256 u (lit< tt)) (power_below bytes multiplies 2 (255 - d))
    (inverse_by_exponent (symbol 256 u) d h hd)

-- The powers 0 to 127 all differ.
apart : passes 128 (own_place (multiples product 128 2 1)) ≡ true
unfolding own_place multiples product times xtime place
apart = refl

pub powers_differ : (d e : ℕ) → d < 128 → e < 128 → power bytes 2 d ≡ power bytes 2 e → d ≡ e
powers_differ d e hd he same = powers_apart bytes 2 128 apart d e hd he same
