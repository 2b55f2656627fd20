-- The laws of the field of bytes.
use Rattle.std.specs.Prelude.{◌≡◌, ℕ, ◌<◌, ◌≢◌, slice_index_or}
use Rattle.std.proofs.Common.{sym, ap, ◌∙◌, arith, lit<, lit≤}
use Rattle.field.specs.Laws.{Laws}
use Rattle.field.specs.Reciprocals.{reciprocal}
use Rattle.field.specs.Bytes.{bytes, product}
use Rattle.field.specs.Operands.{symbol_of}
use Rattle.field.specs.ReciprocalsLemmas.{reciprocal_below, reciprocal_operand, reciprocal_zero}
use Rattle.field.specs.BytesRing as ring
use Rattle.field.specs.BytesTables.{exponents, exponents_rule, reciprocal_by_exponent, inverse_by_exponent}
use Rattle.field.specs.BytesTables.{powers_differ}

inverts : (u : ℕ) → u < 256 → (u ≢ 0) → product u (reciprocal product 256 u) ≡ 1
inverts u hu nonzero =
    let d : ℕ = slice_index_or exponents u 0 in
    let positive : 0 < u = omega arith in
    let rule = exponents_rule u positive hu in
    ap (product u) (reciprocal_by_exponent u d rule.0 (rule.1 ∙ sym (symbol_of 256 u hu)))
    ∙ inverse_by_exponent u d rule.0 rule.1

pub bytes_laws : Laws bytes
bytes_laws = record {
  one_below = lit< tt;
  size_bound = lit≤ tt;
  generator_below = lit< tt;
  add_below = ring.sum_below;
  sub_below = ring.sum_below;
  mul_below = ring.product_below;
  inv_below = λ u. reciprocal_below product 256 u (lit< tt);
  add_operands = ring.sum_operands;
  sub_operands = ring.sum_operands;
  mul_operands = ring.product_operands;
  inv_operand = reciprocal_operand 256 product (lit< tt) ring.product_operands;
  inv-zero = reciprocal_zero 256 product 0 (λ s. ring.product_zero_left 0 s (symbol_of 256 0 (lit< tt)));
  add_comm = ring.sum_comm;
  add_assoc = ring.sum_assoc;
  add-zero = ring.sum-zero;
  add-sub = ring.sum_twice;
  sub-add = ring.sum_twice;
  mul_comm = ring.product_comm;
  mul_assoc = ring.product_assoc;
  mul-one = ring.product-one;
  mul-add = ring.product-sum;
  mul-inv = inverts;
  powers_differ = powers_differ;
}
