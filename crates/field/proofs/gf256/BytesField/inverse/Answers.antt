-- No number inverts 0; the inverse of another byte has the exponent that is missing to 255.
use Rattle.std.proofs.Common.{sym, ◌∙◌}
use Rattle.field.specs.Bytes.{product}
use Rattle.field.specs.ReciprocalsLemmas.{reciprocal_zero}
use Rattle.field.specs.BytesRing.{product_zero_left}
use Rattle.field.specs.BytesTables.{reciprocal_by_exponent}
use Rattle.field.proofs.gf256.BytesField.inverse.Goals as goal

pub returns-then-a-eq0 : goal.returns-then-a-eq0
returns-then-a-eq0 c =
    sym (reciprocal_zero 256 product c.args.u
    (λ s. product_zero_left c.args.u s (sym c.operand-a.ensures ∙ c.if-a-eq0.true)))

pub returns : goal.returns
returns c =
    c.power_of_two.ensures
    ∙ sym (reciprocal_by_exponent c.args.u c.logarithm.result c.logarithm.ensures.below
    (c.logarithm.ensures.right ∙ c.operand-a.ensures))
