-- A factor 0 gives 0; otherwise the exponents add up.
use Rattle.std.proofs.Common.{sym, ◌∙◌, inl, inr}
use Rattle.field.specs.BytesRing.{product_zero_left, product_zero_right}
use Rattle.field.specs.BytesTables.{product_by_exponents}
use Rattle.field.proofs.gf256.BytesField.product.Goals as goal

pub returns-then-a-eq0 : goal.returns-then-a-eq0
returns-then-a-eq0 c =
    elim c.then-a-eq0.either [
      | inl h ↦ sym (product_zero_left c.args.u c.args.v (sym c.operand-a.ensures ∙ h))
      | inr h ↦ sym (product_zero_right c.args.u c.args.v (sym c.operand-b.ensures ∙ h.1))
    ]

pub returns : goal.returns
returns c =
    c.power_of_two.ensures
    ∙ sym (product_by_exponents c.args.u c.args.v c.logarithm.result c.logarithm-2.result
    (c.logarithm.ensures.right ∙ c.operand-a.ensures) (c.logarithm-2.ensures.right ∙ c.operand-b.ensures))
