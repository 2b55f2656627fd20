-- The code's table is the list of inverses that antt computes.
use Rattle.std.proofs.Common.{ℕ, get_or, ap, ◌∙◌}
use Rattle.field.specs.Tables.{values}
use Rattle.field.specs.PrimeLaws.{inverses, inverses_rule, ones_power, square_times}
use Rattle.field.proofs.gf257.PrimeField.inverse.Goals as goal

pub returns : goal.returns
unfolding inverses values ones_power square_times
returns c = ap (λ (x : ℕ). get_or inverses x 0) c.operand.ensures ∙ inverses_rule c.args.u
