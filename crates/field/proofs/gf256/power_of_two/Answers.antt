-- The code's table is the list of powers that antt computes.
use Rattle.std.proofs.Common.{◌∙◌}
use Rattle.field.specs.Polynomials.{xtime, times}
use Rattle.field.specs.Bytes.{product}
use Rattle.field.specs.Tables.{multiples}
use Rattle.field.specs.BytesTables.{powers, powers_rule}
use Rattle.field.proofs.gf256.power_of_two.Goals as goal

pub returns : goal.returns
unfolding powers multiples product times xtime
returns c = c.from.ensures ∙ powers_rule c.args.e c.requires
