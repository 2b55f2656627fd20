-- The code's table is the list of exponents that antt computes.
use Rattle.std.proofs.Common.{rules}
use Rattle.field.specs.Polynomials.{xtime, times}
use Rattle.field.specs.Bytes.{product}
use Rattle.field.specs.Tables.{multiples, place, values}
use Rattle.field.specs.BytesTables.{powers, exponents, exponents_rule}
use Rattle.field.proofs.gf256.logarithm.Goals as goal

pub returns : goal.returns
unfolding exponents values place powers multiples product times xtime
returns c =
    let rule = exponents_rule c.args.u (search rules) (search rules) in
    record { below = rule.0; right = rule.1 }
