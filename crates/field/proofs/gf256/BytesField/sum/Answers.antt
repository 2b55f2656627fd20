use Rattle.std.proofs.Common.{ap₂}
use lib.Bits.{bit_xor}
use Rattle.field.specs.Bytes.{sum}
use Rattle.field.proofs.gf256.BytesField.sum.Goals as goal

pub returns : goal.returns
unfolding sum
returns c = ap₂ bit_xor c.operand.ensures c.operand-2.ensures
