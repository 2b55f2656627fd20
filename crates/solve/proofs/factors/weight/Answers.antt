use Rattle.std.proofs.Common.{arith}
use Rattle.solve.proofs.UnitFiles.{weight_other, weight_coded}
use Rattle.solve.proofs.factors.weight.Goals as goal

pub returns-else-c-t : goal.returns-else-c-t
returns-else-c-t g c =
    weight_other g.F.Field.ops g.met.F.Field.laws c.args.code.now c.args.v c.args.c c.args.t c.requires.node (omega arith) c.requires.data_column c.if-c-t.false

pub returns : goal.returns
returns g c =
    weight_coded g.F.Field.ops g.met.F.Field.laws c.args.code.now c.args.v c.args.c c.args.t c.data_columns-m.result _ _
    c.data_columns-m.ensures c.requires.node c.requires.column c.requires.data_column (omega arith) (cc) (cc (g.met.F.Field.generator))
