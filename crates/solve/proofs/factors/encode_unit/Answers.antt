use Rattle.std.proofs.Common.{rules, arith, rules}
use Rattle.solve.proofs.UnitFiles.{unit_encoded}
use Rattle.solve.proofs.factors.encode_unit.Goals as goal

pub returns : goal.returns
returns g c =
    unit_encoded g.F.Field.ops g.met.F.Field.laws c.args.code.now c.args.j c.data_columns.result c.fill.new.self
    c.args.cells.now c.encode.new.cells c.encode.result c.data_columns.ensures c.requires.node (omega arith) (λ o l. search rules) (search rules) c.encode.ensures
