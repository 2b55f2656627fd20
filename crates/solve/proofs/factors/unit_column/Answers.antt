use Rattle.std.proofs.Common.{rules, ◌∙◌, arith}
use Rattle.std.proofs.lemmas.List.{places}
use Rattle.solve.proofs.UnitFiles.{column_made}
use Rattle.solve.proofs.factors.unit_column.Goals as goal

pub returns : goal.returns
returns g c =
    column_made g.F.Field.ops g.met.F.Field.laws c.args.code.now c.args.j c.columns-columns.result c.encode_unit.new.cells _
    c.requires c.columns-columns.ensures (λ v l. search (rules, places) ∙ c.loop-v.invariant v (omega arith)) c.encode_unit.ensures
