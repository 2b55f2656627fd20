use Rattle.std.proofs.Common.{set, sym, subst, arith}
use Rattle.solve.specs.Factors.{IsEquation}
use Rattle.solve.proofs.UnitFiles.{equation_step, equation_made}
use Rattle.solve.proofs.factors.equation.Goals as goal

pub loop-t-preserved : goal.loop-t-preserved
loop-t-preserved g c =
    equation_step g.F.Field.ops c.args.code.now c.args.v c.args.c c.loop-t.t c.weight-w.result.0 c.weight-w.result.1
    c.args.table.now c.loop-t.row c.put_factors.new.row (omega arith) c.requires.table c.weight-w.ensures
    c.put_factors.ensures.made c.put_factors.ensures.kept c.loop-t.invariant

pub returns : goal.returns
returns g c =
    let code = c.args.code.now in
    subst (λ t. IsEquation g.F.Field.ops code c.args.v c.args.c t (set c.loop-t.row c.file_length.result c.from.result)) c.from.ensures
    (subst (λ t. IsEquation g.F.Field.ops code c.args.v c.args.c c.from.result (set c.loop-t.row t c.from.result)) (sym c.file_length.ensures)
    (equation_made g.F.Field.ops code c.args.v c.args.c c.from.result c.loop-t.row (omega arith)
    (λ j s y lj ls Y. c.loop-t.invariant j s y lj (omega arith) Y)))
