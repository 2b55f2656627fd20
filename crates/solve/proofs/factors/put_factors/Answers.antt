use Rattle.std.proofs.Common.{◌≡◌, ℕ, ◌*◌, ◌<◌, [], get_or, take, ap, arith}
use Rattle.std.proofs.lemmas.List.{get_or-take}
use Rattle.code.proofs.Places.{place_below}
use Rattle.solve.proofs.UnitFiles.{factor_step}
use Rattle.solve.proofs.factors.put_factors.Goals as goal

pub loop-j-preserved : goal.loop-j-preserved
loop-j-preserved g c =
    let code = c.args.code.now in
    let l : c.loop-j.j < c.args.code.now.k = omega arith in
    let e : c.loop-j.j * c.data_columns-m.result ≡ c.loop-j.j * c.args.code.now.m = ap (λ t. c.loop-j.j * t) c.data_columns-m.ensures in
    let at : get_or (take c.data_nodes.result c.args.table.now) c.loop-j.j [] ≡ get_or c.args.table.now c.loop-j.j [] =
    get_or-take c.data_nodes.result c.args.table.now c.loop-j.j [] (omega arith) in
    let f : ℕ → ℕ = λ j. g.F.Field.ops.mul c.args.scale (get_or (get_or c.args.table.now j []) c.args.w 0) in
    factor_step c.data_columns-m.result c.args.t c.loop-j.j c.times.result f c.args.row.now c.loop-j.row (omega arith)
    (omega (arith, place_below code.k code.m c.loop-j.j c.args.t l c.requires.data_column)) (cc) c.loop-j.invariant.0 c.loop-j.invariant.1
