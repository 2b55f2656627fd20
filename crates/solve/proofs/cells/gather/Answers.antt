use Rattle.std.proofs.Common.{◌≡◌, ◌*◌, sym, ap, ◌∙◌, arith}
use Rattle.solve.proofs.Gathering.{foreign_answer}
use Rattle.solve.proofs.cells.gather.Goals as goal

pub returns-in-Some : goal.returns-in-Some
returns-in-Some g c =
    let e : c.nodes.result * c.columns-columns.result ≡ c.args.code.now.n * c.columns-columns.result = ap (λ t. t * c.columns-columns.result) c.nodes.ensures in
    foreign_answer g.F.Field.ops c.args.code.now (g.S.Store.meaning c.args.store.now).cell c.loop-x.x c.in-Some.v
    c.columns-columns.result c.loop-x.cells c.columns-columns.ensures (omega arith) c.loop-x.invariant.1 (sym c.cell.ensures ∙ c.in-Some.is)
    (omega (arith, g.met.F.Field.size))
