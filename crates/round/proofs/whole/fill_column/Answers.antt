use Rattle.std.proofs.Common.{refl, ◌∙◌}
use Rattle.std.proofs.lemmas.Result.{err_from_is_err_and}
use Rattle.round.proofs.Fetches.{cell_inside, fetches_on, fetches_all, fetches_none}
use Rattle.round.proofs.whole.fill_column.Goals as goal

pub bounds-cells-node : goal.bounds-cells-node
bounds-cells-node g c =
    let r = c.args.round in
    cell_inside g.F.Field.ops r.code r.node c.args.cells.now c.loop-next.round c.loop-next.invariant.0 c.wanted-node.result
    c.columns-columns.result c.columns-columns.ensures c.wanted-node.ensures c.requires.long

pub loop-next-preserved : goal.loop-next-preserved
loop-next-preserved g c =
    let r = c.args.round in
    let on = fetches_on g.F.Field.ops r.code r.node c.args.cells.now c.loop-next.round c.loop-next.invariant.0 c.wanted-node.result
    c.columns-columns.result c.columns-columns.ensures c.wanted-node.ensures
    _ refl c.in_ok-next.field-0 c.in-Wanting.next c.in_ok-next.ensures c.in-Wanting.is in
    (on.0, on.1 ∙ c.loop-next.invariant.1)

pub returns-in-Holding : goal.returns-in-Holding
returns-in-Holding g c =
    let r = c.args.round in
    let on = fetches_all g.F.Field.ops r.code r.node c.args.cells.now c.loop-next.round c.loop-next.invariant.0 c.wanted-node.result
    c.columns-columns.result c.columns-columns.ensures c.wanted-node.ensures
    _ refl c.in_ok-next.field-0 c.in-Holding.holding c.in_ok-next.ensures c.in-Holding.is in
    (on.0 ∙ c.loop-next.invariant.1, on.1)

pub returns-in_err-next : goal.returns-in_err-next
returns-in_err-next g c =
    let r = c.args.round in
    let why = c.in_err-next.ensures in
    let p = err_from_is_err_and c.from_residual.result c.from_residual.ensures.1 in
    rw p.1 (
      p.2 ∙ why.why,
      fetches_none g.F.Field.ops r.code r.node c.args.cells.now c.loop-next.round c.loop-next.invariant.0
          c.wanted-node.result c.columns-columns.result c.columns-columns.ensures c.wanted-node.ensures _ refl why.no_symbol,
    )
