use Rattle.round.proofs.Fetches.{collects_on, collects_all}
use Rattle.round.proofs.whole.run.Goals as goal

pub loop-holding-preserved : goal.loop-holding-preserved
loop-holding-preserved g c =
    let r = c.args.round in
    collects_on g.F.Field.ops r.code r.node c.args.cells.now _ c.loop-holding.round c.loop-holding.invariant
    c.in_ok-holding.holding c.in_ok-holding.ensures _ _ _ c.column-column.ensures c.take-symbol.ensures
    c.in-Wanting.next c.in-Wanting.is

pub returns-in-Over : goal.returns-in-Over
returns-in-Over g c =
    let r = c.args.round in
    collects_all g.F.Field.ops r.code r.node c.args.cells.now _ c.loop-holding.round c.loop-holding.invariant
    c.in_ok-holding.holding c.in_ok-holding.ensures _ _ _ c.column-column.ensures c.take-symbol.ensures
    c.in-Over.over c.in-Over.is _ c.given.ensures
