use Rattle.std.proofs.Common.{rules, ◌≡◌, ◌*◌, Ok, Err, ◌∙◌, subst, ap₂, arith}
use Rattle.solve.specs.Systems.{entry}
use Rattle.solve.specs.Cells.{Took}
use Rattle.solve.proofs.Meeting.{took_more, took_stop}
use Rattle.solve.proofs.taking.Listing.take_cells.Goals as goal

pub returns-in_err-take_cell-clause-took : goal.returns-in_err-take_cell-clause-took
returns-in_err-take_cell-clause-took g c =
    let F = g.F.Field.ops in
    let code = c.args.self.now.code.now in
    let cells = c.args.self.now.cells.now in
    let known = c.args.known.now in
    let N = c.args.equations.now.n in
    let x = c.loop-x.x in
    let took = subst (λ t. Took F code cells known x (entry t c.loop-x.equations.numbers.now) (Err c.in_err-take_cell.field-0.0) (entry t c.take_cell.new.equations.numbers.now))
    c.loop-x.invariant.0 c.in_err-take_cell.ensures.took in
    let same : c.from_residual.result ≡ Err c.in_err-take_cell.field-0.0 = search rules in
    rw same (took_stop F code cells known (entry N c.args.equations.now.numbers.now) c.requires.met c.in_err-take_cell.field-0.0 x (entry N c.loop-x.equations.numbers.now)
    (entry N c.take_cell.new.equations.numbers.now) (omega (arith, ap₂ ◌*◌ c.nodes.ensures c.columns.ensures)) c.loop-x.invariant.2 took)

pub loop-x-preserved : goal.loop-x-preserved
loop-x-preserved g c =
    let F = g.F.Field.ops in
    let code = c.args.self.now.code.now in
    let cells = c.args.self.now.cells.now in
    let known = c.args.known.now in
    let N = c.args.equations.now.n in
    let x = c.loop-x.x in
    let took = subst (λ t. Took F code cells known x (entry t c.loop-x.equations.numbers.now) (Ok c.in_ok-take_cell.field-0) (entry t c.take_cell.new.equations.numbers.now))
    c.loop-x.invariant.0 c.in_ok-take_cell.ensures.took in (
      c.take_cell.ensures.size ∙ c.loop-x.invariant.0,
      c.take_cell.ensures.memory ∙ c.loop-x.invariant.1,
      took_more F code cells known (entry N c.args.equations.now.numbers.now) c.requires.met c.in_ok-take_cell.field-0 x (entry N c.loop-x.equations.numbers.now)
          (entry N c.take_cell.new.equations.numbers.now) (omega (arith, ap₂ ◌*◌ c.nodes.ensures c.columns.ensures)) c.loop-x.invariant.2 took,
    )
