use Rattle.std.proofs.Common.{◌/◌, ◌%◌, ◌<◌, sym, subst, arith}
use Rattle.code.specs.Stripe.{width}
use Rattle.solve.specs.Systems.{entry}
use Rattle.solve.specs.Cells.{Took}
use Rattle.code.proofs.Places.{place_parts}
use Rattle.solve.proofs.Places.{width_positive}
use Rattle.solve.proofs.Meeting.{took_cell, equation_below}
use Rattle.solve.proofs.taking.Listing.take_cell.Goals as goal

pub absorb-requires-clause-below : goal.absorb-requires-clause-below
absorb-requires-clause-below g c = λ i l.
    let code = c.args.self.now.code.now in
    let at = place_parts code.n (width code) c.args.x (width_positive code) c.requires.inside in
    let w = sym c.columns-columns.ensures in
    equation_below g.F.Field.ops g.met.F.Field.laws code (c.args.x / c.columns-columns.result) (c.args.x % c.columns-columns.result)
    c.in-Some.value c.equation.new.row (subst (λ t. c.args.x / t < code.n) w at.0) (subst (λ t. c.args.x % t < width code) w at.1)
    (c.args.self.now.symbols c.args.x c.in-Some.value c.requires.inside c.in-Some.is) c.equation.ensures i (omega (arith, c.requires.length))

pub returns-clause-took : goal.returns-clause-took
returns-clause-took g c =
    let F = g.F.Field.ops in
    let code = c.args.self.now.code.now in
    let cells = c.args.self.now.cells.now in
    let before = c.args.equations.now.numbers.now in
    let after = c.absorb.new.self.numbers.now in
    subst (λ t. Took F code cells c.args.known.now c.args.x (entry t before) c.absorb.result (entry t after)) (sym c.requires.length)
    (took_cell F g.met.F.Field.laws code cells c.args.known.now c.args.x c.args.equations.now.n c.columns-columns.result c.in-Some.value c.equation.new.row
    (λ n. entry n before) (λ n. entry n after) c.absorb.result c.requires.length c.columns-columns.ensures c.in-Some.is c.equation.ensures c.absorb.ensures.absorbed)
