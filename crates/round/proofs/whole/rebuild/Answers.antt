use Rattle.std.proofs.Common.{◌≡◌, ◌*◌, ◌≤◌, ◌++◌, length, drop, Ok, ap, ◌∙◌, arith}
use Rattle.code.specs.Stripe.{width}
use Rattle.round.specs.Rebuild.{mended}
use Rattle.round.proofs.Mending.{mended_stripe}
use Rattle.round.proofs.Refusing.{none_refused, front_is, runs_for}
use Rattle.round.proofs.whole.rebuild.Goals as goal

pub returns : goal.returns
returns g c =
    let F = g.F.Field.ops in
    let code = c.args.code.now in
    let f = c.args.node in
    let cells = c.args.cells.now in
    let out = c.args.out.now in
    let w = c.in_ok-begin.field-0 in
    let begun = c.in_ok-begin.ensures in
    let ran = runs_for F w.code code w.node f cells (Ok (c.in_ok-count.count, c.in_ok-count.symbols))
    begun.1.code_is begun.1.node_is c.in_ok-count.ensures in
    let k = c.columns-columns.ensures in
    let n = c.nodes.ensures in
    let long : code.n * width code ≤ length cells = rw (← k, ← n) (omega arith) in
    let room : width code ≤ length out = rw (← k) (omega arith) in
    let front = front_is F code f cells c.in_ok-count.symbols (omega (arith, ran.1)) ran.3 in
    let after = c.copy_from_slice.ensures.after in
    let written : c.copy_from_slice.new.self ++ drop c.columns-columns.result out ≡ mended F code f cells ++ drop (width code) out = cc in
    record {
      made = (none_refused F code f cells out long room begun.0 ran.2, ran.0, written);
      stripe = λ file x S has.
          written ∙ ap (λ y. y ++ drop (width code) out) (mended_stripe F g.met.F.Field.laws code f begun.0 cells file x S has);
    }
