use Rattle.std.proofs.Common.{rules, ◌≡◌, ◌+◌, ◌*◌, ◌<◌, get_or, None, sym, ap, ◌∙◌, arith}
use Rattle.solve.proofs.Loading.{cell_number, load_skip, load_enter_as}
use Rattle.solve.proofs.taking.Listing.load.Goals as goal
use Rattle.solve.proofs.taking.Listing.load.Goals.{in-Some, in_default}

pub loop-p-preserved : goal.loop-p-preserved
loop-p-preserved g c =
    let code = c.args.self.now.code.now in
    let cells = c.args.self.now.cells.now in
    let p = c.loop-p.p in
    let now = c.loop-p.equations in
    let inv = c.loop-p.invariant in
    let l : c.loop-p.p < c.args.self.now.code.now.k * c.args.self.now.code.now.m = omega arith in
    let at = cell_number code p c.data_columns-m.result c.columns-columns.result c.data_columns-m.ensures c.columns-columns.ensures in
    let length : c.loop-p.equations.n ≡ c.args.self.now.code.now.k * c.args.self.now.code.now.m = inv.0 ∙ c.requires.length in
    elim c.match-self-p.branch [
      | in-Some w ↦
          rw (w.equations-is, w.known-is) (
            w.enter.ensures.size ∙ inv.0,
            w.enter.ensures.memory ∙ inv.1,
            search rules,
            rw w.enter.ensures.entered
                (load_enter_as code cells p w.in-Some.value now.n now.numbers.now c.loop-p.known length l
                (ap (λ i. get_or cells i None) (sym at) ∙ w.in-Some.is) (now.square ∙ ap (λ t. t * (t + 1)) length) inv.2 inv.3),
          )
      | in_default w ↦
          rw (w.equations-is, w.known-is) (
            inv.0,
            inv.1,
            inv.2,
            load_skip code cells p now.numbers.now c.loop-p.known (ap (λ i. get_or cells i None) (sym at) ∙ w.in_default.is) inv.3,
          )
    ]
