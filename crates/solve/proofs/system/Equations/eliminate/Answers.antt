use Rattle.std.proofs.Common.{◌<◌, refl, arith}
use Rattle.solve.proofs.Steps.{OutUpTo, out_skip, out_pass, out_row}
use Rattle.solve.proofs.system.Equations.eliminate.Goals as goal
use Rattle.solve.proofs.system.Equations.eliminate.Goals.{then-s-c, else-s-c}

pub loop-s-preserved : goal.loop-s-preserved
loop-s-preserved g c =
    let F = g.F.Field.ops in
    let L = g.met.F.Field.laws in
    let N = c.args.self.now.n in
    let before = c.args.self.now.numbers.now in
    let lc : c.args.c < c.args.self.now.n = omega arith in
    let low : c.in-Some.s < c.args.self.now.n = omega (arith, c.in-Some.ensures) in
    let skipped : OutUpTo g.F.Field.ops c.args.self.now.n c.args.c c.in-Some.s c.args.self.now.numbers.now c.loop-s.numbers =
    out_skip F L N c.args.c lc before c.loop-s.numbers c.loop-s.from c.in-Some.s c.in-Some.ensures.0 (omega arith)
    c.requires.below c.in-Some.ensures.3 c.loop-s.invariant.1 in (
      omega arith,
      elim c.if-s-c.branch [
        | then-s-c w ↦
            rw w.numbers-is (out_row F L N c.args.c lc before w.subtract_row.new.work c.in-Some.s _ c.loop-s.numbers
            w.if-s-c.true refl skipped w.subtract_row.ensures)
        | else-s-c w ↦ rw w.numbers-is (out_pass F L N c.args.c lc before c.loop-s.numbers c.in-Some.s w.if-s-c.false skipped)
      ],
    )

pub returns-clause-others : goal.returns-clause-others
returns-clause-others g c =
    let N = c.args.self.now.n in
    (out_skip g.F.Field.ops g.met.F.Field.laws N c.args.c (omega arith) c.args.self.now.numbers.now c.loop-s.numbers c.loop-s.from N
    c.loop-s.invariant.0 (omega arith) c.requires.below (λ i h l. c.in_default.ensures i h (omega arith)) c.loop-s.invariant.1).done
