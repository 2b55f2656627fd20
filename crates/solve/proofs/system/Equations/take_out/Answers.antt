use Rattle.std.proofs.Common.{◌≡◌, ◌+◌, ◌-◌, ◌*◌, get_or, drop, ap, ◌∙◌, arith}
use Rattle.std.proofs.lemmas.List.{get_or-take, get_or-drop}
use Rattle.solve.specs.Systems.{entry}
use Rattle.solve.proofs.Steps.{take_known}
use Rattle.solve.proofs.system.Equations.take_out.Goals as goal

pub returns-then-known-p : goal.returns-then-known-p
returns-then-known-p g c =
    let F = g.F.Field.ops in
    let L = g.met.F.Field.laws in
    let known = c.requires.marked c.args.p c.requires.symbol c.if-known-p.true in
    take_known F L c.args.self.now.n c.args.p (entry c.args.self.now.n c.args.self.now.numbers.now c.args.p) c.args.row.now c.minus.result
    c.requires.symbol c.requires.row c.requires.below known.0 known.1 (cc)

pub returns-else-known-p : goal.returns-else-known-p
returns-else-known-p g c = λ j lj.
    let F = g.F.Field.ops in
    let a = c.args.p * (c.args.self.now.n + 1) in
    let width : c.args.p * (c.args.self.now.n + 1) + (c.args.self.now.n + 1) - c.args.p * (c.args.self.now.n + 1) ≡ c.args.self.now.n + 1 = omega arith in
    c.subtract_from.ensures j (omega arith)
    ∙ ap (λ x. F.sub (get_or c.args.row.now j 0) (F.mul (get_or c.args.row.now c.args.p 0) x))
    (get_or-take _ (drop a c.args.self.now.numbers.now) j 0 (rw width lj) ∙ get_or-drop a c.args.self.now.numbers.now j 0)
