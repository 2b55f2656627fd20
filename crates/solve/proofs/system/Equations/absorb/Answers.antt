use Rattle.std.proofs.Common.{slice_index}
use Rattle.solve.specs.Systems.{entry}
use Rattle.solve.proofs.Steps.{absorbed_zero, absorbed_not, absorbed_some}
use Rattle.solve.proofs.system.Equations.absorb.Goals as goal

pub returns-in-None-clause-absorbed : goal.returns-in-None-clause-absorbed
returns-in-None-clause-absorbed g c =
    absorbed_zero _ g.F.Field.ops g.met.F.Field.laws c.args.self.now.n c.args.known.now (entry c.args.self.now.n c.args.self.now.numbers.now)
    (λ j. slice_index c.args.row.now j) (λ j. slice_index c.reduce.new.row j) c.requires.reduced c.requires.marked c.reduce.ensures c.in-None.ensures c.if-row-self-eq0.true

pub returns-in-None-2-clause-absorbed : goal.returns-in-None-2-clause-absorbed
returns-in-None-2-clause-absorbed g c =
    absorbed_not g.F.Field.ops g.met.F.Field.laws c.args.self.now.n c.args.known.now (entry c.args.self.now.n c.args.self.now.numbers.now)
    (λ j. slice_index c.args.row.now j) (λ j. slice_index c.reduce.new.row j) c.requires.reduced c.requires.marked c.reduce.ensures c.in-None-2.ensures c.if-row-self-eq0.false

pub returns-in-Some-clause-absorbed : goal.returns-in-Some-clause-absorbed
returns-in-Some-clause-absorbed g c =
    absorbed_some _ g.F.Field.ops g.met.F.Field.laws c.args.self.now.n c.args.known.now (entry c.args.self.now.n c.args.self.now.numbers.now)
    (entry c.args.self.now.n c.install.new.self.numbers.now) (λ j. slice_index c.args.row.now j) (λ j. slice_index c.reduce.new.row j) c.in-Some.c
    c.requires.reduced c.requires.marked c.reduce.ensures c.in-Some.ensures.0 c.in-Some.ensures.1 c.install.ensures.installed
