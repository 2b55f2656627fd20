use Rattle.solve.proofs.Deciding.{built_from}
use Rattle.solve.proofs.reading.solve.Goals as goal

pub returns-clause-built : goal.returns-clause-built
returns-clause-built g c =
    built_from g.F.Field.ops g.met.F.Field.laws c.args.code.now (g.S.Store.meaning c.args.store.now).cell c.in_ok-cells.cells c.in_ok-cells.ensures
    c.build.new.equations.numbers.now c.build.result c.build.ensures.built
