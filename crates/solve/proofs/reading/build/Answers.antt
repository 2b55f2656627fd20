use Rattle.std.proofs.Common.{false, replicate, sym, ◌∙◌, subst}
use Rattle.std.proofs.lemmas.List.{get_or-replicate}
use Rattle.solve.specs.Systems.{entry, Reduced}
use Rattle.solve.specs.Cells.{DataMet}
use Rattle.solve.proofs.Loading.{load_none, loaded_reduced, loaded_met}
use Rattle.solve.proofs.Deciding.{taken_built}
use Rattle.solve.proofs.reading.build.Goals as goal

pub load-requires-clause-blank : goal.load-requires-clause-blank
load-requires-clause-blank g c =
    load_none c.args.code.now c.args.cells.now c.clear.new.self.numbers.now (replicate 504 false) (λ i l. c.clear.ensures.zeros i) (λ p l. get_or-replicate 504 p false false l)

pub take_cells-requires-clause-reduced : goal.take_cells-requires-clause-reduced
take_cells-requires-clause-reduced g c =
    subst (λ t. Reduced g.F.Field.ops t (entry t c.load.new.equations.numbers.now)) (sym (c.load.ensures.size ∙ c.clear.ensures.size ∙ c.requires.length))
    (loaded_reduced c.args.code.now c.args.cells.now g.F.Field.ops g.met.F.Field.laws c.load.new.equations.numbers.now c.load.new.known c.load.ensures.loaded c.requires.symbols)

pub take_cells-requires-clause-met : goal.take_cells-requires-clause-met
take_cells-requires-clause-met g c =
    subst (λ t. DataMet g.F.Field.ops c.args.code.now c.args.cells.now (entry t c.load.new.equations.numbers.now)) (sym (c.load.ensures.size ∙ c.clear.ensures.size ∙ c.requires.length))
    (loaded_met c.args.code.now c.args.cells.now g.F.Field.ops g.met.F.Field.laws c.load.new.equations.numbers.now c.load.new.known c.load.ensures.loaded c.requires.symbols)

pub returns-clause-built : goal.returns-clause-built
returns-clause-built g c =
    taken_built g.F.Field.ops g.met.F.Field.laws c.args.code.now c.args.cells.now c.load.new.equations.n c.load.new.equations.numbers.now
    c.take_cells.new.equations.numbers.now c.load.new.known c.load.new.known c.take_cells.result (c.load.ensures.size ∙ c.clear.ensures.size ∙ c.requires.length)
    c.load.ensures.loaded c.requires.symbols c.take_cells.ensures.took
