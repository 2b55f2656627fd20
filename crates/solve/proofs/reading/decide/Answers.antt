use Rattle.std.proofs.Common.{Some, None, ◌∙◌, subst}
use Rattle.solve.specs.Systems.{entry}
use Rattle.solve.specs.Decisions.{Lone}
use Rattle.solve.proofs.Deciding.{lone_shared, lone_open}
use Rattle.solve.proofs.reading.decide.Goals as goal

pub returns-in-Some-clause-decided : goal.returns-in-Some-clause-decided
returns-in-Some-clause-decided g c =
    let n = c.solve.ensures.size ∙ c.new-equations.ensures.size ∙ c.file_length.ensures in
    let w = c.solve.new.equations.numbers.now in
    let S = c.in_ok-solve.ensures.built in (
      S.proper,
      lone_shared g.F.Field.ops g.met.F.Field.laws c.args.code.now (g.S.Store.meaning c.args.store.now).cell w S c.args.place c.in-Some.value
          c.requires.place (subst (λ t. Lone t (entry t w) c.args.place (Some c.in-Some.value)) n c.in-Some.ensures),
    )

pub returns-clause-decided : goal.returns-clause-decided
returns-clause-decided g c =
    let n = c.solve.ensures.size ∙ c.new-equations.ensures.size ∙ c.file_length.ensures in
    let w = c.solve.new.equations.numbers.now in
    let S = c.in_ok-solve.ensures.built in (
      S.proper,
      lone_open g.F.Field.ops g.met.F.Field.laws c.args.code.now (g.S.Store.meaning c.args.store.now).cell w S c.args.place
          c.requires.place (subst (λ t. Lone t (entry t w) c.args.place None) n c.in-None.ensures),
    )
