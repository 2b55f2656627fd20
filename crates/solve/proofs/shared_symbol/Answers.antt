use Rattle.std.proofs.Common.{◌+◌, ◌*◌, length, subst, arith}
use Rattle.solve.specs.Decisions.{Decided}
use Rattle.solve.proofs.Answering.{shared_answer}
use Rattle.solve.proofs.shared_symbol.Goals as goal

pub returns-clause-answer : goal.returns-clause-answer
returns-clause-answer g c =
    let code = c.args.code.now in
    let held = (g.S.Store.meaning c.args.store.now).cell in
    let size = c.in_ok-size.ensures.size in
    shared_answer g.F.Field.ops code held c.args.row c.args.column (length c.args.work.now) (omega (arith, size.0, size.1)) (omega arith, omega arith) c.decide.result
    (subst (λ t. Decided g.F.Field.ops code held (c.args.row * t + c.args.column) c.decide.result) c.data_columns-2.ensures c.decide.ensures.decided)
