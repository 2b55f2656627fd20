use Rattle.std.proofs.Common.{rules}
use Rattle.solve.proofs.Answering.{only_answer}
use Rattle.solve.proofs.only_file.Goals as goal

pub returns : goal.returns
returns g c =
    let size = c.in_ok-size.ensures.size in
    only_answer g.F.Field.ops c.args.code.now (g.S.Store.meaning c.args.store.now).cell c.in_ok-size.size c.args.work.now c.find_only.new.work
    size.0 size.1 (search rules) c.find_only.result c.find_only.ensures.decided c.find_only.ensures.zeros
