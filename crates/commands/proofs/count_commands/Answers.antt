use Rattle.std.proofs.Common.{◌-◌, length, refl, arith, rules}
use Rattle.std.proofs.lemmas.Result.{err_from_is_err_and}
use Rattle.commands.proofs.Walks.{begins_shorter, walked_more, checked_fault}
use Rattle.commands.proofs.count_commands.Goals as goal

pub returns-in_err-after : goal.returns-in_err-after
returns-in_err-after c =
    let p = err_from_is_err_and c.from_residual.result c.from_residual.ensures.1 in
    rw (p.1, p.2)
    (checked_fault c.args.shape.nodes c.args.shape.columns (length c.args.bytes.now - length c.loop-rest.rest.now) c.args.bytes.now
    c.loop-rest.count c.loop-rest.rest.now _ c.loop-rest.invariant.1 (search rules) refl c.in_err-after.ensures)

pub loop-rest-preserved : goal.loop-rest-preserved
loop-rest-preserved c =
    let b = c.in_ok-after.ensures in
    let less = begins_shorter c.args.shape.nodes c.args.shape.columns c.loop-rest.rest.now c.in_ok-after.after.now c.in_ok-after.field-0-0 b in (
      omega arith,
      walked_more c.args.shape.nodes c.args.shape.columns c.args.bytes.now c.loop-rest.count c.loop-rest.rest.now
          c.in_ok-after.after.now c.in_ok-after.field-0-0 c.loop-rest.invariant.1 b,
    )
