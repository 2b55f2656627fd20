use Rattle.std.proofs.Common.{length}
use Rattle.commands.specs.Faults.{place}
use Rattle.card.proofs.Uses.{longest_read}
use Rattle.card.proofs.good_length.Goals as goal

pub returns-in-Ok : goal.returns-in-Ok
returns-in-Ok c = longest_read _ _ c.args.bytes.now (length c.args.bytes.now) _ c.in-Ok.ensures.checked.1

pub returns-in-Err : goal.returns-in-Err
returns-in-Err c = rw c.place.ensures (longest_read _ _ c.args.bytes.now (place c.in-Err.fault) _ c.in-Err.ensures.checked.2)
