use Rattle.std.proofs.Common.{rules}
use Rattle.store_demo.proofs.Lends.{lost_in_bytes}
use Rattle.store_demo.proofs.lose_in_bytes.Goals as goal

pub returns : goal.returns
returns c =
    lost_in_bytes _ _ c.args.memory.now _ c.args.j c.args.c c.lose_cell.result c.take_up-card.result c.lose_cell.new.store
    c.take_up-card.ensures.taken c.take_up-card.ensures.held c.lose_cell.ensures.changed c.lose_cell.ensures.framed (search rules)
