use Rattle.std.proofs.Common.{ℕ, None, List, ap, ◌∙◌}
use Rattle.commands.specs.Commands.{cells, commands_in}
use Rattle.card.proofs.Latest.{fold_latest}
use Rattle.card.proofs.CardStore.cell.Goals as goal

pub returns : goal.returns
returns c =
    c.find_cell.ensures ∙ fold_latest (commands_in c.used_part.result.now) c.args.j c.args.c None
    ∙ ap (λ (l : List ℕ). cells (commands_in l) c.args.j c.args.c) c.used_part.ensures.part
