use Rattle.std.proofs.Common.{◌≡◌, ◌-◌, ap, ◌∙◌, ap₂, arith, rules}
use Rattle.std.proofs.lemmas.Bool.{cond_below, cond_above}
use Rattle.code.specs.Positions.{behind}
use Rattle.encode.specs.Rules.{group_sum}
use Rattle.encode.specs.Scratch.{cell_of, in_columns}
use Rattle.encode.proofs.cells.cell.Goals as goal

pub returns-then-c-m : goal.returns-then-c-m
unfolding cell_of
returns-then-c-m g c =
    let F = g.F.Field.ops in
    let code = c.args.code.now in
    let x = in_columns c.args.columns.now in
    let i = c.args.c - c.args.code.now.m in
    cond_below c.args.c code.m (x c.args.v c.args.c) (group_sum F code x (behind code.n c.args.v i) i) (omega arith)

pub returns-else-c-m : goal.returns-else-c-m
unfolding cell_of
returns-else-c-m g c =
    let F = g.F.Field.ops in
    let code = c.args.code.now in
    let v = c.args.v in
    let x = in_columns c.args.columns.now in
    let i = c.args.c - c.args.code.now.m in
    let same : c.args.c - c.data_columns-m.result ≡ c.args.c - c.args.code.now.m = ap (λ m. c.args.c - m) c.data_columns-m.ensures in
    let node : c.back-j.result ≡ behind c.args.code.now.n c.args.v (c.args.c - c.args.code.now.m) = c.back-j.ensures ∙ ap₂ (λ n s. behind n v s) c.nodes.ensures same in
    cond_above c.args.c code.m (x v c.args.c) (group_sum F code x (behind code.n v i) i) c.group_sum.result (omega arith)
    (c.group_sum.ensures x (λ u t r hu ht gives. search rules) ∙ ap₂ (group_sum F code x) node same)
