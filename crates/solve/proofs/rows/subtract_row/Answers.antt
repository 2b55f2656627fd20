use Rattle.std.proofs.Common.{◌≡◌, ◌+◌, ◌*◌, ◌<◌, get_or, inl, inr, arith}
use Rattle.solve.proofs.Memory.{row_more, rows_apart}
use Rattle.solve.proofs.rows.subtract_row.Goals as goal

pub loop-c-preserved : goal.loop-c-preserved
loop-c-preserved g c =
    let F = g.F.Field.ops in
    let w = c.args.width in
    let s = c.args.s in
    let p = c.args.p in
    let old = c.args.work.now in
    let now = c.loop-c.work in
    let i = c.loop-c.c in
    let inv = c.loop-c.invariant in
    let l : c.loop-c.c < c.args.width = omega arith in
    let first : get_or c.loop-c.work (c.args.s * c.args.width + c.loop-c.c) 0 ≡ get_or c.args.work.now (c.args.s * c.args.width + c.loop-c.c) 0 =
    inv.behind (s * w + i) (omega arith) in
    let second : get_or c.loop-c.work (c.args.p * c.args.width + c.loop-c.c) 0 ≡ get_or c.args.work.now (c.args.p * c.args.width + c.loop-c.c) 0 =
    elim (rows_apart c.args.width c.args.s c.args.p c.loop-c.c l (λ e. c.requires.differ (cc)))
    [ inl h ↦ inv.ahead (p * w + i) h | inr h ↦ inv.behind (p * w + i) (omega arith) ] in
    row_more w s i (λ j. F.sub (get_or old (s * w + j) 0) (F.mul c.args.by (get_or old (p * w + j) 0))) old now
    c.minus.result inv (omega arith) (cc)
