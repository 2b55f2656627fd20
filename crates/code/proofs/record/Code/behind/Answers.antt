use Rattle.std.proofs.Common.{◌<◌, arith, mod-lt}
use Rattle.code.proofs.CountedRound.{behind_both, behind_within, behind_round}
use Rattle.code.proofs.record.Code.behind.Goals as goal

pub returns-then-s-v : goal.returns-then-s-v
returns-then-s-v c =
    let n = c.args.self.now.n in
    let v = c.counted_round-v.ensures in
    let s = c.counted_round-s.ensures in
    let same = behind_both n c.args.v c.args.s in
    let v_below : c.counted_round-v.result < n = rw v (mod-lt c.args.v (omega arith)) in
    let whole = behind_within n c.counted_round-v.result c.counted_round-s.result v_below c.if-s-v.true in
    cc

pub returns-else-s-v : goal.returns-else-s-v
returns-else-s-v c =
    let n = c.args.self.now.n in
    let v = c.counted_round-v.ensures in
    let s = c.counted_round-s.ensures in
    let same = behind_both n c.args.v c.args.s in
    let s_below : c.counted_round-s.result < n = rw s (mod-lt c.args.s (omega arith)) in
    let whole = behind_round n c.counted_round-v.result c.counted_round-s.result c.if-s-v.false s_below in
    cc
