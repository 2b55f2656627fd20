use Rattle.std.proofs.Common.{◌<◌, arith, mod-lt}
use Rattle.code.proofs.CountedRound.{ahead_both, ahead_within, ahead_round}
use Rattle.code.proofs.record.Code.ahead.Goals as goal

pub returns-then-sum-self : goal.returns-then-sum-self
returns-then-sum-self c =
    let n = c.args.self.now.n in
    let v = c.counted_round-v.ensures in
    let s = c.counted_round-s.ensures in
    let same = ahead_both n c.args.v c.args.s in
    let whole = ahead_within n c.counted_round-v.result c.counted_round-s.result c.if-sum-self.true in
    cc

pub returns-else-sum-self : goal.returns-else-sum-self
returns-else-sum-self c =
    let n = c.args.self.now.n in
    let v = c.counted_round-v.ensures in
    let s = c.counted_round-s.ensures in
    let same = ahead_both n c.args.v c.args.s in
    let v_below : c.counted_round-v.result < n = rw v (mod-lt c.args.v (omega arith)) in
    let s_below : c.counted_round-s.result < n = rw s (mod-lt c.args.s (omega arith)) in
    let whole = ahead_round n c.counted_round-v.result c.counted_round-s.result v_below s_below c.if-sum-self.false in
    cc
