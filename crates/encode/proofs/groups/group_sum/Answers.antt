use Rattle.std.proofs.Common.{◌≡◌, ◌+◌, ◌*◌, ◌<◌, [], get_or, ap, ◌∙◌, arith}
use Rattle.field.specs.Laws.{power}
use Rattle.algebra.specs.Sums.{sum}
use Rattle.algebra.proofs.Numbers.{sum_next}
use Rattle.code.specs.Positions.{behind}
use Rattle.code.proofs.CountedRound.{behind_below}
use Rattle.encode.proofs.groups.group_sum.Goals as goal

pub loop-t-preserved : goal.loop-t-preserved
loop-t-preserved g c x answers =
    let F = g.F.Field.ops in
    let n = c.args.code.now.n in
    let j = c.args.j in
    let t = c.loop-t.t in
    let node : c.back-v.result ≡ behind c.args.code.now.n c.args.j (c.loop-t.t + 1) = c.back-v.ensures ∙ ap (λ n. behind n j (t + 1)) c.nodes-n.ensures in
    let inside : c.back-v.result < c.args.code.now.n = rw node (behind_below n j (t + 1) (omega arith)) in
    let symbol : c.symbol.result ≡ x c.back-v.result c.loop-t.t = answers c.back-v.result t c.symbol.result inside (omega arith) c.symbol.ensures in
    let weight : get_or (get_or c.args.weights.now.rows c.args.i []) c.loop-t.t 0 ≡ power F F.α (c.args.i * c.loop-t.t) = c.args.weights.now.are c.args.i t (omega arith) (omega arith) in
    let before : c.loop-t.sum ≡ sum F c.loop-t.t (λ t. F.mul (power F F.α (c.args.i * t)) (x (behind c.args.code.now.n c.args.j (t + 1)) t)) = c.loop-t.invariant x answers in
    let more = sum_next F t (λ t. F.mul (power F F.α (c.args.i * t)) (x (behind c.args.code.now.n c.args.j (t + 1)) t)) in
    cc

pub returns : goal.returns
returns g c x answers =
    let F = g.F.Field.ops in
    let end : c.loop-t.t ≡ c.args.code.now.m = omega arith in
    c.loop-t.invariant x answers ∙ ap (λ m. sum F m (λ t. F.mul (power F F.α (c.args.i * t)) (x (behind c.args.code.now.n c.args.j (t + 1)) t))) end
