use Rattle.std.proofs.Common.{◌≡◌, ◌+◌, ◌*◌, get_or, ap, ◌∙◌, add_comm, mul-one, mul-add}
use Rattle.field.specs.Laws.{power}
use Rattle.algebra.proofs.Numbers as numbers
use Rattle.encode.proofs.sums.column_sum.Goals as goal

pub loop-x-preserved : goal.loop-x-preserved
loop-x-preserved g c =
    let F = g.F.Field.ops in
    let L = g.met.F.Field.laws in
    let i = c.args.i in
    let j = c.loop-x.x-index in
    let base : c.power-step.result ≡ power F F.α c.args.i = c.power-step.ensures ∙ ap (λ b. power F b c.args.i) (c.GENERATOR.ensures ∙ g.met.F.Field.generator) in
    let exponent : c.args.i * (c.loop-x.x-index + 1) ≡ c.args.i + c.args.i * c.loop-x.x-index = mul-add i j 1 ∙ ap (λ t. i * j + t) (mul-one i) ∙ add_comm (i * j) i in
    let next : power F F.α (c.args.i * (c.loop-x.x-index + 1)) ≡ F.mul (power F F.α c.args.i) (power F F.α (c.args.i * c.loop-x.x-index)) = ap (power F F.α) exponent ∙ numbers.power-add F L F.α i (i * j) in
    let more = numbers.sum_next F j (λ j. F.mul (power F F.α (c.args.i * j)) (get_or c.args.column.now j 0)) in
    (cc, cc)
