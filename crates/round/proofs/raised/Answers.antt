use Rattle.std.proofs.Common.{◌≡◌, ◌+◌, ◌∙◌, arith}
use Rattle.field.specs.Powers.{power_more}
use Rattle.round.proofs.raised.Goals as goal

pub loop-i-preserved : goal.loop-i-preserved
loop-i-preserved g c e h =
    let F = g.F.Field.ops in
    let before = c.loop-i.invariant e h in
    let generator : c.GENERATOR.result ≡ F.α = c.GENERATOR.ensures ∙ g.met.F.Field.generator in
    let order : e + (c.loop-i._i + 1) ≡ e + c.loop-i._i + 1 = omega arith in
    let more = power_more F F.α (e + c.loop-i._i) in
    cc
