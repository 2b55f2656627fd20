-- A turn takes one binary digit of the exponent off: a 1 puts the base into what is collected.
use Rattle.std.proofs.Common.{◌≡◌, ℕ, ◌%◌, ◌<◌, sym, ap, ◌∙◌, arith}
use Rattle.field.specs.Laws.{power}
use Rattle.field.specs.Powers.{power_zero, one_power, power_even, collect_odd}
use Rattle.field.proofs.power.Goals as goal
use Rattle.field.proofs.power.Goals.{then-left-eq1, else-left-eq1}

pub loop-left-init : goal.loop-left-init
loop-left-init g c =
    let L = g.met.F.Field.laws in
    (L.one_below, one_power g.F.Field.ops L c.args.u c.args.e)

pub loop-left-preserved : goal.loop-left-preserved
loop-left-preserved g c =
    let F = g.F.Field.ops in
    let L = g.met.F.Field.laws in
    let result : ℕ = c.loop-left.result in
    let base : ℕ = c.loop-left.base in
    let left : ℕ = c.loop-left.left in
    elim c.if-left-eq1.branch [
      | then-left-eq1 w ↦
          let below : F.mul result base < F.q = L.mul_below result base in
          let step = collect_odd F L result base left c.loop-left.invariant.0 w.if-left-eq1.true in
          (omega arith, cc)
      | else-left-eq1 w ↦
          let even : left % 2 ≡ 0 = omega arith in
          let step = power_even F L base left even in
          (omega arith, cc)
    ]

pub returns : goal.returns
returns g c =
    let F = g.F.Field.ops in
    let L = g.met.F.Field.laws in
    let none : c.loop-left.left ≡ 0 = omega arith in
    sym (L.mul-one c.loop-left.result c.loop-left.invariant.0)
    ∙ ap (F.mul c.loop-left.result) (sym (ap (power F c.loop-left.base) none ∙ power_zero F c.loop-left.base))
    ∙ c.loop-left.invariant.1
