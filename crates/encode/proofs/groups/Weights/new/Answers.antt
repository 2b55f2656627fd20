use Rattle.std.proofs.Common.{◌≡◌, ℕ, ◌*◌, ◌<◌, [], length, get_or, sym, ap, ◌∙◌, inl, inr, mul_comm, arith, length-set, get_or-set_same, get_or-set_other}
use Rattle.std.proofs.lemmas.Bool.{cases_eq}
use Rattle.field.specs.Laws.{power}
use Rattle.algebra.proofs.Numbers as numbers
use Rattle.encode.proofs.groups.Weights.new.Goals as goal

pub loop-i-preserved : goal.loop-i-preserved
loop-i-preserved g c =
    let F = g.F.Field.ops in
    let L = g.met.F.Field.laws in
    let d = c.loop-i.i in
    let xs = c.loop-i.rows in
    let ys = c.powers.new.out in
    let long : length c.loop-i.rows ≡ 3 = c.loop-i.invariant.long in
    let ny : length c.powers.new.out ≡ 8 = c.powers.auto.out ∙ c.loop-i.invariant.each d (omega arith) in
    let power_at : (t : ℕ) → t < 8 → get_or ys t 0 ≡ power F F.α (d * t) =
    λ t h. c.powers.ensures t (omega arith) ∙ ap (λ b. power F b t) (c.args.points.now.are d (omega arith)) ∙ sym (numbers.power-mul F L F.α t d) ∙ ap (power F F.α) (mul_comm t d) in
    record {
      long = length-set xs d ys ∙ long;
      each = λ i hi.
          elim (cases_eq i c.loop-i.i) [
            | inl e ↦ rw (e, get_or-set_same xs d ys [] (omega arith)) ny
            | inr ne ↦ rw (get_or-set_other xs d i ys [] ne) (c.loop-i.invariant.each i hi)
          ];
      filled = λ i t hi ht.
          elim (cases_eq i c.loop-i.i) [
            | inl e ↦ rw (e, get_or-set_same xs d ys [] (omega arith)) (power_at t ht)
            | inr ne ↦ rw (get_or-set_other xs d i ys [] ne) (c.loop-i.invariant.filled i t (omega arith) ht)
          ];
    }
