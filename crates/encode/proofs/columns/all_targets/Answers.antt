use Rattle.std.proofs.Common.{◌≡◌, ℕ, ◌+◌, ◌*◌, ◌<◌, length, get_or, sym, ap, ◌∙◌, inl, inr, mul_comm, arith}
use Rattle.std.proofs.lemmas.Bool.{cases_eq}
use Rattle.field.specs.Laws.{power}
use Rattle.algebra.proofs.Numbers as numbers
use Rattle.encode.specs.Scratch.{in_columns, target}
use Rattle.encode.proofs.columns.all_targets.Goals as goal

pub loop-i-preserved : goal.loop-i-preserved
loop-i-preserved g c =
    let F = g.F.Field.ops in
    let L = g.met.F.Field.laws in
    let d = c.loop-i.i in
    let k = c.args.code.now.k in
    let xs = c.loop-i.columns in
    let W = c.powers.new.out in
    let nw : length c.powers.new.out ≡ c.args.code.now.k = omega (arith, c.loop-i.invariant.long) in
    let base : get_or c.args.points.now.powers c.loop-i.i 0 ≡ power F F.α c.loop-i.i = c.args.points.now.are c.loop-i.i (omega arith) in
    let weight : (j : ℕ) → j < c.args.code.now.k → get_or c.powers.new.out j 0 ≡ power F F.α (c.loop-i.i * j) =
    λ j h. c.powers.ensures j (omega arith) ∙ ap (λ b. power F b j) base ∙ sym (numbers.power-mul F L F.α j d) ∙ ap (power F F.α) (mul_comm j d) in
    let new : (t : ℕ) → t < c.args.code.now.m → in_columns c.set_targets.new.columns (c.args.code.now.k + c.loop-i.i) t ≡ target F c.args.code.now (in_columns c.args.columns.now) c.loop-i.i t =
    λ t h. c.set_targets.ensures.made t h ∙ ap (F.sub 0)
    (numbers.sum_ext F L k (λ j. F.mul (get_or W j 0) (in_columns xs j t)) (λ j. F.mul (power F F.α (d * j)) (in_columns c.args.columns.now j t))
    (λ j l. cc (weight j l, c.loop-i.invariant.kept j t l))) in
    record {
      long = nw;
      made = λ i t hi ht.
          elim (cases_eq i c.loop-i.i) [
            | inl e ↦ rw e (new t ht)
            | inr ne ↦ c.set_targets.ensures.kept (k + i) t (λ e. omega arith) ∙ c.loop-i.invariant.made i t (omega arith) ht
          ];
      kept = λ j t h. c.set_targets.ensures.kept j t (λ e. omega arith) ∙ c.loop-i.invariant.kept j t h;
    }
