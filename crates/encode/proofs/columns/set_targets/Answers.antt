use Rattle.std.proofs.Common.{◌≡◌, ◌+◌, length, get_or, ap, ◌∙◌, inl, inr, arith, length-set}
use Rattle.std.proofs.lemmas.Bool.{cases_eq}
use Rattle.algebra.proofs.Numbers.{sum_same}
use Rattle.encode.specs.Scratch.{in_columns}
use Rattle.encode.proofs.Places.{column_written, column_kept}
use Rattle.encode.proofs.columns.set_targets.Goals as goal

pub loop-t-preserved : goal.loop-t-preserved
loop-t-preserved g c =
    let F = g.F.Field.ops in
    let k = c.args.code.now.k in
    let xs = c.loop-t.columns in
    let ys = c.set_target.new.column in
    let s = c.loop-t.t in
    let long : length c.loop-t.columns ≡ 8 = c.loop-t.invariant.long in
    record {
      long = length-set xs s ys ∙ long;
      made = λ t h. elim (cases_eq t c.loop-t.t) [
        | inl e ↦ rw (column_written xs s (k + c.args.i) t ys (omega arith) e)
            (c.set_target.ensures.made ∙ ap (F.sub 0) (sum_same F k
            (λ j. F.mul (get_or c.args.weights.now j 0) (in_columns xs j s)) (λ j. F.mul (get_or c.args.weights.now j 0) (in_columns c.args.columns.now j t))
            (λ j l. rw e (ap (F.mul (get_or c.args.weights.now j 0)) (c.loop-t.invariant.kept j s (omega arith))))))
        | inr ne ↦ rw (column_kept xs s (k + c.args.i) t ys ne) (c.loop-t.invariant.made t (omega arith))
      ];
      kept = λ j t ne. elim (cases_eq t c.loop-t.t) [
        | inl e ↦ rw (column_written xs s j t ys (omega arith) e) (rw e (c.set_target.ensures.kept j ne ∙ c.loop-t.invariant.kept j s ne))
        | inr other ↦ rw (column_kept xs s j t ys other) (c.loop-t.invariant.kept j t ne)
      ];
    }
