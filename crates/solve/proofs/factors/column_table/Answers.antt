use Rattle.std.proofs.Common.{[], inl, inr, arith, length-set, get_or-set_same, get_or-set_other, ◌∙◌}
use Rattle.std.proofs.lemmas.Bool.{cases_eq}
use Rattle.solve.proofs.factors.column_table.Goals as goal

pub loop-j-preserved : goal.loop-j-preserved
loop-j-preserved g c =
    let s = c.loop-j.j in
    let xs = c.loop-j.table in
    let ys = c.unit_column.new.column in (
      length-set xs s ys ∙ c.loop-j.invariant.0,
      λ i li. elim (cases_eq i c.loop-j.j) [
        | inl e ↦ rw (e, get_or-set_same xs s ys [] (omega arith)) c.unit_column.ensures
        | inr d ↦ rw (get_or-set_other xs s i ys [] d) (c.loop-j.invariant.1 i (omega arith))
      ],
    )

pub returns : goal.returns
returns g c = λ j lj. c.loop-j.invariant.1 j (omega arith)
