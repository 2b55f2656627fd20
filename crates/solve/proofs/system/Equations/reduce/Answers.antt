use Rattle.std.proofs.Common.{ℕ, get_or, inl, inr, arith}
use Rattle.solve.specs.Systems.{entry}
use Rattle.solve.proofs.Steps.{remainder_skip, remainder_take}
use Rattle.solve.proofs.system.Equations.reduce.Goals as goal
use Rattle.solve.proofs.system.Equations.reduce.Goals.{then-self-p-ne0+then-row-p-ne0, else-self-p-ne0, else-self-p-ne0-via-then-self-p-ne0+else-row-p-ne0, else-self-p-ne0-via-else-self-p-ne0}

pub loop-p-preserved : goal.loop-p-preserved
loop-p-preserved g c =
    let F = g.F.Field.ops in
    let N = c.args.self.now.n in
    let A = entry c.args.self.now.n c.args.self.now.numbers.now in
    let i = c.loop-p.p in
    let row : ℕ → ℕ = λ j. get_or c.args.row.now j 0 in
    let mid : ℕ → ℕ = λ j. get_or c.loop-p.row j 0 in
    elim c.if-self-p-ne0.branch [
      | then-self-p-ne0+then-row-p-ne0 w ↦
          rw w.row-is (remainder_take F g.met.F.Field.laws N i A row mid (λ j. get_or w.take_out.new.row j 0) c.requires.reduced (omega arith)
          w.if-self-p-ne0.true w.take_out.ensures c.loop-p.invariant)
      | else-self-p-ne0 w ↦
          rw w.row-is
          (elim w.else-self-p-ne0.branch [
            | else-self-p-ne0-via-then-self-p-ne0+else-row-p-ne0 v ↦ remainder_skip F N i A row mid (inr v.if-row-p-ne0.false) c.loop-p.invariant
            | else-self-p-ne0-via-else-self-p-ne0 v ↦ remainder_skip F N i A row mid (inl v.if-self-p-ne0.false) c.loop-p.invariant
          ])
    ]
