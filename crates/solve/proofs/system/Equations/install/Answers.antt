use Rattle.std.proofs.Common.{◌+◌, ◌<◌, get_or, subst, arith}
use Rattle.solve.specs.Rows.{RowIs}
use Rattle.encode.proofs.Windows.{row_end}
use Rattle.solve.proofs.Steps.{scaled_below, installed}
use Rattle.solve.proofs.system.Equations.install.Goals as goal

pub put_row-requires : goal.put_row-requires
put_row-requires g c =
    let lc : c.args.c < c.args.self.now.n = omega arith in
    rw c.requires.row (omega (arith, row_end c.args.c (c.args.self.now.n + 1) c.args.self.now.n lc))

pub eliminate-requires : goal.eliminate-requires
eliminate-requires g c =
    let F = g.F.Field.ops in
    let made = subst (λ t. RowIs t c.args.c (λ j. F.mul c.inverse.result (get_or c.args.row.now j 0)) c.args.self.now.numbers.now c.put_row.new.work)
    c.requires.row c.put_row.ensures in
    record {
      symbol = c.requires.symbol;
      below = scaled_below F g.met.F.Field.laws c.args.self.now.n c.args.c c.inverse.result c.args.row.now
          c.args.self.now.numbers.now c.put_row.new.work made c.requires.below;
    }

pub returns-clause-installed : goal.returns-clause-installed
returns-clause-installed g c =
    let F = g.F.Field.ops in
    let made = subst (λ t. RowIs t c.args.c (λ j. F.mul c.inverse.result (get_or c.args.row.now j 0)) c.args.self.now.numbers.now c.put_row.new.work)
    c.requires.row c.put_row.ensures in
    installed F g.met.F.Field.laws c.args.self.now.n c.args.c c.inverse.result c.args.row.now
    c.args.self.now.numbers.now c.put_row.new.work made
    c.eliminate.new.self.numbers.now c.requires.symbol c.inverse.ensures c.eliminate.ensures.kept c.eliminate.ensures.others
