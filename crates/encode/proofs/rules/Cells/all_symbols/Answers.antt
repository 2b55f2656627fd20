use Rattle.std.proofs.Common.{◌≡◌, ◌≤◌, length, arith}
use Rattle.std.proofs.lemmas.Bool.{true_from_ne_false}
use Rattle.encode.specs.Encoding.{cell_count}
use Rattle.encode.proofs.Memory.{cells_below, numbers_below}
use Rattle.encode.proofs.rules.Cells.all_symbols.Goals as goal

pub returns : goal.returns
returns g c =
    let F = g.F.Field.ops in
    let code = c.args.self.now.code.now in
    let numbers = c.args.self.now.numbers.now in
    let K = c.cell_count.result in
    let count : c.cell_count.result ≡ cell_count c.args.self.now.code.now = c.cell_count.ensures in
    let room : c.cell_count.result ≤ length c.args.self.now.numbers.now = omega (arith, count, c.args.self.now.room) in (
      λ e. cells_below F.q code numbers K count room (c.all_symbols.ensures.yes e),
      λ all. true_from_ne_false c.all_symbols.result
          (λ e.
          let found = c.all_symbols.ensures.not e in
          let low = numbers_below F.q code numbers K count room all found.0 found.1 in
          omega (arith, low, found.2)),
    )
