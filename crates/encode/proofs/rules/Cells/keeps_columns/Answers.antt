use Rattle.std.proofs.Common.{rules, arith}
use borrow.Author.Tests.{tests}
use Rattle.std.proofs.lemmas.Iterator.{cases_from_all, YieldsList-from_range}
use Rattle.encode.proofs.Ranges.{decides_each}
use Rattle.encode.specs.Encoding.{in_memory}
use Rattle.encode.specs.Rules.{ColumnSums}
use Rattle.encode.proofs.rules.Cells.keeps_columns.Goals as goal

pub returns : goal.returns
returns g c =
    let code = c.args.self.now.code.now in
    let P = ColumnSums g.F.Field.ops code (in_memory code c.args.self.now.numbers.now) in
    let all = decides_each c.all.result code.m P
    (cases_from_all _ _ _ P (λ j. P j → ⊥) c.all.ensures.ran (YieldsList-from_range 0 code.m code.m (cc) (omega arith))
    (λ x q k. search (rules, tests)) (λ x q k. search (rules, tests))) in
    (λ e t i ht hi. all.0 e t ht i hi, λ rule. all.1 (λ t ht i hi. rule t i ht hi))
