use Rattle.std.proofs.Common.{rules, arith}
use borrow.Author.Tests.{tests}
use Rattle.std.proofs.lemmas.Iterator.{cases_from_all, YieldsList-from_range}
use Rattle.encode.proofs.Ranges.{decides_each}
use Rattle.encode.specs.Encoding.{in_memory}
use Rattle.encode.specs.Rules.{GroupSums}
use Rattle.encode.proofs.rules.Cells.keeps_groups.Goals as goal

pub returns : goal.returns
returns g c =
    let code = c.args.self.now.code.now in
    let P = GroupSums g.F.Field.ops code (in_memory code c.args.self.now.numbers.now) in
    let all = decides_each c.all.result code.n P
    (cases_from_all _ _ _ P (λ j. P j → ⊥) c.all.ensures.ran (YieldsList-from_range 0 code.n code.n (cc) (omega arith))
    (λ x q k. search (rules, tests) fits 10000) (λ x q k. search (rules, tests))) in
    (λ e j i hj hi. all.0 e j hj i hi, λ rule. all.1 (λ j hj i hi. rule j i hj hi))
