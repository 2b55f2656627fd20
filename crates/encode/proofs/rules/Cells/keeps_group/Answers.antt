use Rattle.std.proofs.Common.{◌≡◌, ℕ, ◌+◌, rules, arith}
use borrow.Author.Tests.{tests}
use Rattle.std.proofs.lemmas.Iterator.{cases_from_all, YieldsList-from_range}
use Rattle.code.specs.Positions.{ahead}
use Rattle.encode.proofs.Ranges.{decides_each}
use Rattle.encode.specs.Encoding.{in_memory}
use Rattle.encode.specs.Rules.{group_sum}
use Rattle.encode.proofs.rules.Cells.keeps_group.Goals as goal

pub returns : goal.returns
returns g c =
    let code = c.args.self.now.code.now in
    let x = in_memory code c.args.self.now.numbers.now in
    let P = λ (i : ℕ). x (ahead code.n c.args.j i) (code.m + i) ≡ group_sum g.F.Field.ops code x c.args.j i in
    decides_each c.all.result code.a P
    (cases_from_all _ _ _ P (λ i. P i → ⊥) c.all.ensures.ran (YieldsList-from_range 0 code.a code.a (cc) (omega arith))
    (λ x q k. search (rules, tests)) (λ x q k. search (rules, tests)))
