use Rattle.std.proofs.Common.{◌≡◌, ℕ, rules, arith}
use borrow.Author.Tests.{tests}
use Rattle.std.proofs.lemmas.Iterator.{cases_from_all, YieldsList-from_range}
use Rattle.encode.proofs.Ranges.{decides_each}
use Rattle.encode.specs.Systems.{column_sum}
use Rattle.encode.proofs.rules.sums_vanish.Goals as goal

pub returns : goal.returns
returns g c =
    let P = λ (i : ℕ). column_sum g.F.Field.ops i c.args.column.now ≡ 0 in
    decides_each c.all.result c.args.r P
    (cases_from_all _ _ _ P (λ i. P i → ⊥) c.all.ensures.ran (YieldsList-from_range 0 c.args.r c.args.r (cc) (omega arith))
    (λ x q k. search (rules, tests)) (λ x q k. search (rules, tests)))
