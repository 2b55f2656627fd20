use Rattle.std.proofs.Common.{◌≡◌, ℕ, ◌*◌, length, get_or, take, sym, ap, ◌∙◌, arith}
use Rattle.std.proofs.lemmas.List.{get_or-take, length-take-le}
use Rattle.field.specs.Laws.{power}
use Rattle.algebra.specs.Sums.{sum}
use Rattle.algebra.proofs.Numbers.{sum_same}
use Rattle.encode.specs.Encoding.{in_memory}
use Rattle.encode.specs.Systems.{column_sum}
use Rattle.encode.proofs.rules.Cells.keeps_column.Goals as goal

pub returns : goal.returns
returns g c =
    let F = g.F.Field.ops in
    let n = c.args.self.now.code.now.n in
    let N = c.nodes.result in
    let x = in_memory c.args.self.now.code.now c.args.self.now.numbers.now in
    let ys = c.column-column.result in
    let nn : c.nodes.result ≡ c.args.self.now.code.now.n = c.nodes.ensures in
    let long : length (take c.nodes.result c.column-column.result) ≡ c.nodes.result = length-take-le N ys (omega arith) in
    let same : (i : ℕ) → column_sum F i (take c.nodes.result c.column-column.result) ≡ sum F n (λ j. F.mul (power F F.α (i * j)) (x j c.args.t)) =
    λ i. ap (λ d. sum F d (λ j. F.mul (power F F.α (i * j)) (get_or (take N ys) j 0))) (long ∙ nn)
    ∙ sum_same F n (λ j. F.mul (power F F.α (i * j)) (get_or (take N ys) j 0)) (λ j. F.mul (power F F.α (i * j)) (x j c.args.t))
    (λ j l. ap (F.mul (power F F.α (i * j))) (get_or-take N ys j 0 (omega arith) ∙ c.column-column.ensures j l)) in (
      λ yes i l. sym (same i) ∙ c.sums_vanish.ensures.0 yes i (omega arith),
      λ all. c.sums_vanish.ensures.1 (λ i l. same i ∙ all i (omega arith)),
    )
