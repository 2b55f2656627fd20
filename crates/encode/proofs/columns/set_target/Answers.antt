use Rattle.std.proofs.Common.{◌≡◌, ◌+◌, length, get_or, take, set, ap, sym, ◌∙◌, arith, get_or-set_same}
use Rattle.std.proofs.lemmas.List.{get_or-take, length-take-le}
use Rattle.algebra.specs.Sums.{sum}
use Rattle.algebra.proofs.Numbers.{sum_same}
use Rattle.encode.proofs.Products.{zip_sum}
use Rattle.encode.proofs.columns.set_target.Goals as goal

pub returns-clause-made : goal.returns-clause-made
returns-clause-made g c =
    let F = g.F.Field.ops in
    let k = c.args.code.now.k in
    let K = c.data_nodes-k.result in
    let xs = c.args.column.now in
    let ws = c.args.weights.now in
    let kk : c.data_nodes-k.result ≡ c.args.code.now.k = c.data_nodes-k.ensures in
    let long : length (take c.data_nodes-k.result c.args.column.now) ≡ c.data_nodes-k.result = length-take-le K xs (omega arith) in
    ap (λ p. get_or (set xs (K + c.args.i) c.difference.result) p 0) (ap (λ p. p + c.args.i) (sym kk))
    ∙ get_or-set_same xs (K + c.args.i) c.difference.result 0 (omega arith)
    ∙ c.difference.ensures
    ∙ ap (F.sub 0)
    (c.weighted_sum-sum.ensures
    ∙ zip_sum F ws (take K xs) (omega arith)
    ∙ ap (λ n. sum F n (λ j. F.mul (get_or ws j 0) (get_or (take K xs) j 0))) (long ∙ kk)
    ∙ sum_same F k (λ j. F.mul (get_or ws j 0) (get_or (take K xs) j 0)) (λ j. F.mul (get_or ws j 0) (get_or xs j 0))
    (λ j h. ap (F.mul (get_or ws j 0)) (get_or-take K xs j 0 (omega arith))))
