use Rattle.std.proofs.Common.{◌≡◌, ℕ, ◌+◌, ◌-◌, ◌<◌, ◌≤◌, length, get_or, take, drop, sym, ap, ◌∙◌, arith}
use borrow.Rule.Slice.PartMut.{put_mid}
use Rattle.field.specs.Laws.{power}
use Rattle.algebra.specs.Sums.{syndrome}
use Rattle.code.specs.Stripe.{parity}
use Rattle.encode.proofs.Windows.{window_length, window_at, put_inside, put_before}
use Rattle.encode.proofs.PointParts.{points_length, points_below, points_differ, reached_at}
use Rattle.encode.proofs.columns.solve_column.Goals as goal

pub solve-requires : goal.solve-requires
solve-requires g c =
    let F = g.F.Field.ops in
    let L = g.met.F.Field.laws in
    let k = c.data_nodes-k.result in
    let K = c.nodes-n.result - c.data_nodes-k.result in
    let xs = c.args.column.now in
    let P = c.args.points.now.powers in
    let are = c.args.points.now.are in
    let kk : c.data_nodes-k.result ≡ c.args.code.now.k = c.data_nodes-k.ensures in
    let top : c.data_nodes-k.result + (c.nodes-n.result - c.data_nodes-k.result) ≤ 64 = omega arith in
    let nt : length (take (c.nodes-n.result - c.data_nodes-k.result) (drop c.data_nodes-k.result c.args.column.now)) ≡ c.nodes-n.result - c.data_nodes-k.result = window_length k K xs (omega arith) in
    record {
      long = points_length F L P (omega arith) are k K top ∙ sym nt;
      points = points_below F L P (omega arith) are k K top;
      differ = points_differ F L P (omega arith) are k K top;
      targets = λ p h.
          let same : get_or (take K (drop k xs)) p 0 ≡ get_or xs (c.args.code.now.k + p) 0 = window_at k K xs p (omega arith) ∙ ap (λ t. get_or xs (t + p) 0) kk in
          rw same (c.requires p (omega arith));
    }

pub returns : goal.returns
returns g c =
    let F = g.F.Field.ops in
    let L = g.met.F.Field.laws in
    let k = c.args.code.now.k in
    let a = c.data_nodes-k.result in
    let K = c.nodes-n.result - c.data_nodes-k.result in
    let xs = c.args.column.now in
    let ys = c.solve.new.targets in
    let r = parity c.args.code.now in
    let kk : c.data_nodes-k.result ≡ c.args.code.now.k = c.data_nodes-k.ensures in
    let rr : c.nodes-n.result - c.data_nodes-k.result ≡ c.args.code.now.n - c.args.code.now.k = omega arith in
    let ny : length c.solve.new.targets ≡ c.nodes-n.result - c.data_nodes-k.result = c.solve.auto.targets ∙ window_length a K xs (omega arith) in
    let inside : (v : ℕ) → v < c.args.code.now.n - c.args.code.now.k → get_or (put_mid a K xs ys) (k + v) 0 ≡ get_or ys v 0 =
    λ v l. ap (λ t. get_or (put_mid a K xs ys) (t + v) 0) (sym kk) ∙ put_inside a K xs ys v (omega arith) (omega arith) in
    let x : ℕ → ℕ = λ v. get_or (put_mid a K xs ys) (k + v) 0 in
    record {
      reached = λ i l.
          ap (λ b. syndrome F r (λ v. power F F.α (b + v)) x i) (sym kk)
          ∙ ap (λ d. syndrome F d (λ v. power F F.α (a + v)) x i) (sym rr)
          ∙ reached_at F L c.args.points.now.powers (omega arith) c.args.points.now.are a K (omega arith) (take K (drop a xs)) ys x c.solve.ensures.reached (λ v m. sym (inside v (omega arith))) i (omega arith)
          ∙ window_at a K xs i (omega arith) ∙ ap (λ t. get_or xs (t + i) 0) kk;
      below = λ v l. rw (inside v l) (c.solve.ensures.below v (omega arith));
      kept = λ j l. put_before a K xs ys j (omega arith) (omega arith);
    }
