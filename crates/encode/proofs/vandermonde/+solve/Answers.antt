use Rattle.std.proofs.Common.{◌≡◌, ℕ, suc, ◌+◌, ◌-◌, ◌∷◌, length, get_or, take, drop, sym, ap, ◌∙◌, add_comm, add-one, arith, rules}
use borrow.Rule.Slice.PartMut.{put_mid}
use Rattle.std.proofs.lemmas.List.{places}
use Rattle.algebra.specs.Sums.{sum}
use Rattle.encode.proofs.Windows.{window_length, rest_at, put_inside, put_before, put_length}
use Rattle.encode.proofs.Reduction.{solved}
use Rattle.encode.proofs.vandermonde.+solve.Goals as goal

pub solve-requires : goal.solve-requires
solve-requires g t c κs within =
    let F = g.F.Field.ops in
    let L = g.met.F.Field.laws in
    let P = c.args.points.now in
    let R = c.reduce.new.targets in
    let whole : c.args.points.now ≡ c.in-Some.first.now ∷ c.in-Some.rest.now = c.in-Some.ensures.cases.0 in
    let np : length c.args.points.now ≡ length c.in-Some.rest.now + 1 = sym c.in-Some.ensures.cases.1 in
    let nr : length (take (length c.reduce.new.targets - 1) (drop 1 c.reduce.new.targets)) ≡ length c.reduce.new.targets - 1 = window_length 1 (length c.reduce.new.targets - 1) R (omega arith) in
    let next : (v : ℕ) → get_or c.args.points.now (v + 1) 0 ≡ get_or c.in-Some.rest.now v 0 = λ v. ap (λ p. get_or P p 0) (add-one v) ∙ ap (λ xs. get_or xs (suc v) 0) whole in (
      search (rules, places, np),
      (
        search rules,
        (
          omega (arith, np, nr),
          (
            λ p h. rw (← next p) (c.requires.points (p + 1) (omega (arith, np))),
            (
              λ v w hv hw e.
                  let both : v + 1 ≡ w + 1 = c.requires.differ (v + 1) (w + 1) (omega (arith, np)) (omega (arith, np)) (next v ∙ e ∙ sym (next w)) in
                  omega arith,
              λ p h. rw (rest_at R p (omega arith), c.reduce.ensures.rest p (omega arith)) (L.sub_below (get_or c.args.targets.now (p + 1) 0) (F.mul c.in-Some.first.now (get_or c.args.targets.now p 0))),
            ),
          ),
        ),
      ),
    )

pub returns : goal.returns
returns g t c =
    let F = g.F.Field.ops in
    let L = g.met.F.Field.laws in
    let P = c.args.points.now in
    let B = c.args.targets.now in
    let R = c.reduce.new.targets in
    let Y = c.solve.new.targets in
    let T = c.lift.new.targets in
    let later = c.in-Some.rest.now in
    let e = length c.in-Some.rest.now in
    let tail = take (length c.reduce.new.targets - 1) (drop 1 c.reduce.new.targets) in
    let joined = put_mid 1 (length c.reduce.new.targets - 1) c.reduce.new.targets c.solve.new.targets in
    let whole : c.args.points.now ≡ c.in-Some.first.now ∷ c.in-Some.rest.now = c.in-Some.ensures.cases.0 in
    let np : length c.args.points.now ≡ length c.in-Some.rest.now + 1 = sym c.in-Some.ensures.cases.1 in
    let z : get_or c.args.points.now 0 0 ≡ c.in-Some.first.now = ap (λ xs. get_or xs 0 0) whole in
    let next : (v : ℕ) → get_or c.args.points.now (v + 1) 0 ≡ get_or c.in-Some.rest.now v 0 = λ v. ap (λ p. get_or P p 0) (add-one v) ∙ ap (λ xs. get_or xs (suc v) 0) whole in
    let nr : length (take (length c.reduce.new.targets - 1) (drop 1 c.reduce.new.targets)) ≡ length c.reduce.new.targets - 1 = window_length 1 (length c.reduce.new.targets - 1) R (omega arith) in
    let ny : length c.solve.new.targets ≡ length c.in-Some.rest.now = omega (arith, np) in
    let nj : length (put_mid 1 (length c.reduce.new.targets - 1) c.reduce.new.targets c.solve.new.targets) ≡ length c.reduce.new.targets = put_length 1 (length c.reduce.new.targets - 1) R Y (omega arith) (omega (arith, np)) in
    let all : length c.in-Some.rest.now + 1 ≡ length (put_mid 1 (length c.reduce.new.targets - 1) c.reduce.new.targets c.solve.new.targets) = omega (arith, np, nj) in
    let both =
    solved F L e P later B tail Y joined T (omega (arith, np)) (omega (arith, np)) (omega (arith, np)) (omega arith) ny
    c.requires.points c.requires.differ c.requires.targets (λ v h. sym (next v))
    (λ v h. rest_at R v (omega (arith, np)) ∙ c.reduce.ensures.rest v (omega (arith, np)) ∙ ap (λ t. F.sub (get_or B (v + 1) 0) (F.mul t (get_or B v 0))) (sym z))
    c.solve.ensures.reached c.solve.ensures.below
    (λ v h. ap (λ p. get_or joined p 0) (add_comm v 1) ∙ put_inside 1 (length c.reduce.new.targets - 1) R Y v (omega arith) (omega (arith, np)))
    (λ v h. c.lift.ensures.rest v (omega (arith, nj, np)))
    (ap (λ n. sum F n (λ v. get_or T v 0)) all ∙ c.lift.ensures.sums ∙ put_before 1 (length c.reduce.new.targets - 1) R Y 0 (omega arith) (omega arith) ∙ c.reduce.ensures.first)
    c.lift.ensures.below in
    record { reached = both.0; below = both.1 }
