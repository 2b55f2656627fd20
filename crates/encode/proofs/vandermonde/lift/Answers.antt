use Rattle.std.proofs.Common.{◌≡◌, ◌+◌, ◌-◌, ◌<◌, ◌≤◌, ◌≢◌, length, get_or, set, sym, ap, ◌∙◌, inl, inr, arith, get_or-set_other, get_or-set_same}
use Rattle.std.proofs.lemmas.Bool.{cases_eq}
use Rattle.algebra.specs.Sums.{sum}
use Rattle.encode.proofs.Reduction.{taken, taken_all}
use Rattle.encode.proofs.vandermonde.lift.Goals as goal

pub loop-v-preserved : goal.loop-v-preserved
loop-v-preserved g c =
    let F = g.F.Field.ops in
    let L = g.met.F.Field.laws in
    let v = c.loop-v.v in
    let xs = c.loop-v.targets in
    let y = c.product-y.result in
    let inside : c.loop-v.v < length c.loop-v.targets = omega arith in
    let from : 1 ≤ c.loop-v.v = omega arith in
    let was : get_or c.loop-v.targets c.loop-v.v 0 ≡ get_or c.args.targets.now c.loop-v.v 0 = c.loop-v.invariant.3 c.loop-v.v (omega arith) in
    let is : c.product-y.result ≡ F.mul (get_or c.args.targets.now c.loop-v.v 0) (F.inv (F.sub (get_or c.args.points.now c.loop-v.v 0) (get_or c.args.points.now 0 0))) = cc in
    let small : F.sub c.loop-v.first c.product-y.result < F.q = L.sub_below c.loop-v.first c.product-y.result in
    let first : c.difference-first.result ≡ F.sub c.loop-v.first c.product-y.result = cc in (
      rw first small,
      ap (λ t. F.add t (sum F (v + 1 - 1) (λ w. get_or (set xs v y) (w + 1) 0))) first ∙ taken F L xs v c.loop-v.first y from inside ∙ c.loop-v.invariant.1,
      λ k h.
          elim (cases_eq (k + 1) c.loop-v.v) [
            | inl e ↦ rw e (get_or-set_same xs v y 0 inside ∙ is)
            | inr ne ↦ get_or-set_other xs v (k + 1) y 0 ne ∙ c.loop-v.invariant.2 k (omega arith)
          ],
      λ k h. let ne : k ≢ c.loop-v.v = omega arith in get_or-set_other xs v k y 0 ne ∙ c.loop-v.invariant.3 k (omega arith),
    )

pub returns : goal.returns
returns g c =
    let F = g.F.Field.ops in
    let L = g.met.F.Field.laws in
    let xs = c.loop-v.targets in
    let a = c.loop-v.first in
    let d = length c.args.targets.now in
    let end : c.loop-v.v ≡ length c.args.targets.now = omega arith in
    record {
      rest = λ v h. let ne : v + 1 ≢ 0 = omega arith in get_or-set_other xs 0 (v + 1) a 0 ne ∙ c.loop-v.invariant.2 v (omega arith);
      sums = taken_all F L xs a d (omega arith) (omega arith) ∙ ap (λ t. F.add a (sum F (t - 1) (λ w. get_or xs (w + 1) 0))) (sym end) ∙ c.loop-v.invariant.1;
      below = let in₀ : 0 < length c.loop-v.targets = omega arith in rw get_or-set_same c.loop-v.invariant.0;
    }
