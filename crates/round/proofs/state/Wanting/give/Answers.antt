use Rattle.std.proofs.Common.{◌≡◌, ◌+◌, ◌-◌, ◌*◌, ◌<◌, refl, ap, ◌∙◌, arith}
use Rattle.code.specs.declared.record.Code.{Code}
use Rattle.round.specs.Wanted.{α_power}
use Rattle.round.proofs.Steps.{now_holds, still_wants}
use Rattle.round.proofs.state.Wanting.give.Goals as goal

pub returns-then-self-m : goal.returns-then-self-m
returns-then-self-m g c =
    let w = c.args.self in
    let F = g.F.Field.ops in
    let j = c.joined-made.ensures in
    let one_more : w.place + 1 ≡ w.code.m = omega arith in
    let below : c.args.symbol < F.q = omega (arith, g.met.F.Field.size) in
    record {
      symbol = below;
      last = one_more;
      code_kept = refl;
      node_kept = refl;
      column_kept = refl;
      counted = omega arith;
      given_too = λ code f symbols h.
          now_holds F g.met.F.Field.laws code f symbols w c.args.symbol _ h below refl refl refl one_more
          (record { first = j.first; in_data = j.«data»; in_coded = j.coded });
    }

pub returns : goal.returns
returns g c =
    let w = c.args.self in
    let F = g.F.Field.ops in
    let j = c.joined-made.ensures in
    let below : c.args.symbol < F.q = omega (arith, g.met.F.Field.size) in
    record {
      symbol = below;
      more = omega arith;
      code_kept = refl;
      node_kept = refl;
      column_kept = refl;
      counted = omega arith;
      given_too = λ code f symbols h.
          let m : w.code.m ≡ code.m = ap (λ (x : Code). x.m) h.code_is in
          let by : c.saturating_sub.result ≡ w.column - code.m = omega arith in
          still_wants F g.met.F.Field.laws code f symbols w c.args.symbol _ _ h below refl refl refl refl
          (c.raised.ensures ((w.column - code.m) * w.place) h.factor
          ∙ ap (λ k. α_power F ((w.column - code.m) * w.place + k)) by)
          refl
          (record { first = j.first; in_data = j.«data»; in_coded = j.coded });
    }
