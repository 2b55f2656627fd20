use Rattle.std.proofs.Common.{◌≡◌, ◌+◌, ◌*◌, length, refl, ap, arith}
use Rattle.code.specs.declared.record.Code.{Code}
use Rattle.round.proofs.Making.{at_start}
use Rattle.round.proofs.state.Holding.take.Goals as goal

pub returns : goal.returns
returns g c =
    let h = c.args.self in
    record {
      symbol = refl;
      more = omega arith;
      code_kept = refl;
      node_kept = refl;
      column = refl;
      counted = omega arith;
      given_same = λ code f symbols was.
          let m : h.code.m ≡ code.m = ap (λ (x : Code). x.m) was.code_is in
          let count : (h.column + 1) * code.m ≡ length symbols = rw (← m) was.count in
          at_start _ code f symbols _ was.code_is was.node_is count was.accepted refl refl refl;
    }
