use Rattle.std.proofs.Common.{◌≡◌, ℕ, ◌+◌}
use Rattle.round.specs.Wanted.{α_power}
use Rattle.round.proofs.raised.Given as goal

abbrev pub invariant-loop-i : goal.invariant-loop-i
invariant-loop-i g l = (e : ℕ) → l.power ≡ α_power g.F.Field.ops e → l.raised ≡ α_power g.F.Field.ops (e + l._i)
