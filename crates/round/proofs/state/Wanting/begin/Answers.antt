use Rattle.std.proofs.Common.{[], refl, not-suc-le-zero, zero-mul, arith}
use Rattle.round.proofs.Making.{at_start}
use Rattle.round.proofs.state.Wanting.begin.Goals as goal

pub returns : goal.returns
returns g c = (omega arith, at_start _ _ _ [] _ refl refl (zero-mul _) (λ p h. absurd (not-suc-le-zero h)) refl refl refl)
