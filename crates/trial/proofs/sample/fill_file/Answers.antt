-- The states are followed one by one.
use Rattle.std.proofs.Common.{rules, arith, refl}
use Rattle.std.proofs.lemmas.Grind.{common_steps}
use Rattle.trial.specs.Samples.{sample_state}
use Rattle.trial.proofs.sample.fill_file.Goals as goal

pub loop-symbol-init : goal.loop-symbol-init
unfolding sample_state
loop-symbol-init g c = record { long = refl; state_is = refl; state_below = omega arith; symbols = λ p h. omega arith }

pub loop-symbol-preserved : goal.loop-symbol-preserved
unfolding sample_state
loop-symbol-preserved g c =
    record { long = search rules; state_is = search rules; state_below = omega arith; symbols = λ p h. grind (arith, common_steps) }
