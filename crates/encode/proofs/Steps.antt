-- The lemmas by which loops over powers, sums and columns take a step.
use Rattle.field.specs.Powers.{power_zero, power_more}
use Rattle.algebra.proofs.Numbers.{sum_none, sum_next, power-add, power-times-zero}
use Rattle.code.proofs.CountedRound.{behind_within, behind_round}
use Rattle.encode.proofs.Windows.{window_length, window_at, rest_at}
use Rattle.encode.proofs.Places.{column_written, column_kept}

pub ruleset steps = (power_zero, power_more, sum_none, sum_next, power-add, power-times-zero, behind_within, behind_round, window_length, window_at, rest_at, column_written, column_kept)
