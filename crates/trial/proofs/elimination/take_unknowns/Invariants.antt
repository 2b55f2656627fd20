-- The numbers stay so many, and one row was taken at most for each unknown passed.
use Rattle.std.proofs.Common.{◌≡◌, ℕ, ◌+◌, ◌*◌, ◌≤◌, length}
use Rattle.trial.proofs.elimination.take_unknowns.Given as goal

pub record Taking (unknowns unknown before now rank : ℕ) : Type 0 where
  pub long : now ≡ before
  pub rank_bound : rank ≤ unknown
  pub within : rank * (unknowns + 1) ≤ before

abbrev pub invariant-loop-unknown : goal.invariant-loop-unknown
invariant-loop-unknown g l = Taking l.unknowns l.unknown (length l.fn.numbers) (length l.numbers) l.rank
