-- So many symbols are written, and the state is the one of the last of them.
use Rattle.std.proofs.Common.{◌≡◌, ℕ, ◌+◌, ◌%◌, ◌<◌, List, length, slice_index}
use Rattle.trial.specs.Samples.{sample_state}
use Rattle.trial.proofs.sample.fill_file.Given as goal

pub record Filled (q : ℕ) (state index : ℕ) (before now : List ℕ) : Type 0 where
  pub long : length now ≡ length before
  pub state_is : state ≡ sample_state index
  pub state_below : state < 65537
  pub symbols : (p : ℕ) → p < index → slice_index now p ≡ sample_state (p + 1) % q

abbrev pub invariant-loop-symbol : goal.invariant-loop-symbol
invariant-loop-symbol g l = Filled g.F.Field.ops.q l.state l.symbol-index l.fn.file l.symbol-items
