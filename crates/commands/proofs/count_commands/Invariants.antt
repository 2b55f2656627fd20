use Rattle.std.proofs.Common.{◌+◌, ◌≤◌, length}
use Rattle.commands.proofs.Walks.{Walked}
use Rattle.commands.proofs.count_commands.Given as goal

abbrev pub invariant-loop-rest : goal.invariant-loop-rest
invariant-loop-rest l = (l.count + length l.rest ≤ length l.bytes) × Walked l.shape.nodes l.shape.columns l.bytes l.count l.rest

abbrev pub decreases-loop-rest : goal.decreases-loop-rest
decreases-loop-rest l = length l.rest
