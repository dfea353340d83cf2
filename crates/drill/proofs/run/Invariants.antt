-- `run` is safe and terminates: each command ends past where it starts.
use Rattle.std.proofs.Common.{length, ◌-◌, ◌≤◌}
use Rattle.drill.proofs.run.Given as goal

abbrev pub invariant-loop-at : goal.invariant-loop-at
invariant-loop-at g l = l.at ≤ length l.fn.script

abbrev pub decreases-loop-at : goal.decreases-loop-at
decreases-loop-at g l = length l.fn.script - l.at
