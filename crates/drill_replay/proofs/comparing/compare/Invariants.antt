-- `compare` is safe and terminates: each command ends past where it starts.
use Rattle.std.proofs.Common.{length, ◌-◌, ◌≤◌}
use Rattle.drill_replay.proofs.comparing.compare.Given as goal

abbrev pub invariant-loop-from : goal.invariant-loop-from
invariant-loop-from l = l.«from» ≤ length l.fn.script

abbrev pub decreases-loop-from : goal.decreases-loop-from
decreases-loop-from l = length l.fn.script - l.«from»
