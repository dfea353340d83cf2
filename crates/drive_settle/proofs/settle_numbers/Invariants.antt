use Prim.Native.Nat.{◌-◌}
use Rattle.drive_settle.proofs.SettleAll.{Going}
use Rattle.drive_settle.proofs.settle_numbers.Given as goal

abbrev pub invariant-loop-b : goal.invariant-loop-b
invariant-loop-b l = Going l.clock.0 l.to l.initial.b l.initial.sent l.b l.sent

abbrev pub decreases-loop-b : goal.decreases-loop-b
decreases-loop-b l = l.to - l.b.sender.remote_acked
