use Rattle.drive_lost.proofs.TimeOut.{Going}
use Rattle.drive_lost.proofs.timeouts.time_out_packets.Given as goal

abbrev pub invariant-loop-n : goal.invariant-loop-n
invariant-loop-n l = Going l.fn.s l.initial.sent l.sent l.inflight l.n
