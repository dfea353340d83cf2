use Rattle.drive_flush.proofs.Flush.{Going}
use Rattle.drive_flush.proofs.flush_waiting_packets.Given as goal

abbrev pub invariant-loop-n : goal.invariant-loop-n
invariant-loop-n l = Going l.fn.s l.fn.q l.initial.sent l.initial.queue l.sent l.queue l.inflight l.count l.n
