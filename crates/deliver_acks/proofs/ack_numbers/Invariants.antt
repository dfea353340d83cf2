use Rattle.deliver_acks.proofs.AckRun.{Running}
use Rattle.deliver_acks.proofs.ack_numbers.Given as goal

abbrev pub invariant-loop-n : goal.invariant-loop-n
invariant-loop-n l = Running l.clock.0 l.from l.to l.initial.a l.initial.sent l.a l.sent l.n
