use Rattle.rules_packets.proofs.Stored.{Going}
use Rattle.rules_packets.proofs.sender.stored.Given as goal

abbrev pub invariant-loop-n : goal.invariant-loop-n
invariant-loop-n l =
    Going l.acked l.seq l.clock.0 l.sent l.n l.inflight l.packets l.lengths
