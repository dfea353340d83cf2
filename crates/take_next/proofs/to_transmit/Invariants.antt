use Rattle.take_next.proofs.TakeSome.{Going}
use Rattle.take_next.proofs.to_transmit.Given as goal

abbrev pub invariant-loop-i : goal.invariant-loop-i
invariant-loop-i l = Going l.q l.s l.k l.drive.0 l.initial.sent l.queue l.outgoing l.headers l.initial.buf l.sent l.buf l.p l.i
