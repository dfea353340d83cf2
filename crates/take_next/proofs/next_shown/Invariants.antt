-- The loop's invariant: the packets of the entries passed have left the store.
use Rattle.take_next.proofs.LookNext.{Searching}
use Rattle.take_next.proofs.next_shown.Given as goal

abbrev pub invariant-loop-n : goal.invariant-loop-n
invariant-loop-n l = Searching l.q l.s l.sent l.queue l.n
