use Rattle.rules_queue.proofs.Entries.{Going}
use Rattle.rules_queue.proofs.queue.entries.Given as goal

abbrev pub invariant-loop-i : goal.invariant-loop-i
invariant-loop-i l =
    Going l.acked l.seq l.first l.end l.sent l.queue l.i l.marks l.good l.fresh l.states
