use Rattle.drive_drain.proofs.Drain.{Searching}
use Rattle.drive_drain.proofs.any_stored.Given as goal

abbrev pub invariant-loop-n : goal.invariant-loop-n
invariant-loop-n l = Searching l.fn.s l.sent l.n
