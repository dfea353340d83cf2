use Rattle.deliver_data.proofs.AbsorbLaws.{Advancing}
use Rattle.deliver_data.proofs.in_order.Given as goal

abbrev pub invariant-loop-n : goal.invariant-loop-n
invariant-loop-n l = Advancing l.fn.r l.held l.n
