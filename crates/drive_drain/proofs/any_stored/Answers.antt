-- `drive_drain::any_stored` meets its contract. The loop's invariant is `Searching`: none of the numbers passed is stored.
use native.Mathlib.Omega.{arith}
use Rattle.drive_drain.proofs.Drain.{none_stored, one_stored, not_stored}
use Rattle.drive_drain.proofs.any_stored.Goals as goal

pub returns-then-is_some : goal.returns-then-is_some
returns-then-is_some c = one_stored c.loop-n.invariant c.loop-n-test.true (grind arith)

pub loop-n-preserved : goal.loop-n-preserved
loop-n-preserved c = not_stored c.loop-n.invariant c.loop-n-test.true (grind arith)

pub returns : goal.returns
returns c = none_stored c.loop-n.invariant c.loop-n-test.false
