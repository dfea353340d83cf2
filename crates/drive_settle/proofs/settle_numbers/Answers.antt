-- `drive_settle::settle_numbers` meets its contract. The loop's invariant is `Going`; the count of numbers left falls.
use Rattle.drive_settle.proofs.SettleAll.{settles_next, all_settled}
use Rattle.drive_settle.proofs.settle_numbers.Goals as goal

pub loop-b-preserved : goal.loop-b-preserved
loop-b-preserved c = settles_next c.loop-b.invariant c.loop-b-test.true c.settle_one-b.ensures

pub returns : goal.returns
returns c = all_settled c.loop-b.invariant c.loop-b-test.false
