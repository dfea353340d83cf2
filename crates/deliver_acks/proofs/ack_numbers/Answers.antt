-- `deliver_acks::ack_numbers` meets its contract. The loop's invariant is `Running`.
use Rattle.deliver_acks.proofs.AckRun.{run_turn, run_ends}
use Rattle.deliver_acks.proofs.ack_numbers.Goals as goal

pub loop-n-preserved : goal.loop-n-preserved
loop-n-preserved c = run_turn c.loop-n.invariant c.loop-n-test.true c.handle_remote_ack-a.ensures

pub returns : goal.returns
returns c = run_ends c.loop-n.invariant c.loop-n-test.false
