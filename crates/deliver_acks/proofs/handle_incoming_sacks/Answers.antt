-- `deliver_acks::handle_incoming_sacks` meets its contract. The loop's invariant is `Sacking`, of the blocks that the reader has left.
use Rattle.packet_blocks.proofs.Reader.{left_first, left_none}
use Rattle.deliver_acks.proofs.AckRun.{sack_turn, sack_end}
use Rattle.deliver_acks.proofs.handle_incoming_sacks.Goals as goal

pub loop-block-preserved : goal.loop-block-preserved
loop-block-preserved c = sack_turn c.loop-block.invariant (left_first c.in-Some.ensures.steps) c.ack_block-a.ensures

pub returns : goal.returns
returns c = sack_end c.loop-block.invariant (left_none c.in-None.ensures.steps)
