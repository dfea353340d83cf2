-- `deliver_acks::ack_block` meets its contract: the run over the block's numbers in the window is the run over all of its numbers.
use Rattle.deliver_acks.proofs.AckRun.{span_acked}
use Rattle.deliver_acks.proofs.ack_block.Goals as goal

pub returns : goal.returns
returns c =
    span_acked _ _ _ _ _ c.max-from.ensures c.min-to.ensures c.ack_numbers.ensures
