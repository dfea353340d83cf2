use Rattle.packet_blocks.specs.Reader.{blocks_left}
use Rattle.deliver_acks.proofs.AckRun.{Sacking}
use Rattle.deliver_acks.proofs.handle_incoming_sacks.Given as goal

abbrev pub invariant-loop-block : goal.invariant-loop-block
invariant-loop-block l = Sacking l.clock.0 l.payload l.initial.a l.initial.sent l.a l.sent (blocks_left l.block-iterator)
