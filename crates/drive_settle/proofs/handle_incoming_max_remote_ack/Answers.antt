-- `drive_settle::handle_incoming_max_remote_ack` meets its contract: the numbers, then the deadline.
use Rattle.drive_settle.proofs.SettleAll.{settled}
use Rattle.drive_settle.proofs.handle_incoming_max_remote_ack.Goals as goal

pub returns : goal.returns
returns c = settled _ _ _ _ c.settle_numbers-a.ensures c.restart.ensures
