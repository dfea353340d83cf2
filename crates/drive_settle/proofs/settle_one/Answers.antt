-- `drive_settle::settle_one` meets its contract: the number is acked, and remote acked moves past it.
use Rattle.drive_settle.proofs.SettleOne.{settles_one}
use Rattle.drive_settle.proofs.settle_one.Goals as goal

pub returns : goal.returns
returns c = settles_one _ _ _ _ _ c.requires.1 c.handle_remote_ack-b.ensures
