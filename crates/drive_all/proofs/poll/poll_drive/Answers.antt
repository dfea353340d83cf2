-- `drive_all::poll::poll_drive` meets its contract: the parts one after another.
use Rattle.drive_all.proofs.Whole.{polls}
use Rattle.drive_all.proofs.poll.poll_drive.Goals as goal

pub returns : goal.returns
returns c = polls c.before_flush-b.ensures c.flush.ensures
