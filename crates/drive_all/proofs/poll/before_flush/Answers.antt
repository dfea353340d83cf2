-- `drive_all::poll::before_flush` meets its contract: the clock, the largest ack, the timeouts.
use Rattle.drive_all.proofs.Whole.{begins}
use Rattle.drive_all.proofs.poll.before_flush.Goals as goal

pub returns : goal.returns
returns c =
    begins c.requires (rw c.clocked.ensures at c.handle_incoming_max_remote_ack-a.ensures) c.poll_check_timeouts.ensures
