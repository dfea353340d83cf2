-- `drive_all::poll::flush` meets its contract: waiting packets are queued, then everything queued is left to take.
use borrow.Author.Rules.{rules}
use Rattle.drive_all.proofs.Whole.{flushes}
use Rattle.drive_all.proofs.poll.flush.Goals as goal

pub returns : goal.returns
returns c =
    flushes c.requires c.flush_waiting_packets-f.ensures (search rules) c.left_to_take.ensures
