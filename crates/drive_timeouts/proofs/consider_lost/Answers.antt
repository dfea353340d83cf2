-- `drive_timeouts::consider_lost` meets its contract: the timer, the window, and the pass over the packets.
use Rattle.drive_timeouts.proofs.TimeOut.{shrunk_stored, loses}
use Rattle.drive_timeouts.proofs.consider_lost.Goals as goal

pub time_out_packets-p-requires : goal.time_out_packets-p-requires
time_out_packets-p-requires c = shrunk_stored c.requires c.shrunk-smaller.ensures

pub returns : goal.returns
returns c = loses _ _ _ _ _ _ _ c.backed_off-later.ensures c.shrunk-smaller.ensures c.time_out_packets-p.ensures
