-- `drive_drain::left_to_take` meets its contract: the law of the queue at the end of a drive.
use Rattle.drive_drain.proofs.Drain.{leaves}
use Rattle.drive_drain.proofs.left_to_take.Goals as goal

pub returns : goal.returns
returns c = leaves _ c.requires
