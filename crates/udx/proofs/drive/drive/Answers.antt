-- `udx::drive::drive` meets its contract: the refusals are the model's list, and an accepted drive gives the model's answer.
use Rattle.udx.proofs.DriveLaws.{drive_done, drivable, drive_refused, drive_answers}
use Rattle.udx.proofs.drive.drive.Goals as goal

pub returns-in-Err : goal.returns-in-Err
returns-in-Err c = search drive_refused

pub returns-then-drained : goal.returns-then-drained
returns-then-drained c = search drive_done

pub poll_drive-p-requires : goal.poll_drive-p-requires
poll_drive-p-requires c = search drivable

pub returns : goal.returns
returns c = search drive_answers
