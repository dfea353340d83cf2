-- `drive_timer::backed_off` meets its contract: the deadline is the model's.
use mathlib.Core.Path.{refl}
use Rattle.model.specs.Driving.{backed_off}
use Rattle.drive_timer.proofs.backed_off.Goals as goal

pub returns : goal.returns
unfolding backed_off
returns c = refl
