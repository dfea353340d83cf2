-- `drive_timer::restarted` meets its contract: each branch is one of the model's.
use mathlib.Core.Path.{refl}
use Rattle.model.specs.Driving.{restarted}
use Rattle.drive_timer.proofs.restarted.Goals as goal

pub returns-then-moved : goal.returns-then-moved
unfolding restarted
returns-then-moved c = rw c.if-moved.true refl

pub returns-else-moved : goal.returns-else-moved
unfolding restarted
returns-else-moved c = rw c.if-moved.false refl
