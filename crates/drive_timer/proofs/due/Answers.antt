-- `drive_timer::due` meets its contract: each branch has decided the first test.
use Rattle.std.proofs.Common.{arith}
use Rattle.drive_timer.proofs.TimerLaws.{tested}
use Rattle.drive_timer.proofs.due.Goals as goal

pub returns-then-le : goal.returns-then-le
returns-then-le c = let e = c.le.ensures in let i = c.if-le.true in tested c.args.t c.args.clock.0 c.args.s _ (grind arith)

pub returns-else-le : goal.returns-else-le
returns-else-le c = let e = c.le.ensures in let i = c.if-le.false in tested c.args.t c.args.clock.0 c.args.s _ (grind arith)
