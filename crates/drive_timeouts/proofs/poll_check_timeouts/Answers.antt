-- `drive_timeouts::poll_check_timeouts` meets its contract: not due, all packets lost, or one failed.
use mathlib.Core.Path.{subst}
use Rattle.drive_timer.specs.Timer.{IsDue}
use Rattle.drive_timeouts.proofs.TimeOut.{checks_nothing, checks_lost, checks_failed}
use Rattle.drive_timeouts.proofs.poll_check_timeouts.Goals as goal

pub returns-then-lost : goal.returns-then-lost
returns-then-lost c =
    checks_failed _ _ _ _ _ _ (subst (IsDue _ _ _) c.if-due.true c.due.ensures) c.consider_lost-lost.ensures c.if-lost.true
    c.timed_out.ensures

pub returns-then-due : goal.returns-then-due
returns-then-due c =
    checks_lost _ _ _ _ _ _ (subst (IsDue _ _ _) c.if-due.true c.due.ensures) c.consider_lost-lost.ensures c.requires.able.whole
    c.if-lost.false

pub returns : goal.returns
returns c =
    let p = c.requires in
    checks_nothing _ _ _ _ _ _ p.able.whole p.losable.stored (subst (IsDue _ _ _) c.if-due.false c.due.ensures)
