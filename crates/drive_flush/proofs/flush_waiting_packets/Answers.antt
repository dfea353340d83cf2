-- `drive_flush::flush_waiting_packets` meets its contract. The loop's invariant is `Going`: the model's loop from number n on gives the
-- result of the whole loop.
use mathlib.Core.Path.{sym, ◌∙◌}
use native.Mathlib.Omega.{arith}
use borrow.Author.Rules.{rules}
use Rattle.drive_flush.proofs.Flush.{starts, passes, goes_again, ends_full, ends}
use Rattle.drive_flush.proofs.flush_waiting_packets.Goals.{in-Some+then-p+else-not-fits, in_default}
use Rattle.drive_flush.proofs.flush_waiting_packets.Goals as goal

pub loop-n-init : goal.loop-n-init
loop-n-init c = starts _ _ _ _ c.requires (search rules) (search rules)

pub loop-n-preserved : goal.loop-n-preserved
loop-n-preserved c =
    elim c.match-find_sent.branch [
      | in-Some+then-p+else-not-fits w ↦
          rw (w.sent-is, w.queue-is, w.inflight-is, w.count-is)
          (goes_again c.loop-n.invariant c.loop-n-test.true (omega arith)
          w.in-Some.p (sym c.find_sent.ensures ∙ w.in-Some.is) w.if-p.true
          (sym w.fits.ensures ∙ w.if-not-fits.false) _ _ w.flush_packet.ensures)
      | in_default w ↦
          rw (w.sent-is, w.queue-is, w.inflight-is, w.count-is)
          (passes c.loop-n.invariant c.loop-n-test.true (grind arith))
    ]

pub returns-then-not-fits : goal.returns-then-not-fits
returns-then-not-fits c = ends_full c.loop-n.invariant c.loop-n-test.true (grind arith) (grind arith) (grind arith)

pub returns-after-loop-n : goal.returns-after-loop-n
returns-after-loop-n c = ends c.loop-n.invariant c.loop-n-test.false
