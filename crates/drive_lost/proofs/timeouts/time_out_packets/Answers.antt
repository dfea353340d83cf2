-- `drive_lost::timeouts::time_out_packets` meets its contract. The loop's invariant is `Going`: the model's loop from number n on gives the
-- result of the whole loop.
use mathlib.Core.Path.{sym, ◌∙◌}
use native.Mathlib.Omega.{arith}
use borrow.Author.Tests.{not-true}
use Rattle.drive_lost.proofs.TimeOut.{passes, leaves_again, ends_failed, ends}
use Rattle.drive_lost.proofs.timeouts.time_out_packets.Goals.{in-Some+then-not-p+else-p, in_default}
use Rattle.drive_lost.proofs.timeouts.time_out_packets.Goals as goal

pub returns-then-p : goal.returns-then-p
returns-then-p c = ends_failed c.loop-n.invariant c.loop-n-test.true (grind arith) (grind arith) (grind arith)

pub loop-n-preserved : goal.loop-n-preserved
loop-n-preserved c =
    elim c.match-find_sent.branch [
      | in-Some+then-not-p+else-p w ↦
          rw (w.sent-is, w.inflight-is)
          (leaves_again c.loop-n.invariant c.loop-n-test.true (omega arith)
          w.in-Some.p w.lost_packet.result (sym c.find_sent.ensures ∙ w.in-Some.is)
          (not-true _ w.if-not-p.true) w.if-p.false
          w.lost_packet.ensures _ w.put_sent.ensures _ w.saturating_sub-inflight.ensures)
      | in_default w ↦
          rw (w.sent-is, w.inflight-is)
          (passes c.loop-n.invariant c.loop-n-test.true (grind arith))
    ]

pub returns : goal.returns
returns c = ends c.loop-n.invariant c.loop-n-test.false
