-- The parts of a drive in sequence are the model's `poll_drive`. The queue has room: the queue at rest and one more state packet leave a
-- place for every number.
use Prim.Native.Nat.{ℕ, ◌+◌, ◌-◌, ◌≤◌}
use native.Mathlib.Omega.{arith}
use mathlib.Core.Path.{◌≡◌, refl, ap, sym, subst, ◌∙◌}
use mathlib.Core.List.{List}
use mathlib.Core.Bool.{true}
use lib.ListN.{length}
use Rattle.model.specs.Lists.{Bytes}
use Rattle.model.specs.Driving as drive
use Rattle.records.specs.declared.Queue.{Queue}
use Rattle.records.specs.declared.Stream.{Stream}
use Rattle.records.specs.declared.Totals.{Totals}
use Rattle.records.specs.Seen.{seen, formed_queue}
use Rattle.records.proofs.FormedQueue.{queue_said, queue_says}
use Rattle.drive_flush.specs.declared.Flushed.{Flushed}
use Rattle.drive_flush.specs.Flushing as waiting
use Rattle.drive_drain.specs.Draining.{LeavesToTake}
use Rattle.records.specs.declared.StreamAndTotals.{StreamAndTotals}
use Rattle.drive_settle.specs.Settling.{Settled}
use Rattle.drive_timeouts.specs.Timeouts.{with_polled, Checked}
use Rattle.drive_all.specs.Poll.{driven_at, CanDrive, Begun, Flushable, PollFlushes, Polls}

-- settling and timeouts

module _ {s : Stream} {clock : ℕ} {sent queue : List ℕ} {headers : Bytes} (d : CanDrive s clock sent queue headers) where
  module _ {t : Totals} {a : StreamAndTotals} {sent' : List ℕ} (x : Settled (driven_at clock s) t clock sent a sent') where
    queue_same : a.stream.queue ≡ s.queue
    queue_same = ap (λ (z : Stream). z.queue) x.others

    module _ {r : StreamAndTotals} {sent'' queue' : List ℕ} {headers' : Bytes} (y : Checked a.stream a.totals clock sent' queue headers r sent'' queue' headers') where
      still_formed : formed_queue a.stream.queue queue ≡ true
      still_formed = subst (λ (q : Queue). formed_queue q queue ≡ true) (sym queue_same) d.formed

      -- settling reduces the numbers that may be queued, and keeps the entries
      room : r.stream.queue.count + (r.stream.sender.seq - r.stream.sender.remote_acked) ≤ 128
      room =
          let count = ap (λ (q : Queue). q.count) queue_same in
          let seq₁ = x.seq in
          let moved = x.moved in
          let seq₂ = y.seq in
          let acked = y.acked in
          omega (arith, y.pushed.count, d.queued, d.acked.width)

      pub begins : Begun s t clock sent queue headers r sent'' queue' headers'
      unfolding seen
      begins =
          record {
            seen_after = λ l. y.seen_after still_formed l ∙ ap (drive.check_timeouts clock) (x.seen_after (with_polled sent queue headers l));
            receiver = y.receiver ∙ ap (λ (z : Stream). z.receiver) x.others;
            flushable =
                record {
                  stored = y.stored;
                  rest = y.pushed.left ∙ ap (λ (q : Queue). q.left) queue_same ∙ d.rest;
                  room = room;
                  formed = queue_says r.stream.queue queue' (y.pushed.formed still_formed);
                };
            whole = y.pushed.whole;
          }

-- flushing

pub flushes : {s : Stream} {sent queue : List ℕ} {f : Flushed} {sent' queue' : List ℕ} {left : Queue} → Flushable s sent queue
    → waiting.Flushes s.sender s.queue sent queue f sent' queue' → length queue' ≡ 128 → LeavesToTake f.queue left
    → PollFlushes s sent queue (waiting.with_flushed f.sender left s) sent' queue'
flushes {s} {sent} {queue} {f} {sent'} {queue'} w x long y =
    let formed = x.formed w.formed in
    let fits : f.queue.count ≤ length queue' = omega (arith, formed.count) in
    record {
      seen_after = λ t l.
          y.end (waiting.with_flushed f.sender f.queue s) t (waiting.with_queued sent' queue' l) fits
          ∙ ap drive.left_to_take (x.end s t l);
      receiver = refl;
      formed = y.formed queue' formed;
    }

-- the whole

pub polls : {s : Stream} {t : Totals} {clock : ℕ} {sent queue : List ℕ} {headers : Bytes} {b : StreamAndTotals} {sent' queue' : List ℕ} {headers' : Bytes}
    → Begun s t clock sent queue headers b sent' queue' headers' → {r : Stream} {sent'' queue'' : List ℕ} → PollFlushes b.stream sent' queue' r sent'' queue''
    → Polls s t clock sent queue headers (record { stream = r; totals = b.totals }) sent'' queue'' headers'
unfolding drive.poll_drive
polls {sent = sent} {queue} {headers} {b} {sent'} {queue'} {headers'} x {r} {sent''} {queue''} y =
    record {
      seen_after = λ l. y.seen_after b.totals (with_polled sent' queue' headers' l) ∙ ap (λ e. drive.left_to_take (drive.flush e)) (x.seen_after l);
      receiver = y.receiver ∙ x.receiver;
      formed = queue_said r.queue queue'' y.formed;
      whole = x.whole;
    }
