-- The timeout check on the records agrees with the model's on what is seen: by the timer's laws if it is due, and by that of `terminate`
-- if a packet failed. If the timer is not due, nothing changes.
use Prim.Native.Nat.{ℕ, ◌-◌}
use native.Mathlib.Omega.{arith}
use mathlib.Core.Path.{◌≡◌, refl, ap, ap₂, sym, subst, ◌∙◌}
use mathlib.Core.List.{List, []}
use mathlib.Core.Bool.{Bool, true, false}
use lib.ListN.{length}
use Rattle.model.specs.Lists.{Bytes}
use Rattle.model.specs.Stream as model
use Rattle.model.specs.Driving as drive
use Rattle.records.specs.declared.Queue.{Queue}
use Rattle.records.specs.declared.Sender.{Sender}
use Rattle.records.specs.declared.Timing.{Timing}
use Rattle.records.specs.declared.Stream.{Stream}
use Rattle.records.specs.declared.Totals.{Totals}
use Rattle.records.specs.Seen.{Lent, seen, formed_queue}
use Rattle.records.specs.Setters.{with_words}
use Rattle.close_state.specs.State.{Pushed}
use Rattle.drive_lost.specs.declared.timeouts.Passed.{Passed}
use Rattle.drive_lost.specs.Packets.{AllSentBounds}
use Rattle.drive_timer.specs.Timer.{timing_seen, IsDue, Shrinks}
use Rattle.drive_lost.specs.Timeouts as pass
use Rattle.records.specs.declared.StreamAndTotals.{StreamAndTotals}
use Rattle.drive_timeouts.specs.declared.Lost.{Lost}
use Rattle.drive_settle.specs.Settling.{with_timed}
use Rattle.drive_timeouts.specs.Timeouts.{Losable, Loses, TimesOutStream, with_polled, Checked}

-- the packets that are considered lost

module _ {s : Sender} {r : Sender} (x : Shrinks s r) where
  shrunk_seq : r.seq ≡ s.seq
  shrunk_seq = ap (λ (z : model.Sender). z.seq) (x.seen [] [])

  shrunk_acked : r.remote_acked ≡ s.remote_acked
  shrunk_acked = ap (λ (z : model.Sender). z.remote_acked) (x.seen [] [])

pub shrunk_stored : {s : Stream} {clock : ℕ} {sent : List ℕ} {r : Sender} → Losable s clock sent → Shrinks s.sender r → AllSentBounds r sent
shrunk_stored w x n low high is =
    let seq = shrunk_seq x in
    let acked = shrunk_acked x in
    w.stored n (omega arith) (omega arith) is

pub loses : (s : Stream) (clock : ℕ) (sent : List ℕ) (later : Timing) (smaller : Sender) (p : Passed) (sent' : List ℕ)
    → timing_seen later ≡ drive.backed_off clock (timing_seen s.timing) → Shrinks s.sender smaller → pass.TimesOutPackets smaller sent p sent'
    → Loses s clock sent (record { stream = with_timed p.sender later s; failed = p.failed }) sent'
unfolding seen
loses s clock sent later smaller p sent' backs shrinks x =
    record {
      end = λ t l.
          x.end (with_timed smaller later s) t l
          ∙ ap₂ (λ (a : model.Sender) (b : model.Timing). drive.time_out_loop (a.seq - a.remote_acked) a.remote_acked (model.with_timing b (model.with_sender a (seen s t (with_words sent l)))))
          (shrinks.seen sent l.outgoing) backs;
      others = refl;
      seq = ap (λ (z : Sender). z.seq) x.numbers ∙ shrunk_seq shrinks;
      acked = ap (λ (z : Sender). z.remote_acked) x.numbers ∙ shrunk_acked shrinks;
      stored = x.stored;
    }

module _ {s : Stream} {clock : ℕ} {sent : List ℕ} {lost : Lost} {sent' : List ℕ} (x : Loses s clock sent lost sent') where
  queue_same : lost.stream.queue ≡ s.queue
  queue_same = ap (λ (z : Stream). z.queue) x.others

-- the whole check

pub no_more : (q : Queue) (queue : List ℕ) (headers : Bytes) → length headers ≡ 1_280 → Pushed q queue q queue headers
no_more q queue headers whole = record { left = refl; count = omega arith; states = omega arith; formed = λ f. f; whole = whole }

module _ (s : Stream) (t : Totals) (clock : ℕ) (sent queue : List ℕ) (headers : Bytes) where
  -- not due
  pub checks_nothing : length headers ≡ 1_280 → AllSentBounds s.sender sent → IsDue s.timing clock s.sender false
      → Checked s t clock sent queue headers (record { stream = s; totals = t }) sent queue headers
  unfolding drive.check_timeouts
  checks_nothing whole stored is =
      record {
        seen_after = λ f l. rw (sym (is.test s t (with_polled sent queue headers l) refl refl)) refl;
        receiver = refl;
        seq = refl;
        acked = refl;
        stored = stored;
        pushed = no_more s.queue queue headers whole;
      }

  module _ (is : IsDue s.timing clock s.sender true) {lost : Lost} {sent' : List ℕ} (x : Loses s clock sent lost sent') where
    -- the rest of the check, after the pass
    due_seen : (l : Lent)
        → drive.time_out_end (record { failed = lost.failed; end = seen lost.stream t (with_polled sent' queue headers l) })
        ≡ drive.check_timeouts clock (seen s t (with_polled sent queue headers l))
    unfolding drive.check_timeouts seen
    due_seen l =
        ap drive.time_out_end (x.end t (with_polled sent queue headers l))
        ∙ rw (sym (is.test s t (with_polled sent queue headers l) refl refl)) refl

    -- no packet failed
    pub checks_lost : length headers ≡ 1_280 → lost.failed ≡ false → Checked s t clock sent queue headers (record { stream = lost.stream; totals = t }) sent' queue headers
    checks_lost whole fine =
        record {
          seen_after = λ f l.
              ap (λ (b : Bool). drive.time_out_end (record { failed = b; end = seen lost.stream t (with_polled sent' queue headers l) })) (sym fine)
              ∙ due_seen l;
          receiver = ap (λ (z : Stream). z.receiver) x.others;
          seq = x.seq;
          acked = x.acked;
          stored = x.stored;
          pushed = subst (λ (q : Queue). Pushed s.queue queue q queue headers) (sym (queue_same x)) (no_more s.queue queue headers whole);
        }

    -- a packet failed
    pub checks_failed : lost.failed ≡ true → {r : StreamAndTotals} {queue' : List ℕ} {headers' : Bytes} → TimesOutStream lost.stream t queue headers r queue' headers'
        → Checked s t clock sent queue headers r sent' queue' headers'
    checks_failed fails {r} {queue'} {headers'} y =
        record {
          seen_after = λ f l.
              y.seen_after (subst (λ (q : Queue). formed_queue q queue ≡ true) (sym (queue_same x)) f) (with_words sent' l)
              ∙ ap (λ (b : Bool). drive.time_out_end (record { failed = b; end = seen lost.stream t (with_polled sent' queue headers l) })) (sym fails)
              ∙ due_seen l;
          receiver = ap (λ (z : Stream). z.receiver) y.others ∙ ap (λ (z : Stream). z.receiver) x.others;
          seq = ap (λ (z : Stream). z.sender.seq) y.others ∙ x.seq;
          acked = ap (λ (z : Stream). z.sender.remote_acked) y.others ∙ x.acked;
          stored = subst (λ (z : Sender). AllSentBounds z sent') (sym (ap (λ (z : Stream). z.sender) y.others)) x.stored;
          pushed = subst (λ (q : Queue). Pushed q queue r.stream.queue queue' headers') (queue_same x) y.pushed;
        }
