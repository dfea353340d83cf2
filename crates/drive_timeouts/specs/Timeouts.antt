-- Timeouts on the records: the packets that a due timer considers lost, the stream that ends by TimedOut, and the whole check. Each agrees
-- with the model on what is seen.
use Rattle.std.specs.Prelude.{ℕ, ◌-◌, ◌*◌, ◌^◌, ◌≤◌, ◌<◌, ◌≡◌, List, true, length}
use Rattle.error.specs.declared.UdxError.TheVariants as error
use Rattle.model.specs.Lists.{Bytes}
use Rattle.model.specs.Driving as drive
use Rattle.records.specs.declared.Stream.{Stream}
use Rattle.records.specs.declared.Totals.{Totals}
use Rattle.records.specs.Seen.{Lent, seen, formed_queue}
use Rattle.records.specs.Setters.{with_words}
use Rattle.close_state.specs.State.{Pushable, Pushed, Terminates}
use Rattle.drive_lost.specs.Packets.{AllSentBounds}
use Rattle.records.specs.declared.StreamAndTotals.{StreamAndTotals}
use Rattle.drive_timeouts.specs.declared.Lost.{Lost}
use Rattle.drive_settle.specs.Settling.{with_timed}

-- guaranteed by 01's rules and refusal 4
pub record Losable (s : Stream) (clock : ℕ) (sent : List ℕ) : Type 0 where
  pub rto : s.timing.rtt.rto.0 ≤ 5 * 2 ^ 60
  pub early : clock < 2 ^ 60
  pub stored : AllSentBounds s.sender sent

-- 01, call 4: "deadline = now + 2 × rto, the window becomes max(1,400, half), and each stored packet not waiting, ascending, fails with
-- TimedOut if transmits exceeds 5, else gains a transmit, waits and leaves inflight"
pub record Loses (s : Stream) (clock : ℕ) (sent : List ℕ) (r : Lost) (sent' : List ℕ) : Type 0 where
  pub end : (t : Totals) (l : Lent)
      → record { failed = r.failed; end = seen r.stream t (with_words sent' l) }
      ≡ drive.time_out_loop (s.sender.seq - s.sender.remote_acked) s.sender.remote_acked (drive.due_end clock (seen s t (with_words sent l)))
  pub others : r.stream ≡ with_timed r.stream.sender r.stream.timing s
  pub seq : r.stream.sender.seq ≡ s.sender.seq
  pub acked : r.stream.sender.remote_acked ≡ s.sender.remote_acked
  pub stored : AllSentBounds r.stream.sender sent'

-- 01, call 4: "TimedOut terminates as in terminate"
abbrev pub TimesOutStream : Stream → Totals → (queue : List ℕ) → (headers : Bytes) → StreamAndTotals → (queue' : List ℕ) → (headers' : Bytes) → Type 0
TimesOutStream s t queue headers r queue' headers' = Terminates s t error.TimedOut queue headers r queue' headers'

-- what the whole check needs: also room for the state packet
pub record Checkable (s : Stream) (clock : ℕ) (sent : List ℕ) (headers : Bytes) : Type 0 where
  pub losable : Losable s clock sent
  pub able : Pushable s.queue (length headers)

-- the lent words and bytes that a drive changes
abbrev pub with_polled : (sent queue : List ℕ) → (headers : Bytes) → Lent → Lent
with_polled sent queue headers l =
    record { sent = sent; held = l.held; queue = queue; outgoing = l.outgoing; incoming = l.incoming; headers = headers }

-- poll_check_timeouts
pub record Checked (s : Stream) (t : Totals) (clock : ℕ) (sent queue : List ℕ) (headers : Bytes) (r : StreamAndTotals) (sent' queue' : List ℕ) (headers' : Bytes) : Type 0 where
  pub seen_after : formed_queue s.queue queue ≡ true → (l : Lent)
      → seen r.stream r.totals (with_polled sent' queue' headers' l) ≡ drive.check_timeouts clock (seen s t (with_polled sent queue headers l))
  pub receiver : r.stream.receiver ≡ s.receiver
  pub seq : r.stream.sender.seq ≡ s.sender.seq
  pub acked : r.stream.sender.remote_acked ≡ s.sender.remote_acked
  pub stored : AllSentBounds r.stream.sender sent'
  pub pushed : Pushed s.queue queue r.stream.queue queue' headers'
