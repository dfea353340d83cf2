-- A whole drive on the records: its precondition, and that what is seen agrees with the model.
use Rattle.std.specs.Prelude.{ℕ, ◌+◌, ◌-◌, ◌≤◌, ◌≡◌, List, true, length}
use Rattle.rtt.specs.Estimate.{nanos}
use Rattle.model.specs.Lists.{Bytes}
use Rattle.model.specs.Driving as drive
use Rattle.records.specs.declared.Stream.{Stream}
use Rattle.records.specs.declared.Totals.{Totals}
use Rattle.records.specs.Seen.{Lent, seen, formed_queue, QueueFormed}
use Rattle.drive_lost.specs.Packets.{AllSentBounds}
use Rattle.drive_flush.specs.Flushing.{with_queued}
use Rattle.records.specs.declared.StreamAndTotals.{StreamAndTotals}
use Rattle.drive_settle.specs.Settling.{Acked}
use Rattle.drive_timeouts.specs.Timeouts.{with_polled}

-- the stream with this clock as that of the last accepted call and of the last drive
abbrev pub driven_at : ℕ → Stream → Stream
driven_at clock s =
    record {
      ids = s.ids;
      sender = s.sender;
      receiver = s.receiver;
      queue = s.queue;
      timing = s.timing;
      ending = s.ending;
      clocks = record { last = nanos clock; drive = nanos clock };
    }

-- guaranteed by 01's rules and the refusals of a drive: with nothing left to take, the queue has at most 63 state packets and one entry
-- per number, so one more state packet and every number once more still fit
pub record CanDrive (s : Stream) (clock : ℕ) (sent queue : List ℕ) (headers : Bytes) : Type 0 where
  pub acked : Acked s clock
  pub stored : AllSentBounds s.sender sent
  pub whole : length headers ≡ 1_280
  pub rest : s.queue.left ≡ 0
  pub queued : s.queue.count ≤ 95
  pub places : s.queue.states ≤ 63
  pub formed : formed_queue s.queue queue ≡ true

-- what flushing needs
pub record Flushable (s : Stream) (sent queue : List ℕ) : Type 0 where
  pub stored : AllSentBounds s.sender sent
  pub rest : s.queue.left ≡ 0
  pub room : s.queue.count + (s.sender.seq - s.sender.remote_acked) ≤ 128
  pub formed : QueueFormed s.queue queue

-- settled and checked for timeouts
pub record Begun (s : Stream) (t : Totals) (clock : ℕ) (sent queue : List ℕ) (headers : Bytes) (r : StreamAndTotals) (sent' queue' : List ℕ) (headers' : Bytes) : Type 0 where
  pub seen_after : (l : Lent)
      → seen r.stream r.totals (with_polled sent' queue' headers' l)
      ≡ drive.check_timeouts clock (drive.settle clock (drive.drive_clock clock (seen s t (with_polled sent queue headers l))))
  pub receiver : r.stream.receiver ≡ s.receiver
  pub flushable : Flushable r.stream sent' queue'
  pub whole : length headers' ≡ 1_280

-- 01, call 4: "Then waiting packets are queued ascending until inflight + length exceeds the window", and everything queued is left to take
pub record PollFlushes (s : Stream) (sent queue : List ℕ) (r : Stream) (sent' queue' : List ℕ) : Type 0 where
  pub seen_after : (t : Totals) (l : Lent) → seen r t (with_queued sent' queue' l) ≡ drive.left_to_take (drive.flush (seen s t (with_queued sent queue l)))
  pub receiver : r.receiver ≡ s.receiver
  pub formed : QueueFormed r.queue queue'

-- poll_drive
pub record Polls (s : Stream) (t : Totals) (clock : ℕ) (sent queue : List ℕ) (headers : Bytes) (r : StreamAndTotals) (sent' queue' : List ℕ) (headers' : Bytes) : Type 0 where
  pub seen_after : (l : Lent)
      → seen r.stream r.totals (with_polled sent' queue' headers' l) ≡ drive.poll_drive clock (seen s t (with_polled sent queue headers l))
  pub receiver : r.stream.receiver ≡ s.receiver
  pub formed : formed_queue r.stream.queue queue' ≡ true
  pub whole : length headers' ≡ 1_280
