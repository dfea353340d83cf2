-- Settling on the records: one number, all of them, and the deadline afterwards. Each agrees with the model on what is seen.
use Rattle.std.specs.Prelude.{ℕ, ◌+◌, ◌-◌, ◌^◌, ◌≤◌, ◌<◌, ◌≡◌, List, ltb}
use Rattle.rtt.specs.Estimate.{InRange}
use Rattle.model.specs.Driving as drive
use Rattle.records.specs.declared.Sender.{Sender}
use Rattle.records.specs.declared.Timing.{Timing}
use Rattle.records.specs.declared.Stream.{Stream}
use Rattle.records.specs.declared.Totals.{Totals}
use Rattle.records.specs.Seen.{Lent, seen}
use Rattle.records.specs.Setters.{with_words}
use Rattle.deliver_acks.specs.declared.Acks.{Acks}
use Rattle.deliver_acks.specs.Acked.{with_acks}
use Rattle.drive_timer.specs.Timer.{timing_seen}
use Rattle.drive_lost.specs.Packets.{AllSentBounds}
use Rattle.records.specs.declared.StreamAndTotals.{StreamAndTotals}

-- remote_acked += 1
abbrev pub past_one : Sender → Sender
past_one s =
    record { seq = s.seq; remote_acked = s.remote_acked + 1; largest_ack = s.largest_ack; inflight = s.inflight; cwnd = s.cwnd }

-- resets the largest ack
abbrev pub no_ack_sender : Sender → Sender
no_ack_sender s = record { seq = s.seq; remote_acked = s.remote_acked; largest_ack = 0; inflight = s.inflight; cwnd = s.cwnd }

-- one number, for any stream with these numbers, over any stores
pub record SettlesOne (clock : ℕ) (a : Acks) (sent : List ℕ) (r : Acks) (sent' : List ℕ) : Type 0 where
  pub seen_after : (s : Stream) (l : Lent)
      → seen (with_acks r s) r.totals (with_words sent' l) ≡ drive.settle_one clock (seen (with_acks a s) a.totals (with_words sent l))
  pub seq : r.sender.seq ≡ a.sender.seq
  pub moved : r.sender.remote_acked ≡ a.sender.remote_acked + 1
  pub range : InRange r.rtt

-- guaranteed by 01's rules for the numbers to settle
pub record Settleable (s : Sender) (to : ℕ) : Type 0 where
  pub high : to ≤ s.seq
  pub width : s.seq ≤ s.remote_acked + 32

-- 01, call 4: "settle the largest ack in ascending order"
pub record Settles (clock to : ℕ) (a : Acks) (sent : List ℕ) (r : Acks) (sent' : List ℕ) : Type 0 where
  pub seen_after : (s : Stream) (l : Lent)
      → seen (with_acks r s) r.totals (with_words sent' l)
      ≡ drive.settle_loop clock (to - a.sender.remote_acked) (seen (with_acks a s) a.totals (with_words sent l))
  pub seq : r.sender.seq ≡ a.sender.seq
  pub moved : a.sender.remote_acked ≤ r.sender.remote_acked
  pub range : InRange r.rtt

-- the stream with another sender and timing
abbrev pub with_timed : Sender → Timing → Stream → Stream
with_timed x t s =
    record {
      ids = s.ids;
      sender = x;
      receiver = s.receiver;
      queue = s.queue;
      timing = t;
      ending = s.ending;
      clocks = s.clocks;
    }

-- 01, call 4: "and if it moved, deadline = now + rto", with the estimate that settling left
pub record Restarts (s : Stream) (clock : ℕ) (a : Acks) (r : StreamAndTotals) : Type 0 where
  pub timing : timing_seen r.stream.timing
      ≡ drive.restarted clock (ltb s.sender.remote_acked s.sender.largest_ack) (timing_seen (with_acks a s).timing)
  pub sender : r.stream.sender ≡ no_ack_sender a.sender
  pub totals : r.totals ≡ a.totals
  pub others : r.stream ≡ with_timed r.stream.sender r.stream.timing s

-- guaranteed by 01's rules and refusal 4
pub record Acked (s : Stream) (clock : ℕ) : Type 0 where
  pub range : InRange s.timing.rtt
  pub early : clock < 2 ^ 60
  pub largest : s.sender.largest_ack ≤ s.sender.seq
  pub width : s.sender.seq ≤ s.sender.remote_acked + 32

-- handle_incoming_max_remote_ack
pub record Settled (s : Stream) (t : Totals) (clock : ℕ) (sent : List ℕ) (r : StreamAndTotals) (sent' : List ℕ) : Type 0 where
  pub seen_after : (l : Lent) → seen r.stream r.totals (with_words sent' l) ≡ drive.settle clock (seen s t (with_words sent l))
  pub others : r.stream ≡ with_timed r.stream.sender r.stream.timing s
  pub seq : r.stream.sender.seq ≡ s.sender.seq
  pub moved : s.sender.remote_acked ≤ r.stream.sender.remote_acked
  pub range : InRange r.stream.timing.rtt
  -- the packets that stay are still within their bounds
  pub stored : AllSentBounds s.sender sent → AllSentBounds r.stream.sender sent'
