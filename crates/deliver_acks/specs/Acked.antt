-- Acking one packet on the records: the numbers afterwards, and that what is seen agrees with the model.
use Rattle.std.specs.Prelude.{ℕ, ◌+◌, ◌-◌, ◌^◌, ◌≤◌, ◌<◌, ◌≡◌, List, cond, eqb}
use Rattle.std.specs.Option.{option_map_or}
use Rattle.rtt.specs.declared.estimate.Rtt.{Rtt}
use Rattle.rtt.specs.Estimate.{InRange, sampled}
use Rattle.model.specs.Receiving.{ack_number}
use Rattle.records_words.specs.declared.Sent.{Sent}
use Rattle.records.specs.declared.Sender.{Sender}
use Rattle.records.specs.declared.Totals.{Totals}
use Rattle.records.specs.declared.Stream.{Stream}
use Rattle.records.specs.Seen.{Lent, seen}
use Rattle.records.specs.Setters.{with_words}
use Rattle.deliver_acks.specs.declared.Acks.{Acks}

-- 01: "An acked packet not waiting leaves inflight."
abbrev pub left_sender : Sender → Sent → Sender
left_sender s p =
    record {
      seq = s.seq;
      remote_acked = s.remote_acked;
      largest_ack = s.largest_ack;
      inflight = cond p.waiting s.inflight (s.inflight - p.length);
      cwnd = s.cwnd;
    }

-- 01: "With a time sent and exactly one transmit it gives a sample, the call's clock less the time sent"
abbrev pub measured_rtt : Rtt → Sent → ℕ → Rtt
measured_rtt e p clock = cond (eqb p.transmits 1) (option_map_or (λ t. sampled e (clock - t.0)) p.sent_at e) e

pub record Measures (e : Rtt) (p : Sent) (clock : ℕ) (r : Rtt) : Type 0 where
  pub estimate : r ≡ measured_rtt e p clock
  pub range : InRange r

-- "the two inflight ones count what is stored"
abbrev pub acked_totals : Totals → Sent → Totals
acked_totals t p =
    record {
      tx_packets = t.tx_packets;
      tx_bytes = t.tx_bytes;
      rx_packets = t.rx_packets;
      rx_bytes = t.rx_bytes;
      inflight_packets = t.inflight_packets - 1;
      inflight_bytes = t.inflight_bytes - (p.length - 20);
    }

-- guaranteed by 01's rules and refusal 4: an estimate in range and a clock below 2^60
pub record Timed (a : Acks) (clock : ℕ) : Type 0 where
  pub range : InRange a.rtt
  pub early : clock < 2 ^ 60

-- a number that may be stored
pub record InWindow (s : Sender) (n : ℕ) : Type 0 where
  pub low : s.remote_acked ≤ n
  pub high : n < s.seq
  pub width : s.seq ≤ s.remote_acked + 32

-- the stream with the sender and estimate left by acking
abbrev pub with_acks : Acks → Stream → Stream
with_acks a s =
    record {
      ids = s.ids;
      sender = a.sender;
      receiver = s.receiver;
      queue = s.queue;
      timing = record { rtt = a.rtt; deadline = s.timing.deadline };
      ending = s.ending;
      clocks = s.clocks;
    }

-- the sender's numbers that acking never changes
pub record SameNumbers (s r : Sender) : Type 0 where
  pub seq : r.seq ≡ s.seq
  pub acked : r.remote_acked ≡ s.remote_acked
  pub largest : r.largest_ack ≡ s.largest_ack
  pub cwnd : r.cwnd ≡ s.cwnd

-- handle_remote_ack_for_packet, for any stream with these numbers, over any stores
pub record AcksOne (clock n : ℕ) (a : Acks) (sent : List ℕ) (r : Acks) (sent' : List ℕ) : Type 0 where
  pub seen_after : (s : Stream) (l : Lent)
      → seen (with_acks r s) r.totals (with_words sent' l) ≡ ack_number clock n (seen (with_acks a s) a.totals (with_words sent l))
  pub same : SameNumbers a.sender r.sender
  pub range : InRange r.rtt
