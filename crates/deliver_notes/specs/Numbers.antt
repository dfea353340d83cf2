-- The numbers after a delivery: the totals, the clock, and the sender's largest ack and window.
use Rattle.std.specs.Prelude.{ℕ, ◌+◌, ◌%◌, ◌^◌, max, cond, nat_lt}
use Rattle.rtt.specs.Estimate.{nanos}
use Rattle.rtt.specs.Window.{grown}
use Rattle.records.specs.declared.Sender.{Sender}
use Rattle.records.specs.declared.Stream.{Stream}
use Rattle.records.specs.declared.Totals.{Totals}

-- "received counts every delivery and every DATA payload, repeats too"; "The four running totals wrap at 2^64"
abbrev pub counted_received : Totals → Totals
counted_received t =
    record {
      tx_packets = t.tx_packets;
      tx_bytes = t.tx_bytes;
      rx_packets = (t.rx_packets + 1) % 2 ^ 64;
      rx_bytes = t.rx_bytes;
      inflight_packets = t.inflight_packets;
      inflight_bytes = t.inflight_bytes;
    }

abbrev pub counted_data : Totals → ℕ → Totals
counted_data t payload =
    record {
      tx_packets = t.tx_packets;
      tx_bytes = t.tx_bytes;
      rx_packets = t.rx_packets;
      rx_bytes = (t.rx_bytes + payload) % 2 ^ 64;
      inflight_packets = t.inflight_packets;
      inflight_bytes = t.inflight_bytes;
    }

-- the stream with the clock of an accepted call
abbrev pub clocked_stream : Stream → ℕ → Stream
clocked_stream s clock =
    record {
      ids = s.ids;
      sender = s.sender;
      receiver = s.receiver;
      queue = s.queue;
      timing = s.timing;
      ending = s.ending;
      clocks = record { last = nanos clock; drive = s.clocks.drive };
    }

-- "largest ack since the last drive", and 01, call 3: "If the header's ack exceeds remote acked, the window grows"
abbrev pub acked_sender : Sender → ℕ → Sender
acked_sender s ack =
    record {
      seq = s.seq;
      remote_acked = s.remote_acked;
      largest_ack = max s.largest_ack ack;
      inflight = s.inflight;
      cwnd = cond (nat_lt s.remote_acked ack) (grown s.cwnd) s.cwnd;
    }
