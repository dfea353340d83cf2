-- Records and steps as plain numbers, group by group.
use Rattle.std.specs.Prelude.{ℕ, Option, None, Some}
use Rattle.records.specs.declared.Ids.{Ids}
use Rattle.records.specs.declared.Sender.{Sender}
use Rattle.records.specs.declared.Receiver.{Receiver}
use Rattle.records.specs.declared.Queue.{Queue}
use Rattle.records.specs.declared.Timing.{Timing}
use Rattle.records.specs.declared.Clocks.{Clocks}
use Rattle.records.specs.declared.Stream.{Stream}
use Rattle.records.specs.declared.Totals.{Totals}
use Rattle.records.specs.declared.«open».Opened.{Opened}
use Rattle.udx_steps.specs.declared.step.Step.{Step}
use Rattle.udx_c_numbers.specs.Bytes.{ending_of, flat_ending, outcome_byte, refusal_byte}
use Rattle.udx_c_numbers.specs.declared.structs.FlatIds.{FlatIds}
use Rattle.udx_c_numbers.specs.declared.structs.FlatSender.{FlatSender}
use Rattle.udx_c_numbers.specs.declared.structs.FlatReceiver.{FlatReceiver}
use Rattle.udx_c_numbers.specs.declared.structs.FlatQueue.{FlatQueue}
use Rattle.udx_c_numbers.specs.declared.structs.FlatTiming.{FlatTiming}
use Rattle.udx_c_numbers.specs.declared.structs.FlatClocks.{FlatClocks}
use Rattle.udx_c_numbers.specs.declared.structs.FlatStream.{FlatStream}
use Rattle.udx_c_numbers.specs.declared.structs.FlatTotals.{FlatTotals}
use Rattle.udx_c_numbers.specs.declared.structs.FlatStep.{FlatStep}

-- from numbers to records

abbrev pub ids_of : FlatIds → Ids
ids_of f = record { local = f.local; remote = f.remote; segments = f.segments }

abbrev pub sender_of : FlatSender → Sender
sender_of f = record { seq = f.seq; remote_acked = f.remote_acked; largest_ack = f.largest_ack; inflight = f.inflight; cwnd = f.cwnd }

abbrev pub receiver_of : FlatReceiver → Receiver
receiver_of f = record { ack = f.ack; read_cursor = f.read_cursor; top = f.top }

abbrev pub queue_of : FlatQueue → Queue
queue_of f = record { count = f.count; left = f.left; states = f.states; gone = f.gone }

abbrev pub timing_of : FlatTiming → Timing
timing_of f =
    record {
      rtt = record { srtt = record { 0 = f.srtt }; rttvar = record { 0 = f.rttvar }; rto = record { 0 = f.rto } };
      deadline = record { 0 = record { 0 = f.deadline } };
    }

abbrev pub clocks_of : FlatClocks → Clocks
clocks_of f = record { last = record { 0 = f.last }; drive = record { 0 = f.drive } }

unfoldable pub stream_of : FlatStream → Stream
stream_of f =
    record {
      ids = ids_of f.ids;
      sender = sender_of f.sender;
      receiver = receiver_of f.receiver;
      queue = queue_of f.queue;
      timing = timing_of f.timing;
      clocks = clocks_of f.clocks;
      ending = ending_of f.ending;
    }

unfoldable pub totals_of : FlatTotals → Totals
totals_of f =
    record {
      tx_packets = f.tx_packets;
      tx_bytes = f.tx_bytes;
      rx_packets = f.rx_packets;
      rx_bytes = f.rx_bytes;
      inflight_packets = f.inflight_packets;
      inflight_bytes = f.inflight_bytes;
    }

-- from records to numbers

abbrev pub flat_ids : Ids → FlatIds
flat_ids g = record { local = g.local; remote = g.remote; segments = g.segments }

abbrev pub flat_sender : Sender → FlatSender
flat_sender g = record { seq = g.seq; remote_acked = g.remote_acked; largest_ack = g.largest_ack; inflight = g.inflight; cwnd = g.cwnd }

abbrev pub flat_receiver : Receiver → FlatReceiver
flat_receiver g = record { ack = g.ack; read_cursor = g.read_cursor; top = g.top }

abbrev pub flat_queue : Queue → FlatQueue
flat_queue g = record { count = g.count; left = g.left; states = g.states; gone = g.gone }

abbrev pub flat_timing : Timing → FlatTiming
flat_timing g = record { srtt = g.rtt.srtt.0; rttvar = g.rtt.rttvar.0; rto = g.rtt.rto.0; deadline = g.deadline.0.0 }

abbrev pub flat_clocks : Clocks → FlatClocks
flat_clocks g = record { last = g.last.0; drive = g.drive.0 }

unfoldable pub flat_stream : Stream → FlatStream
flat_stream s =
    record {
      ids = flat_ids s.ids;
      sender = flat_sender s.sender;
      receiver = flat_receiver s.receiver;
      queue = flat_queue s.queue;
      timing = flat_timing s.timing;
      clocks = flat_clocks s.clocks;
      ending = flat_ending s.ending;
    }

unfoldable pub flat_totals : Totals → FlatTotals
flat_totals t =
    record {
      tx_packets = t.tx_packets;
      tx_bytes = t.tx_bytes;
      rx_packets = t.rx_packets;
      rx_bytes = t.rx_bytes;
      inflight_packets = t.inflight_packets;
      inflight_bytes = t.inflight_bytes;
    }

-- a batch's segment size, 0 if it has none
abbrev pub segment_number : Option ℕ → ℕ
segment_number None = 0
segment_number (Some size) = size

unfoldable pub flat_step : Step → FlatStep
flat_step r =
    record {
      stream = flat_stream r.stream;
      totals = flat_totals r.totals;
      count = r.count;
      segment = segment_number r.segment;
      outcome = outcome_byte r.outcome;
      refusal = refusal_byte r.outcome;
    }

unfoldable pub flat_opened : Opened → FlatStep
flat_opened r =
    record {
      stream = flat_stream r.stream;
      totals = flat_totals r.totals;
      count = 0;
      segment = 0;
      outcome = outcome_byte r.outcome;
      refusal = refusal_byte r.outcome;
    }

-- refusal 1, with stream and totals as received
unfoldable pub broken_step : FlatStream → FlatTotals → FlatStep
broken_step s t = record { stream = s; totals = t; count = 0; segment = 0; outcome = 4; refusal = 1 }
