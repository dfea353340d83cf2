-- The parts of a delivery on the records: each agrees with the model's part on what is seen, whatever the words and stores it is not lent.
use Rattle.std.specs.Prelude.{ℕ, ◌+◌, ◌^◌, ◌≤◌, ◌<◌, ◌≡◌, List, true}
use Rattle.packet.specs.declared.header.Header.{Header}
use Rattle.packet.specs.Header.{has_type}
use Rattle.rtt.specs.Estimate.{InRange}
use Rattle.model.specs.Lists.{Bytes}
use Rattle.model.specs.Receiving.{on_sack, on_end, on_data}
use Rattle.records.specs.declared.Sender.{Sender}
use Rattle.records.specs.declared.Receiver.{Receiver}
use Rattle.records.specs.declared.Timing.{Timing}
use Rattle.records.specs.declared.Stream.{Stream}
use Rattle.records.specs.declared.Totals.{Totals}
use Rattle.records.specs.Cut.{incoming_slot}
use Rattle.records.specs.Seen.{Lent, seen, formed_queue}
use Rattle.records.specs.Beside.{Stay, held_size}
use Rattle.records.specs.Setters.{with_queue, with_words}
use Rattle.close_state.specs.State.{with_state, with_ending, Pushed}
use Rattle.deliver_acks.specs.Acked.{SameNumbers}
use Rattle.records.specs.Laid.{LaidReceiver}
use Rattle.deliver_data.specs.Absorbing.{Accepted}
use Rattle.records.specs.declared.StreamAndTotals.{StreamAndTotals}

-- the stream with another sender and timing
abbrev pub with_sender_and_timing : Sender → Timing → Stream → Stream
with_sender_and_timing x t s =
    record {
      ids = s.ids;
      sender = x;
      receiver = s.receiver;
      queue = s.queue;
      timing = t;
      ending = s.ending;
      clocks = s.clocks;
    }

abbrev pub with_receiver : Receiver → Stream → Stream
with_receiver r s =
    record {
      ids = s.ids;
      sender = s.sender;
      receiver = r;
      queue = s.queue;
      timing = s.timing;
      ending = s.ending;
      clocks = s.clocks;
    }

-- SACK blocks

-- guaranteed by 01's rules and refusal 4
pub record Measured (s : Stream) (clock : ℕ) : Type 0 where
  pub range : InRange s.timing.rtt
  pub early : clock < 2 ^ 60
  pub width : s.sender.seq ≤ s.sender.remote_acked + 32

pub record Sacked (s : Stream) (t : Totals) (clock : ℕ) (h : Header) (payload : Bytes) (sent : List ℕ) (r : StreamAndTotals) (sent' : List ℕ) : Type 0 where
  pub seen_after : (l : Lent) → seen r.stream r.totals (with_words sent' l) ≡ on_sack clock h payload (seen s t (with_words sent l))
  pub same : SameNumbers s.sender r.stream.sender
  pub others : r.stream ≡ with_sender_and_timing r.stream.sender r.stream.timing s

-- END

pub record Ended (s : Stream) (t : Totals) (h : Header) (queue : List ℕ) (headers : Bytes) (r : StreamAndTotals) (queue' : List ℕ) (headers' : Bytes) : Type 0 where
  pub seen_after : formed_queue s.queue queue ≡ true → (l : Lent)
      → seen r.stream r.totals (with_state queue' headers' l) ≡ on_end h (seen s t (with_state queue headers l))
  pub others : r.stream ≡ with_queue r.stream.queue (with_ending r.stream.ending s)
  pub pushed : Pushed s.queue queue r.stream.queue queue' headers'

-- DATA

-- DATA that no refusal stops
abbrev pub TakesData : Stream → Header → (incoming payload : Bytes) → Type 0
TakesData s h incoming payload = has_type 1 h.typ ≡ true → Accepted s.receiver incoming h.seq payload

-- the lent words and bytes that DATA changes
abbrev pub with_data : (held queue : List ℕ) → (incoming headers : Bytes) → Lent → Lent
with_data held queue incoming headers l =
    record { sent = l.sent; held = held; queue = queue; outgoing = l.outgoing; incoming = incoming; headers = headers }

pub record TookData (s : Stream) (t : Totals) (h : Header) (payload : Bytes) (held queue : List ℕ) (incoming headers : Bytes) (r : StreamAndTotals) (held' queue' : List ℕ)
    (incoming' headers' : Bytes) : Type 0 where
  pub seen_after : formed_queue s.queue queue ≡ true → (l : Lent)
      → seen r.stream r.totals (with_data held' queue' incoming' headers' l) ≡ on_data h payload (seen s t (with_data held queue incoming headers l))
  pub others : r.stream ≡ with_queue r.stream.queue (with_receiver r.stream.receiver s)
  pub pushed : Pushed s.queue queue r.stream.queue queue' headers'
  pub laid : LaidReceiver s.receiver → LaidReceiver r.stream.receiver
  pub beside : Stay incoming_slot (held_size held') incoming incoming'
