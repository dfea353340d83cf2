-- A whole delivery on the records: its precondition, and that what is seen agrees with the model.
use Rattle.std.specs.Prelude.{ℕ, ◌≤◌, ◌≡◌, List, true, length}
use Rattle.packet.specs.declared.header.Header.{Header}
use Rattle.model.specs.Lists.{Bytes}
use Rattle.model.specs.Stream as model
use Rattle.model.specs.Receiving.{count_received, at_clock, on_sack, on_end, handle_incoming}
use Rattle.records.specs.declared.Stream.{Stream}
use Rattle.records.specs.declared.Totals.{Totals}
use Rattle.records.specs.Cut.{incoming_slot}
use Rattle.records.specs.Seen.{Lent, seen, formed_queue}
use Rattle.records.specs.Beside.{Stay, held_size}
use Rattle.records.specs.Laid.{LaidReceiver}
use Rattle.records.specs.declared.StreamAndTotals.{StreamAndTotals}
use Rattle.close_state.specs.State.{Pushed}
use Rattle.deliver_parts.specs.Steps.{Measured, TakesData}

-- everything before DATA

abbrev pub with_begun : (sent queue : List ℕ) → (headers : Bytes) → Lent → Lent
with_begun sent queue headers l =
    record { sent = sent; held = l.held; queue = queue; outgoing = l.outgoing; incoming = l.incoming; headers = headers }

-- 01, call 3: "count; SACK blocks; END"
abbrev pub begun : ℕ → Header → Bytes → model.End → model.End
begun clock h payload e = on_end h (on_sack clock h payload (model.with_totals (count_received e.totals) (model.with_clocks (at_clock clock e.clocks) e)))

pub record Began (s : Stream) (t : Totals) (clock : ℕ) (h : Header) (payload : Bytes) (sent queue : List ℕ) (headers : Bytes) (r : StreamAndTotals) (sent' queue' : List ℕ)
    (headers' : Bytes) : Type 0 where
  pub seen_after : formed_queue s.queue queue ≡ true → (l : Lent)
      → seen r.stream r.totals (with_begun sent' queue' headers' l) ≡ begun clock h payload (seen s t (with_begun sent queue headers l))
  pub receiver : r.stream.receiver ≡ s.receiver
  pub pushed : Pushed s.queue queue r.stream.queue queue' headers'

-- guaranteed by 01's rules and the refusals of a delivery; there is room for two more state packets
pub record CanDeliver (s : Stream) (clock : ℕ) (h : Header) (queue : List ℕ) (incoming headers payload : Bytes) : Type 0 where
  pub measured : Measured s clock
  pub whole : length headers ≡ 1_280
  pub rest : s.queue.left ≡ 0
  pub queued : s.queue.count ≤ 126
  pub places : s.queue.states ≤ 62
  pub formed : formed_queue s.queue queue ≡ true
  pub takes : TakesData s h incoming payload

abbrev pub with_delivered : (sent held queue : List ℕ) → (incoming headers : Bytes) → Lent → Lent
with_delivered sent held queue incoming headers l =
    record { sent = sent; held = held; queue = queue; outgoing = l.outgoing; incoming = incoming; headers = headers }

-- handle_incoming
pub record Handled (s : Stream) (t : Totals) (clock : ℕ) (h : Header) (payload : Bytes) (sent held queue : List ℕ) (incoming headers : Bytes) (r : StreamAndTotals)
    (sent' held' queue' : List ℕ) (incoming' headers' : Bytes) : Type 0 where
  pub seen_after : (l : Lent)
      → seen r.stream r.totals (with_delivered sent' held' queue' incoming' headers' l)
      ≡ handle_incoming clock h payload (seen s t (with_delivered sent held queue incoming headers l))
  pub formed : formed_queue r.stream.queue queue' ≡ true
  pub laid : LaidReceiver s.receiver → LaidReceiver r.stream.receiver
  -- the bytes of each slot past its packet are unchanged
  pub beside : Stay incoming_slot (held_size held') incoming incoming'
