-- How a stream ends, and a queued state packet on the records: its header, its queue entry, the numbers after it, and the queue then seen;
-- and both together, `terminate`.
use Rattle.std.specs.Prelude.{◌≡◌, ℕ, ◌+◌, ◌%◌, ◌^◌, ◌≤◌, ◌<◌, true, List, length, Option}
use Rattle.error.specs.declared.UdxError.{UdxError}
use Rattle.packet.specs.declared.header.Header.{Header}
use Rattle.packet.specs.Header.{header_bytes}
use Rattle.model.specs.Lists.{Bytes}
use Rattle.model.specs.Stream as model
use Rattle.model.specs.Sending.{is_set, state_type, pushed, count_state, terminate}
use Rattle.records.specs.declared.Ending.{Ending}
use Rattle.records.specs.declared.Queue.{Queue}
use Rattle.records.specs.declared.Stream.{Stream}
use Rattle.records.specs.declared.StreamAndTotals.{StreamAndTotals}
use Rattle.records.specs.declared.Totals.{Totals}
use Rattle.records.specs.Seen.{Lent, seen, seen_state, seen_totals, seen_queue, formed_queue}
use Rattle.records.specs.Setters.{with_queue}
use Rattle.write_piece.specs.Piece.{header_of}
use Rattle.close_state.specs.declared.Queued.{Queued}

-- the ending as `seen` has it
abbrev pub seen_ending : Ending → model.Ending
seen_ending x = record { error = x.error; state = seen_state x.state; ended = x.ended }

-- 01, call 3: "State packets carry END once an error is set."
abbrev pub state_header : Option UdxError → (remote seq ack : ℕ) → Header
state_header error remote seq ack = header_of (state_type (is_set error)) remote seq ack

abbrev pub pushed_state : Queue → Queue
pushed_state q = record { count = q.count + 1; left = q.left; states = q.states + 1; gone = q.gone }

-- "The four running totals wrap at 2^64"; "Sent counts every packet and its payload when first queued", and a state packet has none
abbrev pub counted_state : Totals → Totals
counted_state t =
    record {
      tx_packets = (t.tx_packets + 1) % 2 ^ 64;
      tx_bytes = t.tx_bytes;
      rx_packets = t.rx_packets;
      rx_bytes = t.rx_bytes;
      inflight_packets = t.inflight_packets;
      inflight_bytes = t.inflight_bytes;
    }

-- what a state packet needs: nothing is left to take, and the queue and the header store have room for it
pub record Pushable (q : Queue) (store : ℕ) : Type 0 where
  pub whole : store ≡ 1_280
  pub rest : q.left ≡ 0
  pub queued : q.count < 128
  pub places : q.states < 64

-- send_state_packet, on the numbers and on what is seen of the queue, if that is properly laid out
pub record StateQueued (q : Queue) (t : Totals) (error : Option UdxError) (remote seq ack : ℕ) (queue : List ℕ) (headers : Bytes) (r : Queued) (queue' : List ℕ) (headers' : Bytes) : Type 0 where
  pub places : r.queue ≡ pushed_state q
  pub totals : r.totals ≡ counted_state t
  pub seen-totals : seen_totals r.totals ≡ count_state (seen_totals t)
  pub seen-queue : formed_queue q queue ≡ true
      → seen_queue r.queue queue' headers' ≡ pushed (model.state (header_bytes (state_header error remote seq ack))) (seen_queue q queue headers)
  -- the queue stays properly laid out
  pub formed : formed_queue q queue ≡ true → formed_queue r.queue queue' ≡ true
  pub queue_long : length queue' ≡ 128
  pub headers_long : length headers' ≡ 1_280

-- a stream with another ending
abbrev pub with_ending : Ending → Stream → Stream
with_ending x s =
    record {
      ids = s.ids;
      sender = s.sender;
      receiver = s.receiver;
      queue = s.queue;
      timing = s.timing;
      ending = x;
      clocks = s.clocks;
    }

-- the lent words and bytes, with those that a state packet changes replaced
abbrev pub with_state : (queue : List ℕ) → (headers : Bytes) → Lent → Lent
with_state queue headers l =
    record { sent = l.sent; held = l.held; queue = queue; outgoing = l.outgoing; incoming = l.incoming; headers = headers }

-- at most one more state packet, and the queue stays laid out
pub record Pushed (q : Queue) (queue : List ℕ) (q' : Queue) (queue' : List ℕ) (headers' : Bytes) : Type 0 where
  pub left : q'.left ≡ q.left
  pub count : q'.count ≤ q.count + 1
  pub states : q'.states ≤ q.states + 1
  pub formed : formed_queue q queue ≡ true → formed_queue q' queue' ≡ true
  pub whole : length headers' ≡ 1_280

-- terminate, whatever the words and bytes it is not lent
pub record Terminates (s : Stream) (t : Totals) (why : UdxError) (queue : List ℕ) (headers : Bytes) (r : StreamAndTotals) (queue' : List ℕ) (headers' : Bytes) : Type 0 where
  pub seen_after : formed_queue s.queue queue ≡ true → (l : Lent)
      → seen r.stream r.totals (with_state queue' headers' l) ≡ terminate why (seen s t (with_state queue headers l))
  pub others : r.stream ≡ with_queue r.stream.queue (with_ending r.stream.ending s)
  pub pushed : Pushed s.queue queue r.stream.queue queue' headers'
