-- What the records and the lent words and stores mean: the model's end that they represent (`seen`), and the rules beyond 01's that come
-- from how they are laid out (`formed`).
use Rattle.std.specs.Prelude as rust
use Rattle.std.specs.Prelude.{◌≡◌, ℕ, suc, ◌+◌, ◌-◌, ◌%◌, ◌≤◌, Bool, cond, ◌&&◌, ◌||◌, List, [], ◌∷◌, take, drop, ◌==◌, nat_le, nat_lt, slice_index, slice_set, Some, None}
use Rattle.std.proofs.Math.Option.{Option, none, some}
use Rattle.rtt.specs.declared.nanos.Nanos.{Nanos}
use Rattle.model.specs.Lists.{Bytes}
use Rattle.model.specs.Slots.{Slots, Numbered, ceiling}
use Rattle.model.specs.Stream as model
use Rattle.model.specs.Rules.{states}
use Rattle.records_words.specs.declared.Sent.{Sent}
use Rattle.records_words.specs.declared.Held.{Held}
use Rattle.records_words.specs.declared.Entry.{Entry}
use Rattle.records_words.specs.declared.Entry.TheVariants.{State, Packet}
use Rattle.records.specs.declared.Sender.{Sender}
use Rattle.records.specs.declared.Receiver.{Receiver}
use Rattle.records.specs.declared.Queue.{Queue}
use Rattle.records.specs.declared.StreamState.{StreamState}
use Rattle.records.specs.declared.StreamState.TheVariants as state
use Rattle.records.specs.declared.Stream.{Stream}
use Rattle.records.specs.declared.Totals.{Totals}
use Rattle.records_words.specs.Words.{sent_in, sent_word, sent_time, is_stored, held_of, is_held, entry_of}
use Rattle.records.specs.Table.{table}
use Rattle.records.specs.Cut.{cut, outgoing_slot, incoming_slot, header_slot}

-- a value with its number, if it is there
abbrev pub numbered : {A : Type 0} → Bool → ℕ → A → Option (Numbered A)
numbered there n v = cond there (some (record { number = n; value = v })) none

-- stored packets: number n is stored if it is from remote acked to below seq and its slot's word is packet n

abbrev pub seen_time : rust.Option Nanos → Option ℕ
seen_time None = none
seen_time (Some t) = some t.0

abbrev pub marks_of : Sent → model.Marks
marks_of p = record { waiting = p.waiting; transmits = p.transmits; sent = seen_time p.sent_at }

abbrev pub packet_of : Bytes → ℕ → Sent → model.Packet
packet_of store i p = record { bytes = cut outgoing_slot store i p.length; marks = marks_of p }

-- the words after putting packet p into the slot of number n
abbrev pub with_sent : List ℕ → ℕ → Sent → List ℕ
with_sent words n p = slice_set (slice_set words (n % ceiling) (sent_word p)) (32 + n % ceiling) (sent_time p)

abbrev pub in_slot : (i n : ℕ) → Bool
in_slot i n = n % ceiling == i

abbrev pub outgoing_slot_at : (remote_acked seq : ℕ) → List ℕ → Bytes → ℕ → Option (Numbered model.Packet)
outgoing_slot_at remote_acked seq words store i =
    let p = sent_in words i in
    numbered (nat_le remote_acked p.number && (nat_lt p.number seq && (in_slot i p.number && is_stored p p.number))) p.number (packet_of store i p)

unfoldable pub seen_outgoing : (remote_acked seq : ℕ) → List ℕ → Bytes → Slots model.Packet
seen_outgoing remote_acked seq words store = table ceiling (outgoing_slot_at remote_acked seq words store)

-- held packets: number n is held if it is from the read cursor to below top and its slot's word is packet n

abbrev pub held_payload : Bytes → ℕ → Held → model.Held
held_payload store i p = record { payload = cut incoming_slot store i (p.past - 1); offset = p.offset }

abbrev pub incoming_slot_at : (read_cursor top : ℕ) → List ℕ → Bytes → ℕ → Option (Numbered model.Held)
incoming_slot_at read_cursor top words store i =
    let p = held_of (slice_index words i) in
    numbered (nat_le read_cursor p.number && (nat_lt p.number top && (in_slot i p.number && is_held p p.number))) p.number (held_payload store i p)

unfoldable pub seen_incoming : (read_cursor top : ℕ) → List ℕ → Bytes → Slots model.Held
seen_incoming read_cursor top words store = table ceiling (incoming_slot_at read_cursor top words store)

-- the queue: the words that are entries, and a state packet's bytes at its place in the header store

abbrev pub first_entry : Queue → ℕ
first_entry q = cond (q.left == 0) 0 (q.count - q.left)

unfoldable pub entry_words : Queue → List ℕ → List ℕ
entry_words q words = drop (first_entry q) (take q.count words)

-- an entry in the model; a state packet's bytes are at `place` in the header store
abbrev pub entry_seen : Bytes → (place : ℕ) → Entry → model.Entry
entry_seen headers place State = model.state (cut header_slot headers place 20)
entry_seen headers place (Packet x) = model.packet x.number x.length

-- the place of the next state packet after an entry
abbrev pub place_after : (place : ℕ) → Entry → ℕ
place_after place State = suc place
place_after place (Packet x) = place

-- the entries of some words; `place` is the first state packet's place
abbrev pub seen_entries : Bytes → ℕ → List ℕ → List model.Entry
seen_entries headers place [] = []
seen_entries headers place (w ∷ ws) = entry_seen headers place (entry_of w) ∷ seen_entries headers (place_after place (entry_of w)) ws

-- the number of state packets among some words
abbrev pub state_words : List ℕ → ℕ
state_words words = states (seen_entries [] 0 words)

unfoldable pub seen_queue : Queue → List ℕ → Bytes → model.Queue
seen_queue q words headers = record { entries = seen_entries headers q.gone (entry_words q words); left = q.left }

-- the groups of numbers

abbrev pub seen_sender : Sender → List ℕ → Bytes → model.Sender
seen_sender s words store =
    record {
      seq = s.seq;
      remote_acked = s.remote_acked;
      largest_ack = s.largest_ack;
      inflight = s.inflight;
      cwnd = s.cwnd;
      outgoing = seen_outgoing s.remote_acked s.seq words store;
    }

abbrev pub seen_receiver : Receiver → List ℕ → Bytes → model.Receiver
seen_receiver r words store =
    record { ack = r.ack; read_cursor = r.read_cursor; incoming = seen_incoming r.read_cursor r.top words store }

abbrev pub seen_state : StreamState → model.CloseState
seen_state state.Open = model.both_open
seen_state state.LocalClosed = model.local_closed
seen_state state.RemoteClosed = model.remote_closed
seen_state state.BothClosed = model.both_closed

abbrev pub seen_totals : Totals → model.Totals
seen_totals t =
    record {
      tx_packets = t.tx_packets;
      tx_bytes = t.tx_bytes;
      rx_packets = t.rx_packets;
      rx_bytes = t.rx_bytes;
      inflight_packets = t.inflight_packets;
      inflight_bytes = t.inflight_bytes;
    }

-- the lent words and stores
pub record Lent : Type 0 where
  pub sent : List ℕ
  pub held : List ℕ
  pub queue : List ℕ
  pub outgoing : Bytes
  pub incoming : Bytes
  pub headers : Bytes

unfoldable pub seen : Stream → Totals → Lent → model.End
seen s t l =
    record {
      ids = record { local = s.ids.local; remote = s.ids.remote; segments = s.ids.segments };
      sender = seen_sender s.sender l.sent l.outgoing;
      receiver = seen_receiver s.receiver l.held l.incoming;
      queue = seen_queue s.queue l.queue l.headers;
      timing = record { rtt = s.timing.rtt; deadline = s.timing.deadline.0.0 };
      ending = record { error = s.ending.error; state = seen_state s.ending.state; ended = s.ending.ended };
      clocks = record { last = s.clocks.last.0; drive = s.clocks.drive.0 };
      totals = seen_totals t;
    }

-- how the records are laid out

-- held numbers are below top, which is at most 32 past the read cursor
abbrev pub formed_receiver : Receiver → Bool
formed_receiver r = nat_le r.read_cursor r.top && nat_le r.top (r.read_cursor + ceiling)

-- the entries fit the words, the state packets fit the header store, and the two counts of state packets match the entries
abbrev pub formed_queue : Queue → List ℕ → Bool
formed_queue q words =
    nat_le q.count 128
    && (nat_le q.left q.count
    && (nat_le q.states 64
    && (q.states == q.gone + state_words (entry_words q words) && (nat_lt 0 q.left || q.gone == 0))))

-- `formed_queue` as facts
pub record QueueFormed (q : Queue) (words : List ℕ) : Type 0 where
  pub count : q.count ≤ 128
  pub left : q.left ≤ q.count
  pub states : q.states ≤ 64
  pub places : q.states ≡ q.gone + state_words (entry_words q words)
  pub gone : q.left ≡ 0 → q.gone ≡ 0

unfoldable pub formed : Stream → List ℕ → Bool
formed s queue = formed_receiver s.receiver && formed_queue s.queue queue
