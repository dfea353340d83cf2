-- What DATA does to the receiver: the precondition, and what clearing a gap, holding a packet and moving ack mean for the model's
-- receiver. Where a function is not lent the store, its contract holds for every store.
use Rattle.std.specs.Prelude.{ℕ, ◌+◌, ◌-◌, ◌≤◌, ◌<◌, max, ◌≡◌, List, length}
use Rattle.model.specs.Lists.{Bytes}
use Rattle.model.specs.Slots.{ceiling}
use Rattle.model.specs.Receiving as model
use Rattle.records.specs.declared.Receiver.{Receiver}
use Rattle.records.specs.Cut.{incoming_slot}
use Rattle.records.specs.Seen.{seen_incoming, seen_receiver}
use Rattle.records.specs.Beside.{Stay, held_size}
use Rattle.records.specs.Laid.{LaidReceiver}

-- DATA that no refusal stops: not 1, "A lent store has another length than above, or a rule of the records is broken" ("read cursor ≤
-- ack"), not 9, "The payload exceeds 1,380 bytes", not 11, "DATA is numbered 4,294,967,295", not 12, "DATA is numbered at or past read
-- cursor + 32"
pub record Accepted (r : Receiver) (incoming : Bytes) (n : ℕ) (payload : Bytes) : Type 0 where
  pub store : length incoming ≡ 44_160
  pub short : length payload ≤ 1_380
  pub unread : r.read_cursor ≤ r.ack
  pub laid : LaidReceiver r
  pub below : n < 4_294_967_295
  pub near : n < r.read_cursor + ceiling

-- the words after a gap is cleared: raising a lower top to n leaves the same packets held
pub record Cleared (held : List ℕ) (top n : ℕ) (held' : List ℕ) : Type 0 where
  pub seen : (read_cursor : ℕ) (store : Bytes) → max top n ≤ read_cursor + ceiling
      → seen_incoming read_cursor (max top n) held' store ≡ seen_incoming read_cursor top held store

-- incoming.insert(seq, packet)
pub record Inserted (r : Receiver) (held : List ℕ) (incoming : Bytes) (n : ℕ) (payload : Bytes) (r' : Receiver) (held' : List ℕ) (incoming' : Bytes) :
    Type 0 where
  pub seen : seen_receiver r' held' incoming' ≡ model.held n payload (seen_receiver r held incoming)
  pub ack : r'.ack ≡ r.ack
  pub cursor : r'.read_cursor ≡ r.read_cursor
  pub laid : LaidReceiver r'
  pub beside : Stay incoming_slot (held_size held') incoming incoming'

-- while incoming.contains_key(&ack) { ack += 1 }, with the model's count of steps
pub record Advanced (r : Receiver) (held : List ℕ) (r' : Receiver) : Type 0 where
  pub seen : (store : Bytes)
      → seen_receiver r' held store ≡ model.advance ((r.read_cursor + ceiling) - r.ack) (seen_receiver r held store)
  pub cursor : r'.read_cursor ≡ r.read_cursor
  pub top : r'.top ≡ r.top

-- 01, call 3: "DATA is stored when seq is at least ack (a repeat replaces), ack moves past all held in order"
pub record Absorbed (r : Receiver) (held : List ℕ) (incoming : Bytes) (n : ℕ) (payload : Bytes) (r' : Receiver) (held' : List ℕ) (incoming' : Bytes) :
    Type 0 where
  pub seen : seen_receiver r' held' incoming' ≡ model.absorb n payload (seen_receiver r held incoming)
  pub cursor : r'.read_cursor ≡ r.read_cursor
  pub laid : LaidReceiver r'
  -- the bytes of each slot past its packet are unchanged
  pub beside : Stay incoming_slot (held_size held') incoming incoming'
