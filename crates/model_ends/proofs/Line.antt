-- The invariant of two ends over a line, for one direction and for both. The idea: whatever was ever taken, queued or stored claims only
-- what stays true (pieces and acks only grow), so a copy may arrive at any time; what the receiver has read or holds are the sender's
-- pieces, and the sender still stores what the receiver has not acknowledged.
use Prim.Native.Nat.{ℕ, ◌+◌, ◌≤◌, ◌<◌}
use mathlib.Core.Path.{◌≡◌}
use mathlib.Core.Logic.{◌≢◌, ◌⊎◌}
use mathlib.Core.List.{List, [], ◌++◌, Memᴰ}
use mathlib.Core.Option.{Option, none, some}
use mathlib.Core.Bool.{true, false}
use lib.ListN.{length, take, get_or}
use Rattle.packet.specs.declared.header.Header.{Header}
use Rattle.packet.specs.Header.{header_bytes, has_type}
use Rattle.model.specs.Lists.{Bytes, joined}
use Rattle.model.specs.Slots.{Slots, ceiling, get}
use Rattle.model.specs.Stream.{Packet, Held, Entry, state, packet, Receiver, End}
use Rattle.model_ends.specs.TwoEnds.{History}
use Rattle.model.proofs.Lists.{All}

-- there is a value under this number
abbrev pub There : {A : Type 0} → Slots A → ℕ → Type 0
There {A} s n = (v : A) × (get s n ≡ some v)

-- the end that sends

-- a datagram from an end that sends to the id `remote`, has these pieces and has acknowledged up to `ack`
pub record Datagram (remote : ℕ) (pieces : List Bytes) (ack : ℕ) (bytes : Bytes) : Type 0 where
  pub header : Header
  pub payload : Bytes
  pub encoded : bytes ≡ header_bytes header ++ payload
  pub type_fits : header.typ < 256
  pub offset_fits : header.data_offset < 256
  pub to_remote : header.stream_id ≡ remote
  pub window_fits : header.recv_win ≤ 4_294_967_295
  pub ack_reached : header.ack ≤ ack
  pub seq_reached : header.seq ≤ length pieces
  pub no_sack : has_type 4 header.typ ≡ false
  pub piece_if_data : has_type 1 header.typ ≡ true → (header.seq < length pieces) × (payload ≡ get_or pieces header.seq [])

abbrev pub data_header : (remote number ack : ℕ) → Header
data_header remote number ack =
    record { typ = 1; data_offset = 0; stream_id = remote; recv_win = 4_294_967_295; seq = number; ack = ack }

-- the stored packet of a piece
pub record PieceAt (remote : ℕ) (pieces : List Bytes) (ack number : ℕ) (bytes : Bytes) : Type 0 where
  -- the ack when it was made
  pub made_at : ℕ
  pub made_before : made_at ≤ ack
  pub is_piece : number < length pieces
  pub encoded : bytes ≡ header_bytes (data_header remote number made_at) ++ get_or pieces number []

-- the pieces joined are the accepted bytes
pub record Pieces (remote seq : ℕ) (pieces : List Bytes) (accepted : Bytes) : Type 0 where
  pub remote_fits : remote ≤ 4_294_967_295
  pub numbered : length pieces ≡ seq
  pub seq_fits : seq ≤ 4_294_967_295
  pub short : All (λ p. length p ≤ 1_380) pieces
  pub whole : joined pieces ≡ accepted

abbrev pub StoredPieces : (remote remote_acked : ℕ) → Slots Packet → List Bytes → ℕ → Type 0
StoredPieces remote remote_acked outgoing pieces ack =
    (n : ℕ) (p : Packet) → get outgoing n ≡ some p → (remote_acked ≤ n) × PieceAt remote pieces ack n p.bytes

abbrev pub QueueEntry : ℕ → List Bytes → ℕ → Entry → Type 0
QueueEntry remote pieces ack (state b) = Datagram remote pieces ack b
QueueEntry remote pieces ack (packet n l) = (n < length pieces) × (l ≡ 20 + length (get_or pieces n []))

abbrev pub QueueOk : ℕ → List Bytes → ℕ → List Entry → Type 0
QueueOk remote pieces ack entries = All (QueueEntry remote pieces ack) entries

abbrev pub TakenOk : ℕ → List Bytes → ℕ → List Bytes → Type 0
TakenOk remote pieces ack datagrams = All (Datagram remote pieces ack) datagrams

-- the end that receives

pub record HeldPiece (read_cursor : ℕ) (pieces : List Bytes) (brought : List ℕ) (number : ℕ) (h : Held) : Type 0 where
  pub not_read : read_cursor ≤ number
  pub in_reach : number < read_cursor + ceiling
  pub is_piece : number < length pieces
  pub payload : h.payload ≡ get_or pieces number []
  pub offset_fits : h.offset ≤ length h.payload
  -- only the packet at the read cursor may be partly read
  pub unread : number ≢ read_cursor → h.offset ≡ 0
  pub was_brought : Memᴰ number brought

abbrev pub offset_of : Option Held → ℕ
offset_of none = 0
offset_of (some h) = h.offset

pub record Received (ack read_cursor : ℕ) (incoming : Slots Held) (pieces : List Bytes) (reads : Bytes) (brought : List ℕ) : Type 0 where
  pub slots : length incoming ≡ ceiling
  pub cursor_to_ack : read_cursor ≤ ack
  pub ack_to_pieces : ack ≤ length pieces
  -- what is in order is held
  pub in_order : (n : ℕ) → read_cursor ≤ n → n < ack → There incoming n
  pub held : (n : ℕ) (h : Held) → get incoming n ≡ some h → HeldPiece read_cursor pieces brought n h
  -- the bytes read are the pieces before the read cursor and the front part of the one at it
  pub reads_are : reads ≡ joined (take read_cursor pieces) ++ take (offset_of (get incoming read_cursor)) (get_or pieces read_cursor [])
  pub below_ack : (n : ℕ) → n < ack → Memᴰ n brought
  pub from_ack : (n : ℕ) → Memᴰ n brought → (n < ack) ⊎ There incoming n

abbrev pub ReceivedBy : Receiver → List Bytes → Bytes → List ℕ → Type 0
ReceivedBy r pieces reads brought = Received r.ack r.read_cursor r.incoming pieces reads brought

-- the next packet in order is not held
abbrev pub AckMissing : Receiver → Type 0
AckMissing r = get r.incoming r.ack ≡ none

-- how the sender's numbers and store relate to the receiver's ack
pub record Outstanding (seq remote_acked largest_ack : ℕ) (outgoing : Slots Packet) (ack : ℕ) : Type 0 where
  pub slots : length outgoing ≡ ceiling
  pub window : seq ≤ remote_acked + ceiling
  pub settled_to_ack : remote_acked ≤ ack
  pub largest_to_ack : largest_ack ≤ ack
  pub still_stored : (n : ℕ) → ack ≤ n → n < seq → There outgoing n

-- e sends, with history g; f receives, with history k
abbrev pub OneWay : End → History → End → History → Type 0
OneWay e g f k =
    record {
      pieces : Pieces e.ids.remote e.sender.seq g.pieces g.accepted;
      stored : StoredPieces e.ids.remote e.sender.remote_acked e.sender.outgoing g.pieces e.receiver.ack;
      queue : QueueOk e.ids.remote g.pieces e.receiver.ack e.queue.entries;
      taken : TakenOk e.ids.remote g.pieces e.receiver.ack g.taken;
      received : ReceivedBy f.receiver g.pieces k.reads k.brought;
      ack_missing : AckMissing f.receiver;
      outstanding : Outstanding e.sender.seq e.sender.remote_acked e.sender.largest_ack e.sender.outgoing f.receiver.ack;
    }

abbrev pub Both : End → History → End → History → Type 0
Both e g f k = record { out : OneWay e g f k; back : OneWay f k e g }
