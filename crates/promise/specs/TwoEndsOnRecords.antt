-- Demand 3 on the records: for two streams that `open` handed out with each other's ids and every list of calls on either, over a line that
-- may lose, repeat, delay and reorder datagrams, no byte is lost, shifted or invented. The statement is `TwoEndsOnRecords`, at the bottom;
-- its terms come first, in 01's words ('What the contracts say', 4). All that is known of a call is the contract of its exported function
-- (`Did`, in Runs.antt); the histories are what the callers saw: bytes lent, counts, buffers and outcomes. Statements only: the proof is in
-- proofs/TwoEndsOnRecords.antt.
use Rattle.error.specs.declared.Refusal.{Refusal}
use Rattle.std.specs.Prelude.{ℕ, ◌+◌, ◌*◌, ◌%◌, ◌≤◌, ◌<◌, ◌≡◌, ◌⊎◌, cond, T, length, take, drop, get_or, Result}
use mathlib.Core.List.{List, [], ◌∷◌, ◌++◌, Memᴰ}
use Rattle.std.proofs.Math.Option.{some}
use Rattle.error.specs.declared.Outcome.{Outcome}
use Rattle.model.specs.Lists.{Bytes, joined, cut}
use Rattle.model.specs.Slots.{get}
use Rattle.model.specs.Stream.{Packet, Held}
use Rattle.model.specs.Driving.{datagrams_of}
use Rattle.model_ends.specs.TwoEnds.{History, no_history, is_refused, data_number, unread_in_order, Id}
use Rattle.records.specs.declared.«open».Opened.{Opened}
use Rattle.records.specs.Seen.{Lent}
use Rattle.udx_steps.specs.declared.step.Step.{Step}
use Rattle.udx.specs.Agree.{segment_of}
use Rattle.promise.specs.Runs.{Records, seen_of, Request, to_write, to_deliver, to_drive, to_take, to_read, to_close, Event, left, Did, OpenedBy, handed_out}

-- one end with its past

-- the history after a request, from its step and, for a take or a read, the buffer after it. A write's first `count` bytes were accepted; a
-- read put the first `count` bytes of its buffer, "Bytes that a refused read put are read"; a take's datagrams are cut from those of its
-- buffer, "its pieces of segment size, or all of it where it has none" (01, call 5)
abbrev pub noted : Request → Step → Bytes → History → History
noted (to_write bytes) r buf' h =
    record {
      accepted = h.accepted ++ take r.count bytes;
      pieces = h.pieces ++ cut (length bytes) 1_380 (take r.count bytes);
      reads = h.reads;
      taken = h.taken;
      brought = h.brought;
    }
noted (to_deliver datagram clock) r buf' h =
    record {
      accepted = h.accepted;
      pieces = h.pieces;
      reads = h.reads;
      taken = h.taken;
      brought = h.brought ++ cond (is_refused r.outcome) [] (data_number datagram);
    }
noted (to_drive clock) r buf' h = h
noted (to_take buf) r buf' h =
    record {
      accepted = h.accepted;
      pieces = h.pieces;
      reads = h.reads;
      taken = h.taken ++ datagrams_of (segment_of r.segment) (take r.count buf');
      brought = h.brought;
    }
noted (to_read buf) r buf' h =
    record { accepted = h.accepted; pieces = h.pieces; reads = h.reads ++ take r.count buf'; taken = h.taken; brought = h.brought }
noted to_close r buf' h = h

pub record Side : Type 0 where
  pub records : Records
  pub past : History

abbrev pub happened : Event → Side → Side
happened v x = record { records = left v; past = noted v.request v.step v.buf x.past }

-- two ends and a list of calls on either

pub record Ends : Type 0 where
  pub a : Side
  pub b : Side

pub data Turn : Type 0 where
  on_a on_b : Event → Turn

abbrev pub turned : Turn → Ends → Ends
turned (on_a v) w = record { a = happened v w.a; b = w.b }
turned (on_b v) w = record { a = w.a; b = happened v w.b }

abbrev pub last_of : List Turn → Ends → Ends
last_of [] w = w
last_of (c ∷ cs) w = last_of cs (turned c w)

-- "each delivery a copy of such a datagram; only a refused delivery may bring other bytes"
abbrev pub Brings : Request → Result Outcome Refusal → Side → Type 0
Brings (to_write bytes) o other = Unit {0}
Brings (to_deliver datagram clock) o other = Memᴰ datagram other.past.taken ⊎ T (is_refused o)
Brings (to_drive clock) o other = Unit {0}
Brings (to_take buf) o other = Unit {0}
Brings (to_read buf) o other = Unit {0}
Brings to_close o other = Unit {0}

-- a call did what its contract says and, if it is a delivery, brought what that sentence allows
abbrev pub Fits : Event → Side → Side → Type 0
Fits v x other = Did x.records v × Brings v.request v.step.outcome other

abbrev pub FitsEnds : Turn → Ends → Type 0
FitsEnds (on_a v) w = Fits v w.a w.b
FitsEnds (on_b v) w = Fits v w.b w.a

abbrev pub OverALine : List Turn → Ends → Type 0
OverALine [] w = Unit {0}
OverALine (c ∷ cs) w = FitsEnds c w × OverALine cs (turned c w)

-- what is promised

-- "The receiver's ack is the one in its stream"
abbrev pub ack_of : Side → ℕ
ack_of x = x.records.stream.receiver.ack

-- "Unread in order are the bytes that reads alone, 1,380 at a time, would still put, up to the first that puts none": such reads on the
-- records; the last one puts none
abbrev pub IsRead : Event → Type 0
IsRead v = (buf : Bytes) × (v.request ≡ to_read buf) × (length buf ≡ 1_380)

abbrev pub ReadsAlone : List Event → Event → Records → Type 0
ReadsAlone [] last x = IsRead last × Did x last × (last.step.count ≡ 0)
ReadsAlone (v ∷ vs) last x = IsRead v × Did x v × ReadsAlone vs last (left v)

-- the bytes that they put
abbrev pub put_by_reads : List Event → Bytes
put_by_reads [] = []
put_by_reads (v ∷ vs) = take v.step.count v.buf ++ put_by_reads vs

-- "stored .. under its number, with just that piece's bytes as payload"
pub record StoredBy (x : Side) (n : ℕ) (piece : Bytes) : Type 0 where
  pub packet : Packet
  pub stored : get (seen_of x.records).sender.outgoing n ≡ some packet
  pub payload : drop 20 packet.bytes ≡ piece
  -- in the lent store: slot n mod 32 of 1,400 bytes, after the 20 bytes of the header
  pub lies : take (length piece) (drop (n % 32 * 1_400 + 20) x.records.lent.outgoing) ≡ piece

-- "held .. under its number, with just that piece's bytes as payload"
pub record HeldBy (x : Side) (n : ℕ) (piece : Bytes) : Type 0 where
  pub packet : Held
  pub held : get (seen_of x.records).receiver.incoming n ≡ some packet
  pub payload : packet.payload ≡ piece
  -- in the lent store: slot n mod 32 of 1,380 bytes
  pub lies : take (length piece) (drop (n % 32 * 1_380) x.records.lent.incoming) ≡ piece

pub record Carried (s r : Side) : Type 0 where
  -- the bytes read are the first bytes accepted
  pub reads_first : r.past.reads ≡ take (length r.past.reads) s.past.accepted
  -- accepted = read + unread in order + packets at or past the receiver's ack
  pub accepted : s.past.accepted ≡ r.past.reads ++ (unread_in_order (seen_of r.records) ++ joined (drop (ack_of r) s.past.pieces))
  -- what is unread in order, as seen, is what reads on the records put
  pub unread : (vs : List Event) (last : Event) → ReadsAlone vs last r.records → unread_in_order (seen_of r.records) ≡ put_by_reads vs
  -- the packets, joined, are what was accepted
  pub pieces : joined s.past.pieces ≡ s.past.accepted
  -- "numbered from 0 in order over all writes": the next packet's number is how many pieces went
  pub numbered : s.records.stream.sender.seq ≡ length s.past.pieces
  -- the sender still stores each packet at or past the receiver's ack
  pub kept : (n : ℕ) → ack_of r ≤ n → n < length s.past.pieces → StoredBy s n (get_or s.past.pieces n [])
  -- "a packet stored or held is there under its number, with just that piece's bytes as payload": every packet that the sender stores or
  -- the receiver holds, whatever its number
  pub stored : (n : ℕ) (p : Packet) → get (seen_of s.records).sender.outgoing n ≡ some p
      → (n < length s.past.pieces) × StoredBy s n (get_or s.past.pieces n [])
  pub held : (n : ℕ) (h : Held) → get (seen_of r.records).receiver.incoming n ≡ some h
      → (n < length s.past.pieces) × HeldBy r n (get_or s.past.pieces n [])
  -- the receiver's ack is "the lowest number that no delivery at the receiver, refused ones left out, brought as DATA"
  pub below_ack : (n : ℕ) → n < ack_of r → Memᴰ n r.past.brought
  pub ack_missing : Memᴰ (ack_of r) r.past.brought → ⊥

-- two streams that open handed out, each with its own words and stores
abbrev pub opened : Opened → Lent → Side
opened o l = record { records = handed_out o l; past = no_history }

abbrev pub both_opened : (a b : Opened) (lentA lentB : Lent) → Ends
both_opened a b lentA lentB = record { a = opened a lentA; b = opened b lentB }

-- For two ends opened with each other's ids, each with any ceiling and clock that open accepts, and every list of calls on either over a
-- line: all of it holds with a as sender, and with b as sender.
abbrev pub TwoEndsOnRecords : Type 0
TwoEndsOnRecords =
    (i j segmentsA segmentsB clockA clockB : ℕ)
    → Id i
    → Id j
    → (lentA lentB : Lent) (a b : Opened)
    → OpenedBy i j segmentsA clockA lentA a
    → OpenedBy j i segmentsB clockB lentB b
    → (turns : List Turn)
    → OverALine turns (both_opened a b lentA lentB)
    → let w = last_of turns (both_opened a b lentA lentB) in Carried w.a w.b × Carried w.b w.a
