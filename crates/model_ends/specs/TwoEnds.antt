-- Demand 3, the two-end theorem: whatever the line loses, repeats, delays or reorders, no byte is lost, shifted or invented. The statement
-- is `TwoEnds`, at the bottom; above it are its terms, in 01's words ('What the contracts say', 4). Statements only: the proof is
-- proofs/TwoEnds.antt.
use Rattle.error.specs.declared.Refusal.{Refusal}
use Rattle.std.specs.Prelude.{ℕ, zero, suc, ◌-◌, ◌≤◌, ◌<◌, ◌≡◌, ◌⊎◌, Bool, true, false, cond, T, length, take, drop, get_or, Result, Ok, Err}
use mathlib.Core.List.{List, [], ◌∷◌, ◌++◌, Memᴰ}
use Rattle.std.proofs.Math.Option.{none, some}
use Rattle.error.specs.declared.Outcome.{Outcome}
use Rattle.packet.specs.Header.{fields, has_type}
use Rattle.model.specs.Lists.{Bytes, joined, cut, is_empty}
use Rattle.model.specs.Slots.{get}
use Rattle.model.specs.Stream.{Packet, Held, End, fresh}
use Rattle.model.specs.Answers.{Answer}
use Rattle.model.specs.Sending.{open_refusal}
use Rattle.model.specs.Receiving.{read}
use Rattle.model.specs.Driving.{datagrams_of}
use Rattle.model.specs.Calls.{Call, write_call, deliver_call, drive_call, take_call, read_call, close_call, answer}

-- one end with its past

-- an end's past calls and answers, as far as the statement needs them
pub record History : Type 0 where
  -- the bytes that writes accepted
  pub accepted : Bytes
  -- "The packets are the pieces that went, numbered from 0 in order over all writes."
  pub pieces : List Bytes
  -- the bytes that reads put; "Bytes that a refused read put are read."
  pub reads : Bytes
  -- the datagrams that takes gave
  pub taken : List Bytes
  -- the numbers that deliveries, "refused ones left out, brought as DATA"
  pub brought : List ℕ

abbrev pub no_history : History
no_history = record { accepted = []; pieces = []; reads = []; taken = []; brought = [] }

abbrev pub is_refused : Result Outcome Refusal → Bool
is_refused (Ok o) = false
is_refused (Err why) = true

-- the number that a datagram brings as DATA
abbrev pub data_number : Bytes → List ℕ
data_number datagram = cond (has_type 1 (fields datagram).typ) ((fields datagram).seq ∷ []) []

-- the history after a call and its answer
abbrev pub noted : Call → Answer → History → History
noted (write_call bytes) a h =
    record {
      accepted = h.accepted ++ take a.count bytes;
      pieces = h.pieces ++ cut (length bytes) 1_380 (take a.count bytes);
      reads = h.reads;
      taken = h.taken;
      brought = h.brought;
    }
noted (deliver_call datagram clock) a h =
    record {
      accepted = h.accepted;
      pieces = h.pieces;
      reads = h.reads;
      taken = h.taken;
      brought = h.brought ++ cond (is_refused a.outcome) [] (data_number datagram);
    }
noted (drive_call clock) a h = h
noted (take_call room) a h =
    record {
      accepted = h.accepted;
      pieces = h.pieces;
      reads = h.reads;
      taken = h.taken ++ datagrams_of a.segment a.bytes;
      brought = h.brought;
    }
noted (read_call room) a h =
    record { accepted = h.accepted; pieces = h.pieces; reads = h.reads ++ a.bytes; taken = h.taken; brought = h.brought }
noted close_call a h = h

pub record Side : Type 0 where
  pub end : End
  pub past : History

abbrev pub opened : (local remote segments clock : ℕ) → Side
opened local remote segments clock = record { end = fresh local remote segments clock; past = no_history }

abbrev pub called : Call → Side → Side
called c x = let a = answer c x.end in record { end = a.end; past = noted c a x.past }

-- two ends and a list of calls on either

pub record Ends : Type 0 where
  pub a : Side
  pub b : Side

pub data Command : Type 0 where
  on_a on_b : Call → Command

abbrev pub step : Command → Ends → Ends
step (on_a c) w = record { a = called c w.a; b = w.b }
step (on_b c) w = record { a = w.a; b = called c w.b }

abbrev pub run : List Command → Ends → Ends
run [] w = w
run (c ∷ cs) w = run cs (step c w)

-- "each delivery a copy of such a datagram; only a refused delivery may bring other bytes": a datagram that the other end's takes
-- gave, any number of times and in any order, or a call that is refused
abbrev pub Brings : Call → Side → Side → Type 0
Brings (write_call bytes) x other = Unit {0}
Brings (deliver_call datagram clock) x other = Memᴰ datagram other.past.taken ⊎ T (is_refused (answer (deliver_call datagram clock) x.end).outcome)
Brings (drive_call clock) x other = Unit {0}
Brings (take_call room) x other = Unit {0}
Brings (read_call room) x other = Unit {0}
Brings close_call x other = Unit {0}

abbrev pub Fits : Command → Ends → Type 0
Fits (on_a c) w = Brings c w.a w.b
Fits (on_b c) w = Brings c w.b w.a

-- every delivery in the list is one of these
abbrev pub OverALine : List Command → Ends → Type 0
OverALine [] w = Unit {0}
OverALine (c ∷ cs) w = Fits c w × OverALine cs (step c w)

-- what is promised

-- "Unread in order are the bytes that reads alone, 1,380 at a time, would still put, up to the first that puts none." Each such read but
-- the last finishes a packet, so one read more than there are packets in order is enough.
abbrev pub unread_loop : ℕ → End → Bytes
unread_loop zero e = []
unread_loop (suc k) e = let r = read 1_380 e in cond (is_empty r.bytes) [] (r.bytes ++ unread_loop k r.end)

abbrev pub unread_in_order : End → Bytes
unread_in_order e = unread_loop (suc (e.receiver.ack - e.receiver.read_cursor)) e

-- "stored .. under its number, with just that piece's bytes as payload"
abbrev pub StoredBy : Side → ℕ → Bytes → Type 0
StoredBy x n piece = (p : Packet) × (get x.end.sender.outgoing n ≡ some p) × (drop 20 p.bytes ≡ piece)

-- the sender still stores a packet at or past the receiver's ack
abbrev pub StillStored : (sender receiver : Side) → ℕ → Bytes → Type 0
StillStored s r n piece = StoredBy s n piece

pub record Carried (s r : Side) : Type 0 where
  -- the bytes read are the first bytes accepted
  pub reads_first : r.past.reads ≡ take (length r.past.reads) s.past.accepted
  -- accepted = read + unread in order + packets at or past the receiver's ack, "between byte sequences: + joins them, packets in
  -- number order"
  pub accepted : s.past.accepted ≡ r.past.reads ++ (unread_in_order r.end ++ joined (drop r.end.receiver.ack s.past.pieces))
  -- the packets joined are the accepted bytes
  pub pieces : joined s.past.pieces ≡ s.past.accepted
  -- "The packets are the pieces that went, numbered from 0 in order over all writes": the next packet's number is how many went
  pub numbered : s.end.sender.seq ≡ length s.past.pieces
  -- the sender still stores each of those packets
  pub kept : (n : ℕ) → r.end.receiver.ack ≤ n → n < length s.past.pieces → StillStored s r n (get_or s.past.pieces n [])
  -- "a packet stored or held is there under its number, with just that piece's bytes as payload": every packet that the sender stores or
  -- the receiver holds, whatever its number
  pub stored : (n : ℕ) (p : Packet) → get s.end.sender.outgoing n ≡ some p
      → (n < length s.past.pieces) × (drop 20 p.bytes ≡ get_or s.past.pieces n [])
  pub held : (n : ℕ) (h : Held) → get r.end.receiver.incoming n ≡ some h
      → (n < length s.past.pieces) × (h.payload ≡ get_or s.past.pieces n [])
  -- the receiver's ack is "the lowest number that no delivery at the receiver, refused ones left out, brought as DATA"
  pub below_ack : (n : ℕ) → n < r.end.receiver.ack → Memᴰ n r.past.brought
  pub ack_missing : Memᴰ r.end.receiver.ack r.past.brought → ⊥

-- an id fits 32 bits
abbrev pub Id : ℕ → Type 0
Id n = n ≤ 4_294_967_295

-- two ends opened with each other's ids
abbrev pub both_opened : (i j segmentsA segmentsB clockA clockB : ℕ) → Ends
both_opened i j segmentsA segmentsB clockA clockB = record { a = opened i j segmentsA clockA; b = opened j i segmentsB clockB }

-- For two ends opened with each other's ids, each with a ceiling and a clock that open accepts, and every list of calls on either over a
-- line: `Carried` holds with a as sender, and with b as sender.
abbrev pub TwoEnds : Type 0
TwoEnds =
    (i j segmentsA segmentsB clockA clockB : ℕ)
    → Id i
    → Id j
    → open_refusal segmentsA clockA ≡ none
    → open_refusal segmentsB clockB ≡ none
    → (commands : List Command)
    → OverALine commands (both_opened i j segmentsA segmentsB clockA clockB)
    → let w = run commands (both_opened i j segmentsA segmentsB clockA clockB) in Carried w.a w.b × Carried w.b w.a
