-- Demand 3 in the sentences of 01, 'What the contracts say', 4, over plain byte sequences and numbers (`Carries`, `Lies`), after every list
-- of calls on two ends over a line: in the model, on the records, from C, and with the ways mixed. Each sentence follows from the field of
-- the promise that renders it, so if a promise lost the field, or said less there, the proof would fail. Statements only: the proofs are in
-- proofs/TwoEnds.antt.
use Rattle.std.specs.Prelude.{ℕ, ◌+◌, ◌*◌, ◌%◌, ◌≤◌, ◌<◌, ◌≡◌, length, drop, get_or}
use mathlib.Core.List.{List, [], ◌++◌, Memᴰ}
use Rattle.std.proofs.Math.Option.{none, some}
use Rattle.model.specs.Lists.{Bytes, joined}
use Rattle.model.specs.Slots.{get}
use Rattle.model.specs.Stream.{Packet, Held, End}
use Rattle.model.specs.Sending.{open_refusal}
use Rattle.model_ends.specs.TwoEnds as model
use Rattle.model_ends.specs.TwoEnds.{unread_in_order, Id}
use Rattle.records.specs.declared.«open».Opened.{Opened}
use Rattle.records.specs.Seen.{Lent}
use Rattle.promise.specs.Runs.{Records, seen_of, Event, OpenedBy}
use Rattle.promise.specs.TwoEndsOnRecords as records
use Rattle.promise.specs.TwoEndsOnRecords.{ReadsAlone, put_by_reads}
use Rattle.udx_c_numbers.specs.declared.structs.FlatStep.{FlatStep}
use Rattle.promise_ways.specs.Calls.{Plain, PlainEvent, records_of, events_of, OpenedInC}
use Rattle.promise_ways.specs.FromC.{PlainSide, PlainTurn, plain_last_of, PlainOverALine, both_opened_in_c, PlainReadsAlone}
use Rattle.promise_ways.specs.Mixed.{Mixed, as_events, OpenedEither, MixedTurn, as_turns, MixedOverALine, MixedReadsAlone}

-- the sentences

-- One direction. `accepted` are the bytes that the sender's writes accepted, `packets` "the pieces that went, numbered from 0 in order over
-- all writes", `seq` is the number of the next one; `read` are the bytes that the receiver's reads put, `ack` is the one in its stream,
-- `brought` the numbers that its deliveries, "refused ones left out, brought as DATA". `Unread` holds of the bytes that reads alone would
-- still put; `Stored` and `Held` hold of a number and a payload if the sender stores, or the receiver holds, a packet with them.
pub record Carries (accepted read : Bytes) (packets : List Bytes) (seq ack : ℕ) (brought : List ℕ) (Unread : Bytes → Type 0) (Stored Held : ℕ → Bytes → Type 0)
    : Type 0 where
  -- the bytes read are the first bytes accepted: none is missing, shifted or invented
  pub first : (rest : Bytes) × (accepted ≡ read ++ rest)
  pub in_place : (i : ℕ) → i < length read → get_or read i 0 ≡ get_or accepted i 0
  -- accepted = read + unread in order + packets at or past the receiver's ack. "The equation is between byte sequences: + joins them,
  -- packets in number order."
  pub equation : (unread : Bytes) → Unread unread → accepted ≡ read ++ (unread ++ joined (drop ack packets))
  pub counts : (unread : Bytes) → Unread unread → length accepted ≡ length read + (length unread + length (joined (drop ack packets)))
  -- every byte accepted went in a packet, and packets have no other bytes
  pub all_went : accepted ≡ joined packets
  -- "numbered from 0 in order over all writes": each number below seq is a packet's, and no other number is
  pub numbered : length packets ≡ seq
  -- no packet at or past the receiver's ack is lost: the sender still stores it
  pub none_lost : (n : ℕ) → ack ≤ n → n < length packets → Stored n (get_or packets n [])
  -- "a packet stored or held is there under its number, with just that piece's bytes as payload"
  pub stored_is_piece : (n : ℕ) (payload : Bytes) → Stored n payload → (n < length packets) × (payload ≡ get_or packets n [])
  pub held_is_piece : (n : ℕ) (payload : Bytes) → Held n payload → (n < length packets) × (payload ≡ get_or packets n [])
  -- the receiver's ack is "the lowest number that no delivery at the receiver, refused ones left out, brought as DATA"
  pub ack_not_brought : Memᴰ ack brought → ⊥
  pub smaller_brought : (n : ℕ) → n < ack → Memᴰ n brought
  pub ack_lowest : (n : ℕ) → (Memᴰ n brought → ⊥) → ack ≤ n

-- The same packets in the lent stores, byte by byte. 01, 'Records': "Outgoing store, lent: 32 slots of 1,400 bytes", of which a packet's
-- header takes 20; "Incoming store, lent: 32 slots of 1,380 bytes"; "slot = number mod 32".
pub record Lies (outgoing incoming : Bytes) (packets : List Bytes) (ack : ℕ) (Stored Held : ℕ → Bytes → Type 0) : Type 0 where
  pub none_lost : (n i : ℕ) → ack ≤ n → n < length packets → i < length (get_or packets n [])
      → get_or outgoing (n % 32 * 1_400 + 20 + i) 0 ≡ get_or (get_or packets n []) i 0
  pub stored : (n i : ℕ) (payload : Bytes) → Stored n payload → i < length payload → get_or outgoing (n % 32 * 1_400 + 20 + i) 0 ≡ get_or payload i 0
  pub held : (n i : ℕ) (payload : Bytes) → Held n payload → i < length payload → get_or incoming (n % 32 * 1_380 + i) 0 ≡ get_or payload i 0

-- a packet of the model with this number and this payload
abbrev pub StoredWith : End → ℕ → Bytes → Type 0
StoredWith e n payload = (p : Packet) × (get e.sender.outgoing n ≡ some p) × (drop 20 p.bytes ≡ payload)

abbrev pub HeldIn : End → ℕ → Bytes → Type 0
HeldIn e n payload = (h : Held) × (get e.receiver.incoming n ≡ some h) × (h.payload ≡ payload)

-- in the model

abbrev pub CarriesInModel : (sender receiver : model.Side) → Type 0
CarriesInModel s r =
    Carries s.past.accepted r.past.reads s.past.pieces s.end.sender.seq r.end.receiver.ack r.past.brought (λ unread. unread ≡ unread_in_order r.end)
    (StoredWith s.end) (HeldIn r.end)

-- Either end may be the sender, here and below.
abbrev pub DemandThreeInModel : Type 0
DemandThreeInModel =
    (i j segmentsA segmentsB clockA clockB : ℕ)
    → Id i
    → Id j
    → open_refusal segmentsA clockA ≡ none
    → open_refusal segmentsB clockB ≡ none
    → (commands : List model.Command)
    → model.OverALine commands (model.both_opened i j segmentsA segmentsB clockA clockB)
    → let w = model.run commands (model.both_opened i j segmentsA segmentsB clockA clockB) in CarriesInModel w.a w.b × CarriesInModel w.b w.a

-- on the records

-- "Unread in order are the bytes that reads alone, 1,380 at a time, would still put, up to the first that puts none."
abbrev pub UnreadOn : Records → Bytes → Type 0
UnreadOn x unread = (vs : List Event) × (last : Event) × ReadsAlone vs last x × (unread ≡ put_by_reads vs)

-- "The receiver's ack is the one in its stream"
abbrev pub CarriesOnRecords : (Records → Bytes → Type 0) → (sender receiver : records.Side) → Type 0
CarriesOnRecords Unread s r =
    Carries s.past.accepted r.past.reads s.past.pieces s.records.stream.sender.seq r.records.stream.receiver.ack r.past.brought (Unread r.records)
    (StoredWith (seen_of s.records)) (HeldIn (seen_of r.records))

abbrev pub LiesOnRecords : (sender receiver : records.Side) → Type 0
LiesOnRecords s r =
    Lies s.records.lent.outgoing r.records.lent.incoming s.past.pieces r.records.stream.receiver.ack (StoredWith (seen_of s.records))
    (HeldIn (seen_of r.records))

abbrev pub BothOnRecords : (Records → Bytes → Type 0) → (sender receiver : records.Side) → Type 0
BothOnRecords Unread s r = CarriesOnRecords Unread s r × LiesOnRecords s r

abbrev pub DemandThreeOnRecords : Type 0
DemandThreeOnRecords =
    (i j segmentsA segmentsB clockA clockB : ℕ)
    → Id i
    → Id j
    → (lentA lentB : Lent) (a b : Opened)
    → OpenedBy i j segmentsA clockA lentA a
    → OpenedBy j i segmentsB clockB lentB b
    → (turns : List records.Turn)
    → records.OverALine turns (records.both_opened a b lentA lentB)
    → let w = records.last_of turns (records.both_opened a b lentA lentB) in BothOnRecords UnreadOn w.a w.b × BothOnRecords UnreadOn w.b w.a

-- from C: the ack, words and stores are those that the callers have

abbrev pub UnreadInC : Plain → Bytes → Type 0
UnreadInC x unread = (vs : List PlainEvent) × (last : PlainEvent) × PlainReadsAlone vs last x × (unread ≡ put_by_reads (events_of vs))

abbrev pub BothInC : (sender receiver : PlainSide) → Type 0
BothInC s r =
    Carries s.past.accepted r.past.reads s.past.pieces s.plain.stream.sender.seq r.plain.stream.receiver.ack r.past.brought (UnreadInC r.plain)
    (StoredWith (seen_of (records_of s.plain))) (HeldIn (seen_of (records_of r.plain)))
    × Lies s.plain.lent.outgoing r.plain.lent.incoming s.past.pieces r.plain.stream.receiver.ack
    (StoredWith (seen_of (records_of s.plain))) (HeldIn (seen_of (records_of r.plain)))

abbrev pub DemandThreeFromC : Type 0
DemandThreeFromC =
    (i j segmentsA segmentsB clockA clockB : ℕ)
    → Id i
    → Id j
    → (lentA lentB : Lent) (a b : FlatStep)
    → OpenedInC i j segmentsA clockA lentA a
    → OpenedInC j i segmentsB clockB lentB b
    → (turns : List PlainTurn)
    → PlainOverALine turns (both_opened_in_c a b lentA lentB)
    → let w = plain_last_of turns (both_opened_in_c a b lentA lentB) in BothInC w.a w.b × BothInC w.b w.a

-- with the ways mixed

abbrev pub UnreadMixed : Records → Bytes → Type 0
UnreadMixed x unread = (vs : List Mixed) × (last : Mixed) × MixedReadsAlone vs last x × (unread ≡ put_by_reads (as_events vs))

abbrev pub DemandThreeMixed : Type 0
DemandThreeMixed =
    (i j segmentsA segmentsB clockA clockB : ℕ)
    → Id i
    → Id j
    → (lentA lentB : Lent) (a b : Opened)
    → OpenedEither i j segmentsA clockA lentA a
    → OpenedEither j i segmentsB clockB lentB b
    → (turns : List MixedTurn)
    → MixedOverALine turns (records.both_opened a b lentA lentB)
    → let w = records.last_of (as_turns turns) (records.both_opened a b lentA lentB) in
    BothOnRecords UnreadMixed w.a w.b × BothOnRecords UnreadMixed w.b w.a
