-- What taking one entry puts into the buffer and marks in the records: the model's step on the outgoing store that is seen.
use Rattle.std.specs.Prelude.{ℕ, ◌+◌, ◌*◌, ◌%◌, ◌^◌, ◌≤◌, ◌<◌, ◌≡◌, List, [], ◌∷◌, Bool, true, cond, ◌&&◌, leb, ltb, length, take, drop, Option, Some, None}
use Rattle.model.specs.Lists.{Bytes, joined, on}
use Rattle.model.specs.Slots.{Slots, ceiling, get, insert}
use Rattle.model.specs.Stream as model
use Rattle.model.specs.Driving.{marked, taken_marks}
use Rattle.records_words.specs.declared.Sent.{Sent}
use Rattle.records_words.specs.declared.QueuedPacket.{QueuedPacket}
use Rattle.records_words.specs.declared.Entry.{Entry}
use Rattle.records_words.specs.declared.Entry.TheVariants.{State, Packet}
use Rattle.records.specs.declared.Sender.{Sender}
use Rattle.records_words.specs.Words.{sent_in, is_stored}
use Rattle.records.specs.Put.{put}
use Rattle.records.specs.Seen.{seen_outgoing, with_sent, entry_seen, place_after}
use Rattle.rtt.specs.Estimate.{nanos}
use Rattle.take_entry.specs.declared.Progress.{Progress}

-- 01, 'Rules of the records': "lengths are 21 to 1,400 stored"; "transmits are at most 7"
pub record TransmitBounds (p : Sent) (transmits : ℕ) : Type 0 where
  pub short : p.length ≤ 1_400
  pub few : p.transmits ≤ transmits

-- 01, call 5: "that packet gets time sent = clock of that drive and one transmit more"
abbrev pub taken_packet : Sent → ℕ → Sent
taken_packet p clock =
    record { number = p.number; length = p.length; transmits = p.transmits + 1; waiting = p.waiting; sent_at = Some (nanos clock) }

-- a state packet's bytes are put
pub record TakesState (p : Progress) (headers buf : Bytes) (r : Progress) (buf' : Bytes) : Type 0 where
  pub bytes : buf' ≡ put buf p.at (take 20 (drop (p.place * 20) headers))
  pub at : r.at ≡ p.at + 20
  pub place : r.place ≡ p.place + 1

-- a stored packet's bytes are put, and it is marked
pub record TakesPacket (p : Progress) (x : Sent) (clock : ℕ) (sent : List ℕ) (outgoing buf : Bytes) (r : Progress) (sent' : List ℕ) (buf' : Bytes) : Type 0 where
  pub bytes : buf' ≡ put buf p.at (take x.length (drop (x.number % 32 * 1_400) outgoing))
  pub marks : sent' ≡ with_sent sent x.number (taken_packet x clock)
  pub at : r.at ≡ p.at + x.length
  pub place : r.place ≡ p.place

-- the model's take_entry on the outgoing store alone: the datagrams of some entries, and the store after them
pub record TakenFromStore : Type 0 where
  pub datagrams : List Bytes
  pub outgoing : Slots model.Packet

unfoldable pub send_entry : (clock : ℕ) → model.Entry → Slots model.Packet → TakenFromStore
send_entry clock (model.state b) s = record { datagrams = b ∷ []; outgoing = s }
send_entry clock (model.packet n l) s =
    on (get s n) (record { datagrams = []; outgoing = s })
    (λ p. record { datagrams = p.bytes ∷ []; outgoing = insert s n (marked (taken_marks clock) p) })

-- what is seen of the outgoing store
abbrev pub store_seen : Sender → List ℕ → Bytes → Slots model.Packet
store_seen s sent outgoing = seen_outgoing s.remote_acked s.seq sent outgoing

-- the datagrams are one after another in the buffer from `at` to `end`, the bytes past them are unchanged, and the packets are marked
pub record PutInBuffer (t : TakenFromStore) (at : ℕ) (buf : Bytes) (end : ℕ) (buf' : Bytes) (marked : Slots model.Packet) : Type 0 where
  pub bytes : buf' ≡ put buf at (joined t.datagrams)
  pub count : end ≡ at + length (joined t.datagrams)
  pub marks : marked ≡ t.outgoing

-- packet n is stored: n is from remote acked to below seq, and its slot holds it
abbrev pub is_there : Sender → List ℕ → ℕ → Bool
is_there s sent n = leb s.remote_acked n && (ltb n s.seq && is_stored (sent_in sent (n % ceiling)) n)

abbrev pub found_stored : Sender → List ℕ → ℕ → Option Sent
found_stored s sent n = cond (is_there s sent n) (Some (sent_in sent (n % ceiling))) None

-- what taking one entry needs: its packet keeps the rules apart from the marks of this take, and there is room for its bytes
pub record CanTakeEntry (s : Sender) (x : Entry) (clock : ℕ) (p : Progress) (sent : List ℕ) (outgoing headers buf : Bytes) : Type 0 where
  pub words : length sent ≡ 64
  pub packet : (q : QueuedPacket) → x ≡ Packet q → is_there s sent q.number ≡ true → TransmitBounds (sent_in sent (q.number % ceiling)) 30
  pub drive : clock < 2 ^ 60
  pub slots : length outgoing ≡ 44_800
  pub places : length headers ≡ 1_280
  pub next : x ≡ State → p.place < 64
  pub room : p.at + 1_400 ≤ length buf

-- one entry is taken; "An entry whose packet has left the store counts but writes nothing"
pub record TakesEntry (s : Sender) (x : Entry) (clock : ℕ) (p : Progress) (sent : List ℕ) (outgoing headers buf : Bytes) (r : Progress)
    (sent' : List ℕ) (buf' : Bytes) : Type 0 where
  pub written : PutInBuffer (send_entry clock (entry_seen headers p.place x) (store_seen s sent outgoing)) p.at buf r.at buf' (store_seen s sent' outgoing)
  pub place : r.place ≡ place_after p.place x
  pub short : r.at ≤ p.at + 1_400
  pub words : length sent' ≡ length sent
