-- Look's answer as a place: the part of a lent store where the next datagram is (`looked_part`), line by line like the model's `look`; and
-- that its bytes are those that look shows (`LookedShown`, proved in proofs/Looked.antt).
use Rattle.std.specs.Prelude.{ℕ, ◌+◌, ◌*◌, ◌%◌, ◌≤◌, ◌≡◌, List, [], ◌∷◌, cond, ◌&&◌, ltb, length, take, drop, Option, None, Some}
use Rattle.model.specs.Lists.{Bytes, on}
use Rattle.model.specs.Slots.{Slots, get}
use Rattle.model.specs.Stream.{Packet, Entry, state, packet}
use Rattle.model.specs.Rules.{rules}
use Rattle.records.specs.declared.Stream.{Stream}
use Rattle.records.specs.declared.Totals.{Totals}
use Rattle.records.specs.Seen.{Lent, seen}
use Rattle.take_next.specs.declared.Shown.{Shown}
use Rattle.take_next.specs.declared.Shown.TheVariants.{State, Stored}
use Rattle.udx.specs.Agree.{laid_out}
use Rattle.udx.specs.Look.{shown_of}
use Rattle.udx_c_part.specs.declared.Store.{Store}
use Rattle.udx_c_part.specs.declared.Store.TheVariants.{Outgoing, Headers}
use Rattle.udx_c_part.specs.declared.Part.{Part}

-- the part

-- 01, 'Records': "64 queued state packets of 20 bytes"
abbrev pub header_part : ℕ → Part
header_part place = record { store = Headers; start = place * 20; length = 20 }

-- 01, 'Records': "32 slots of 1,400 bytes"
abbrev pub packet_part : (n size : ℕ) → Part
packet_part n size = record { store = Outgoing; start = n % 32 * 1_400; length = size }

-- "first entry left to take whose packet is there", like the model's `first_there`; `place` is the first state packet's in the header store
abbrev pub first_part : Slots Packet → (place : ℕ) → List Entry → Option Part
first_part outgoing place [] = None
first_part outgoing place (state b ∷ q) = Some (header_part place)
first_part outgoing place (packet n l ∷ q) = on (get outgoing n) (first_part outgoing place q) (λ p. Some (packet_part n (length p.bytes)))

-- 01, 'Added by design': "the next datagram .. is shown as a part of the outgoing store or of the header store, an empty part when nothing
-- is left to take and also in place of refusal 1", which applies if the records are not laid out or break a rule; none is the empty part
unfoldable pub looked_part : Stream → Totals → Lent → Option Part
looked_part s t l =
    let e = seen s t l in
    cond (laid_out s l && rules e) (cond (ltb 0 e.queue.left) (first_part e.sender.outgoing s.queue.gone e.queue.entries) None) None

-- the part of what the search finds
abbrev pub shown_part : Shown → Part
shown_part (State place) = header_part place
shown_part (Stored n size) = packet_part n size

-- its bytes

-- "the outgoing store or .. the header store"
abbrev pub store_of : Store → (outgoing headers : Bytes) → Bytes
store_of Outgoing outgoing headers = outgoing
store_of Headers outgoing headers = headers

abbrev pub part_bytes : Part → (outgoing headers : Bytes) → Bytes
part_bytes p outgoing headers = take p.length (drop p.start (store_of p.store outgoing headers))

-- a part that shows these bytes: they are there, all of the part is in its store, and its length is theirs
pub record PartOf (shown outgoing headers : Bytes) (p : Part) : Type 0 where
  pub bytes : part_bytes p outgoing headers ≡ shown
  pub within : p.start + p.length ≤ length (store_of p.store outgoing headers)
  pub long : p.length ≡ length shown

-- none is the empty part: it shows no byte
abbrev pub Shows : (shown outgoing headers : Bytes) → Option Part → Type 0
Shows shown outgoing headers None = shown ≡ []
Shows shown outgoing headers (Some p) = PartOf shown outgoing headers p

-- for any records, words and stores the part has the bytes that look shows
abbrev pub LookedShown : Type 0
LookedShown = (s : Stream) (t : Totals) (l : Lent) → Shows (shown_of s t l) l.outgoing l.headers (looked_part s t l)
