-- What the caller sends of a batch: cut at its segment size, or taken whole if it has none, it is the datagrams of its entries whose
-- packets are there, in order, and `look` shows the first of them. Claims over the model alone, proved in proofs/BatchCut.antt.
use Rattle.std.specs.Prelude.{◌<◌, ◌≡◌, List, [], ◌∷◌, true, length, take}
use Rattle.model.specs.Lists.{Bytes, joined, on}
use Rattle.model.specs.Slots.{Slots, ceiling, get}
use Rattle.model.specs.Stream.{Packet, Entry, state, packet, End}
use Rattle.model.specs.Rules.{rules}
use Rattle.model.specs.Driving.{head_length, batch, take_loop, segment_of, datagrams_of, look}
use Rattle.records.specs.declared.Stream.{Stream}
use Rattle.records.specs.declared.Totals.{Totals}
use Rattle.records.specs.Seen.{Lent, seen}

-- 01, call 5: "An entry whose packet has left the store counts but writes nothing": the datagrams of the others
abbrev pub there_of : Slots Packet → List Entry → List Bytes
there_of outgoing [] = []
there_of outgoing (state b ∷ q) = b ∷ there_of outgoing q
there_of outgoing (packet n l ∷ q) = on (get outgoing n) (there_of outgoing q) (λ p. p.bytes ∷ there_of outgoing q)

-- the first of some datagrams, empty where there is none
abbrev pub first_of : List Bytes → Bytes
first_of [] = []
first_of (d ∷ ds) = d

-- the datagrams of an end's next batch
abbrev pub batch_taken : End → List Bytes
batch_taken e = (take_loop (batch e) e.queue.entries e).datagrams

pub record Batches (e : End) : Type 0 where
  -- 01, call 5: "A batch's datagrams are its pieces of segment size, or all of it where it has none; an empty batch has no datagram"
  pub pieces : datagrams_of (segment_of (batch e) (head_length e.queue.entries)) (joined (batch_taken e)) ≡ batch_taken e
  pub there : batch_taken e ≡ there_of e.sender.outgoing (take (batch e) e.queue.entries)
  -- 01, 'Added by design': "the next datagram (first entry left to take whose packet is there)"
  pub next : look e ≡ first_of (there_of e.sender.outgoing e.queue.entries)
  pub first : (d : Bytes) (ds : List Bytes) → batch_taken e ≡ d ∷ ds → look e ≡ d

-- for every end with 32 slots that keeps the rules, while entries are left to take
abbrev pub BatchesCut : Type 0
BatchesCut = (e : End) → rules e ≡ true → length e.sender.outgoing ≡ ceiling → 0 < e.queue.left → Batches e

-- and so for all records that keep them
abbrev pub RecordsCut : Type 0
RecordsCut = (st : Stream) (t : Totals) (l : Lent) → rules (seen st t l) ≡ true → 0 < st.queue.left → Batches (seen st t l)
