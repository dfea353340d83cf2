-- 01, 'What the contracts say', 2: "Shut out by demand 2: refusing every datagram, answering waiting to all writes, answering done or none
-- with packets queued, queuing everything in the first drive and idling later, inventing inflight or totals." What an answer must satisfy,
-- given the end before the call, to be none of these (`LiveAnswer`), each from a field of `NotDead` (model/specs/NotDead.antt). Statements
-- only: the proof is in proofs/ShutOut.antt.
use Rattle.std.specs.Prelude.{ℕ, ◌+◌, ◌*◌, ◌%◌, ◌^◌, ◌≤◌, ◌<◌, min, ◌≡◌, List, [], ◌∷◌, ◌++◌, ◌⊎◌, true, length, Ok, None}
use Rattle.std.proofs.Math.Option.{none, some}
use Rattle.error.specs.declared.Outcome.TheVariants.{Ready, Done, Nothing}
use Rattle.model.specs.Lists.{Bytes}
use Rattle.model.specs.Slots.{get}
use Rattle.model.specs.Stream.{Packet, Entry, state, packet, End}
use Rattle.model.specs.Answers.{Answer}
use Rattle.model.specs.Sending.{goes, piece, write_refusal}
use Rattle.model.specs.Receiving.{deliver_refusal}
use Rattle.model.specs.Driving.{drive_refusal, take_refusal}
use Rattle.model.specs.Calls.{Call, write_call, deliver_call, drive_call, take_call, read_call, close_call}

pub record LiveWrite (bytes : Bytes) (e : End) (a : Answer) : Type 0 where
  -- "answering waiting to all writes": if the first piece goes, it is accepted
  pub accepts : write_refusal bytes e ≡ none → 1 ≤ length bytes → goes (piece bytes) e.sender ≡ true → (a.outcome ≡ Ok Ready) × (min (length bytes) 1_380 ≤ a.count)
  -- "inventing inflight or totals": each piece that went counts once, with 20 bytes of header in flight
  pub counts : (pieces : ℕ)
      × (a.end.sender.seq ≡ e.sender.seq + pieces)
      × (a.end.sender.inflight ≡ e.sender.inflight + (a.count + 20 * pieces))
      × (a.end.totals.inflight_packets ≡ e.totals.inflight_packets + pieces)
      × (a.end.totals.inflight_bytes ≡ e.totals.inflight_bytes + a.count)
      × (a.end.totals.tx_packets % 2 ^ 64 ≡ (e.totals.tx_packets + pieces) % 2 ^ 64)
      × (a.end.totals.tx_bytes % 2 ^ 64 ≡ (e.totals.tx_bytes + a.count) % 2 ^ 64)
      × (a.end.totals.rx_packets ≡ e.totals.rx_packets)
      × (a.end.totals.rx_bytes ≡ e.totals.rx_bytes)

pub record LiveDrive (clock : ℕ) (e : End) (a : Answer) : Type 0 where
  pub goes_on : drive_refusal clock e ≡ none → (a.outcome ≡ Ok Ready) ⊎ (a.outcome ≡ Ok Done)
  -- "answering done .. with packets queued", or stored
  pub done : a.outcome ≡ Ok Done → (e.ending.error ≡ None → ⊥) × (e.queue.entries ≡ []) × ((n : ℕ) → get e.sender.outgoing n ≡ none)
  -- "queuing everything in the first drive and idling later": what was queued still is, all of it is left to take, and a packet waits only
  -- if the window has no room for the lowest waiting one
  pub still_queued : a.outcome ≡ Ok Ready → (more : List Entry) × (a.end.queue.entries ≡ e.queue.entries ++ more)
  pub all_left : a.outcome ≡ Ok Ready → a.end.queue.left ≡ length a.end.queue.entries
  pub waits_for_room : a.outcome ≡ Ok Ready → (n : ℕ) (p : Packet) → get a.end.sender.outgoing n ≡ some p → p.marks.waiting ≡ true
      → (m : ℕ)
      × (q : Packet)
      × (get a.end.sender.outgoing m ≡ some q)
      × (q.marks.waiting ≡ true)
      × ((k : ℕ) (r : Packet) → get a.end.sender.outgoing k ≡ some r → r.marks.waiting ≡ true → m ≤ k)
      × (a.end.sender.cwnd < a.end.sender.inflight + length q.bytes)

pub record LiveTake (room : ℕ) (e : End) (a : Answer) : Type 0 where
  -- "answering .. none with packets queued"
  pub none_left : a.outcome ≡ Ok Nothing → e.queue.left ≡ 0
  pub takes : take_refusal room e ≡ none → 0 < e.queue.left → (a.outcome ≡ Ok Ready) × (a.end.queue.left < e.queue.left)
  -- the first entry's bytes come first
  pub takes_state : take_refusal room e ≡ none → 0 < e.queue.left → (bytes : Bytes) (q : List Entry) → e.queue.entries ≡ state bytes ∷ q
      → (rest : Bytes) × (a.bytes ≡ bytes ++ rest)
  pub takes_packet : take_refusal room e ≡ none → 0 < e.queue.left → (n l : ℕ) (p : Packet) (q : List Entry) → e.queue.entries ≡ packet n l ∷ q
      → get e.sender.outgoing n ≡ some p → (rest : Bytes) × (a.bytes ≡ p.bytes ++ rest)
  -- "inventing inflight or totals"
  pub counts_nothing : (a.end.totals ≡ e.totals) × (a.end.sender.inflight ≡ e.sender.inflight)

abbrev pub LiveAnswer : Call → End → Answer → Type 0
LiveAnswer (write_call bytes) e a = LiveWrite bytes e a
-- "refusing every datagram"
LiveAnswer (deliver_call datagram clock) e a = deliver_refusal datagram clock e ≡ none → a.outcome ≡ Ok Ready
LiveAnswer (drive_call clock) e a = LiveDrive clock e a
LiveAnswer (take_call room) e a = LiveTake room e a
-- "inventing inflight or totals"
LiveAnswer (read_call room) e a = (a.end.totals ≡ e.totals) × (a.end.sender ≡ e.sender)
LiveAnswer close_call e a = Unit {0}
