-- 01, 'What the contracts say', 2: "Shut out by demand 2: refusing every datagram, answering waiting to all writes, answering done or none
-- with packets queued, queuing everything in the first drive and idling later, inventing inflight or totals." The statement is `NotDead`,
-- with a field for each of these, for every end, reachable or not. Above it are the calls that 01 accepts, as facts that do not mention the
-- calls' own tests. Statements only: the proof is proofs/NotDead.antt.
use Rattle.std.specs.Prelude.{ℕ, ◌+◌, ◌*◌, ◌%◌, ◌^◌, ◌≤◌, ◌<◌, min, ◌≡◌, List, [], ◌∷◌, ◌++◌, ◌⊎◌, true, false, length, drop, Ok, None}
use Rattle.std.proofs.Math.Option.{none, some}
use Rattle.error.specs.declared.Outcome.TheVariants.{Ready, Done, Nothing}
use Rattle.packet.specs.Header.{fields, has_header, has_type}
use Rattle.model.specs.Lists.{Bytes, on}
use Rattle.model.specs.Slots.{Slots, ceiling, get}
use Rattle.model.specs.Stream.{Packet, Entry, state, packet, End}
use Rattle.model.specs.Rules.{rules, states}
use Rattle.model.specs.Sending.{write}
use Rattle.model.specs.Receiving.{deliver, read}
use Rattle.model.specs.Driving.{drive, take}

-- calls that 01 accepts

-- a delivery that meets none of refusals 1, 4 to 13; the fields are in that order
pub record Deliverable (datagram : Bytes) (clock : ℕ) (e : End) : Type 0 where
  pub rules_hold : rules e ≡ true
  pub clock_fits : clock < 2 ^ 60
  pub clock_next : e.clocks.last ≤ clock
  pub not_ended : e.ending.ended ≡ false
  pub none_left : e.queue.left ≡ 0
  pub has-header : has_header datagram ≡ true
  pub to_local : (fields datagram).stream_id ≡ e.ids.local
  pub payload_fits : length (drop 20 datagram) ≤ 1_380
  pub ack_fits : (fields datagram).ack ≤ e.sender.seq
  pub seq_fits : has_type 1 (fields datagram).typ ≡ true → (fields datagram).seq < 4_294_967_295
  pub in_reach : has_type 1 (fields datagram).typ ≡ true → (fields datagram).seq < e.receiver.read_cursor + ceiling
  pub few_states : states e.queue.entries < 62

-- a write that is not empty, meets none of refusals 1, 6, 14 to 17, and whose first piece goes: "inflight + its payload is at most the
-- window, seq − remote acked is below 32 and seq is below 4,294,967,295"
pub record Writable (bytes : Bytes) (e : End) : Type 0 where
  pub rules_hold : rules e ≡ true
  pub none_left : e.queue.left ≡ 0
  pub no_error : e.ending.error ≡ None
  pub some_bytes : 1 ≤ length bytes
  pub fits_window : e.sender.inflight + min (length bytes) 1_380 ≤ e.sender.cwnd
  pub fits_store : e.sender.seq < e.sender.remote_acked + ceiling
  pub seq_fits : e.sender.seq < 4_294_967_295

-- a drive that meets none of refusals 1, 4 to 6
pub record Drivable (clock : ℕ) (e : End) : Type 0 where
  pub rules_hold : rules e ≡ true
  pub clock_fits : clock < 2 ^ 60
  pub clock_next : e.clocks.last ≤ clock
  pub not_ended : e.ending.ended ≡ false
  pub none_left : e.queue.left ≡ 0

-- a take that meets neither refusal 1 nor 2, with entries left to take
pub record Takeable (room : ℕ) (e : End) : Type 0 where
  pub rules_hold : rules e ≡ true
  pub room_fits : 14_000 ≤ room
  pub some_left : 0 < e.queue.left

-- what they answer

-- 01, call 4: "an error is set and queue and outgoing store are empty"
pub record Drained (e : End) : Type 0 where
  pub error_set : e.ending.error ≡ None → ⊥
  pub none_queued : e.queue.entries ≡ []
  pub none_stored : (n : ℕ) → get e.sender.outgoing n ≡ none

-- the bytes of an entry; none for "an entry whose packet has left the store"
abbrev pub bytes_of : Slots Packet → Entry → Bytes
bytes_of outgoing (state b) = b
bytes_of outgoing (packet n l) = on (get outgoing n) [] (λ p. p.bytes)

-- the lowest waiting packet does not fit in the window
pub record NoRoom (e : End) : Type 0 where
  pub number : ℕ
  pub packet : Packet
  pub stored : get e.sender.outgoing number ≡ some packet
  pub waits : packet.marks.waiting ≡ true
  pub lowest : (m : ℕ) (p : Packet) → get e.sender.outgoing m ≡ some p → p.marks.waiting ≡ true → number ≤ m
  pub too_long : e.sender.cwnd < e.sender.inflight + length packet.bytes

-- what a write that accepted `count` bytes adds: each piece that went counts once, with 20 bytes of header in flight
pub record Counted (count : ℕ) (before after : End) : Type 0 where
  pub pieces : ℕ
  pub numbered : after.sender.seq ≡ before.sender.seq + pieces
  pub inflight : after.sender.inflight ≡ before.sender.inflight + (count + 20 * pieces)
  pub inflight-packets : after.totals.inflight_packets ≡ before.totals.inflight_packets + pieces
  pub inflight-bytes : after.totals.inflight_bytes ≡ before.totals.inflight_bytes + count
  pub tx-packets : after.totals.tx_packets % 2 ^ 64 ≡ (before.totals.tx_packets + pieces) % 2 ^ 64
  pub tx-bytes : after.totals.tx_bytes % 2 ^ 64 ≡ (before.totals.tx_bytes + count) % 2 ^ 64
  pub rx-packets : after.totals.rx_packets ≡ before.totals.rx_packets
  pub rx-bytes : after.totals.rx_bytes ≡ before.totals.rx_bytes

pub record NotDead : Type 0 where
  -- not "refusing every datagram": only what 01 refuses is refused
  pub delivers : (datagram : Bytes) (clock : ℕ) (e : End) → Deliverable datagram clock e → (deliver datagram clock e).outcome ≡ Ok Ready
  -- not "answering waiting to all writes": at least the first piece goes
  pub writes : (bytes : Bytes) (e : End) → Writable bytes e → ((write bytes e).outcome ≡ Ok Ready) × (min (length bytes) 1_380 ≤ (write bytes e).count)
  -- not "answering done .. with packets queued", nor with one stored
  pub drives : (clock : ℕ) (e : End) → Drivable clock e → ((drive clock e).outcome ≡ Ok Ready) ⊎ ((drive clock e).outcome ≡ Ok Done)
  pub done_drained : (clock : ℕ) (e : End) → (drive clock e).outcome ≡ Ok Done → Drained e
  -- not "answering .. none with packets queued": none is answered only if nothing is left to take; else at least the first entry is taken,
  -- its bytes come first, and fewer are left
  pub none_left : (room : ℕ) (e : End) → (take room e).outcome ≡ Ok Nothing → e.queue.left ≡ 0
  pub takes : (room : ℕ) (e : End) → Takeable room e → ((take room e).outcome ≡ Ok Ready) × ((take room e).end.queue.left < e.queue.left)
  pub takes_first : (room : ℕ) (e : End) → Takeable room e → (x : Entry) (q : List Entry) → e.queue.entries ≡ x ∷ q
      → (rest : Bytes) × ((take room e).bytes ≡ bytes_of e.sender.outgoing x ++ rest)
  -- not "queuing everything in the first drive and idling later": each drive leaves the whole queue to take, keeps all that was queued
  -- before it, and leaves a packet waiting only if the window has no room
  pub all_left : (clock : ℕ) (e : End) → (drive clock e).outcome ≡ Ok Ready → (drive clock e).end.queue.left ≡ length (drive clock e).end.queue.entries
  pub still_queued : (clock : ℕ) (e : End) → (drive clock e).outcome ≡ Ok Ready
      → (more : List Entry) × ((drive clock e).end.queue.entries ≡ e.queue.entries ++ more)
  pub waits_for_room : (clock : ℕ) (e : End) → length e.sender.outgoing ≡ ceiling → (drive clock e).outcome ≡ Ok Ready → (n : ℕ) (p : Packet)
      → get (drive clock e).end.sender.outgoing n ≡ some p → p.marks.waiting ≡ true → NoRoom (drive clock e).end
  -- not "inventing inflight or totals": a write counts exactly what it sent, a take and a read count nothing. (That inflight and its totals
  -- match the store is a rule of the records, which calls from a fresh stream keep: `NeverBroken`, model_rules/specs/NeverBroken.antt.)
  pub writes_counted : (bytes : Bytes) (e : End) → Counted (write bytes e).count e (write bytes e).end
  pub takes_counted : (room : ℕ) (e : End) → ((take room e).end.totals ≡ e.totals) × ((take room e).end.sender.inflight ≡ e.sender.inflight)
  pub reads_counted : (room : ℕ) (e : End) → ((read room e).end.totals ≡ e.totals) × ((read room e).end.sender ≡ e.sender)
