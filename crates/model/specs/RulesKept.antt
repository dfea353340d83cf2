-- The rules of the records as facts, for proofs: a record with a field for each rule of specs/Rules.antt. proofs/RulesKept.antt proves it
-- equivalent to the test, `rules e ≡ true`.
use Rattle.std.specs.Prelude.{ℕ, ◌+◌, ◌%◌, ◌^◌, ◌≤◌, ◌<◌, ◌≡◌, List, [], ◌∷◌, true, length, get_or}
use Rattle.std.proofs.Math.Option.{none, some}
use Rattle.rtt.specs.Estimate.{InRange}
use Rattle.model.specs.Slots.{Slots, Numbered, ceiling, get}
use Rattle.model.specs.Stream.{Packet, Held, Entry, state, packet, Sender, Queue, End}
use Rattle.model.specs.Rules.{sum, inflight_of, one_of, payload_of, distinct, states, numbers}

pub record StoredKept (remote_acked seq clock slot n : ℕ) (p : Packet) : Type 0 where
  pub in-slot : n % ceiling ≡ slot
  pub from : remote_acked ≤ n
  pub below : n < seq
  pub least : 21 ≤ length p.bytes
  pub most : length p.bytes ≤ 1_400
  pub transmits : p.marks.transmits ≤ 7
  pub sent : (t : ℕ) → p.marks.sent ≡ some t → t ≤ clock

pub record HeldKept (read_cursor slot n : ℕ) (h : Held) : Type 0 where
  pub in-slot : n % ceiling ≡ slot
  pub from : read_cursor ≤ n
  pub below : n < read_cursor + ceiling
  pub fits : n < 4_294_967_295
  pub most : length h.payload ≤ 1_380
  pub offset : h.offset ≤ length h.payload

-- P holds for every element
abbrev pub Every : {A : Type 0} → (A → Type 0) → List A → Type 0
Every P [] = Unit {0}
Every P (x ∷ xs) = P x × Every P xs

abbrev pub EntryKept : Slots Packet → Entry → Type 0
EntryKept outgoing (state b) = length b ≡ 20
EntryKept outgoing (packet n l) = (21 ≤ l) × (l ≤ 1_400) × ((p : Packet) → get outgoing n ≡ some p → l ≡ length p.bytes)

pub record RestKept (s : Sender) (q : List Entry) : Type 0 where
  pub once : distinct (numbers q) ≡ true
  pub known : Every (λ n. (s.remote_acked ≤ n) × (n < s.seq)) (numbers q)
  pub states : states q ≤ 63

pub record ToTakeKept (q : Queue) : Type 0 where
  pub whole : q.left ≡ length q.entries
  pub states : states q.entries ≤ 64
  pub packets : length (numbers q.entries) ≤ 64

pub record KeepsRules (e : End) : Type 0 where
  pub acked_seq : e.sender.remote_acked ≤ e.sender.seq
  pub seq_near : e.sender.seq ≤ e.sender.remote_acked + ceiling
  pub largest_seq : e.sender.largest_ack ≤ e.sender.seq
  pub cursor_ack : e.receiver.read_cursor ≤ e.receiver.ack
  pub ack_near : e.receiver.ack ≤ e.receiver.read_cursor + ceiling
  pub stored : (i : ℕ) (x : Numbered Packet) → get_or e.sender.outgoing i none ≡ some x
      → StoredKept e.sender.remote_acked e.sender.seq e.clocks.last i x.number x.value
  pub held : (i : ℕ) (x : Numbered Held) → get_or e.receiver.incoming i none ≡ some x → HeldKept e.receiver.read_cursor i x.number x.value
  pub inflight : e.sender.inflight ≡ sum inflight_of e.sender.outgoing
  pub packets : e.totals.inflight_packets ≡ sum one_of e.sender.outgoing
  pub bytes : e.totals.inflight_bytes ≡ sum payload_of e.sender.outgoing
  pub estimate : InRange e.timing.rtt
  pub drive_last : e.clocks.drive ≤ e.clocks.last
  pub last_fits : e.clocks.last < 2 ^ 60
  pub window_least : 1_400 ≤ e.sender.cwnd
  pub window_most : e.sender.cwnd ≤ 4_294_967_295
  pub segments_least : 1 ≤ e.ids.segments
  pub segments_most : e.ids.segments ≤ 10
  pub entries : Every (EntryKept e.sender.outgoing) e.queue.entries
  pub rest : e.queue.left ≡ 0 → RestKept e.sender e.queue.entries
  pub to_take : (e.queue.left ≡ 0 → ⊥) → ToTakeKept e.queue
