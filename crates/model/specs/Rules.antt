-- 01, 'Rules of the records', as one test. Each line is a rule over plain numbers.
use Rattle.std.specs.Prelude.{ℕ, suc, ◌+◌, ◌*◌, ◌-◌, ◌%◌, ◌^◌, List, [], ◌∷◌, Bool, true, cond, ◌&&◌, not, ltb, leb, eqb, length}
use Rattle.std.proofs.Math.Option.{Option, none, some}
use Rattle.rtt.specs.declared.estimate.Rtt.{Rtt}
use Rattle.model.specs.Lists.{on}
use Rattle.model.specs.Slots.{Slots, ceiling, get}
use Rattle.model.specs.Stream.{Packet, Held, Entry, state, packet, Sender, Receiver, Queue, Clocks, Totals, End}

-- sums and tests over slots and lists

-- the sum of w over the packets of a store
abbrev pub sum : (Packet → ℕ) → Slots Packet → ℕ
sum w [] = 0
sum w (none ∷ s) = sum w s
sum w (some x ∷ s) = w x.value + sum w s

-- every packet of a store passes a test of its slot, its number and itself
abbrev pub every_slot : {A : Type 0} → (ℕ → ℕ → A → Bool) → Slots A → Bool
every_slot f [] = true
every_slot f (none ∷ s) = every_slot (λ i. f (suc i)) s
every_slot f (some x ∷ s) = f 0 x.number x.value && every_slot (λ i. f (suc i)) s

abbrev pub every : {A : Type 0} → (A → Bool) → List A → Bool
every f [] = true
every f (x ∷ xs) = f x && every f xs

abbrev pub absent : ℕ → List ℕ → Bool
absent n [] = true
absent n (m ∷ ms) = not (eqb n m) && absent n ms

abbrev pub distinct : List ℕ → Bool
distinct [] = true
distinct (n ∷ ns) = absent n ns && distinct ns

-- the number of state packets in the queue, and the packet numbers of the other entries
abbrev pub states : List Entry → ℕ
states [] = 0
states (state b ∷ q) = suc (states q)
states (packet n l ∷ q) = states q

abbrev pub numbers : List Entry → List ℕ
numbers [] = []
numbers (state b ∷ q) = numbers q
numbers (packet n l ∷ q) = n ∷ numbers q

-- what a stored packet adds to inflight and to the two inflight totals
abbrev pub inflight_of : Packet → ℕ
inflight_of p = cond p.marks.waiting 0 (length p.bytes)

abbrev pub one_of : Packet → ℕ
one_of p = 1

abbrev pub payload_of : Packet → ℕ
payload_of p = length p.bytes - 20

-- the rules

-- "remote acked ≤ seq ≤ remote acked + 32"; "the largest ack is at most seq"
abbrev pub sender_numbers : Sender → Bool
sender_numbers s = leb s.remote_acked s.seq && (leb s.seq (s.remote_acked + ceiling) && leb s.largest_ack s.seq)

-- "read cursor ≤ ack ≤ read cursor + 32"
abbrev pub receiver_numbers : Receiver → Bool
receiver_numbers r = leb r.read_cursor r.ack && leb r.ack (r.read_cursor + ceiling)

-- "stored numbers lie from remote acked to below seq", each in its slot; "lengths are 21 to 1,400 stored"; "transmits are at
-- most 7"; "neither a time sent .. is past the last clock"
abbrev pub stored_rule : (remote_acked seq clock slot number size transmits : ℕ) → Option ℕ → Bool
stored_rule remote_acked seq clock slot number size transmits sent =
    eqb (number % ceiling) slot
    && (leb remote_acked number
    && (ltb number seq && (leb 21 size && (leb size 1_400 && (leb transmits 7 && on sent true (λ t. leb t clock))))))

abbrev pub stored_test : End → ℕ → ℕ → Packet → Bool
stored_test e slot n p =
    stored_rule e.sender.remote_acked e.sender.seq e.clocks.last slot n (length p.bytes) p.marks.transmits p.marks.sent

-- "held ones from read cursor to below read cursor + 32 and below 4,294,967,295", each in its slot; "at most 1,380 held";
-- "offsets fit the lengths"
abbrev pub held_rule : (read_cursor slot number size offset : ℕ) → Bool
held_rule read_cursor slot number size offset =
    eqb (number % ceiling) slot
    && (leb read_cursor number && (ltb number (read_cursor + ceiling) && (ltb number 4_294_967_295 && (leb size 1_380 && leb offset size))))

abbrev pub held_test : Receiver → ℕ → ℕ → Held → Bool
held_test r slot n h = held_rule r.read_cursor slot n (length h.payload) h.offset

-- "inflight is the sum of lengths of stored packets not waiting"; "the two inflight totals are the number and payload bytes of
-- the stored packets"
abbrev pub inflight_sums : Sender → Totals → Bool
inflight_sums s t =
    eqb s.inflight (sum inflight_of s.outgoing)
    && (eqb t.inflight_packets (sum one_of s.outgoing) && eqb t.inflight_bytes (sum payload_of s.outgoing))

-- "srtt and rttvar are below 2^60, rto is 1,000 ms to 5 × 2^60"
abbrev pub rtt_ranges : Rtt → Bool
rtt_ranges r = ltb r.srtt.0 (2 ^ 60) && (ltb r.rttvar.0 (2 ^ 60) && (leb 1_000_000_000 r.rto.0 && leb r.rto.0 (5 * 2 ^ 60)))

-- "neither .. nor the last drive's clock is past the last clock, which is below 2^60"
abbrev pub clock_ranges : Clocks → Bool
clock_ranges c = leb c.drive c.last && ltb c.last (2 ^ 60)

-- "the window is 1,400 to 4,294,967,295"
abbrev pub cwnd_range : ℕ → Bool
cwnd_range w = leb 1_400 w && leb w 4_294_967_295

-- "the segment ceiling is 1 to 10"
abbrev pub segments_range : ℕ → Bool
segments_range c = leb 1 c && leb c 10

-- "lengths are 21 to 1,400 .. queued"; "a queued length is its packet's while that is stored"; a state packet is a header
abbrev pub entry_test : Slots Packet → Entry → Bool
entry_test outgoing (state b) = eqb (length b) 20
entry_test outgoing (packet n l) = leb 21 l && (leb l 1_400 && on (get outgoing n) true (λ p. eqb l (length p.bytes)))

-- "If none, the queue has distinct packet numbers from remote acked to below seq and at most 63 state packets"
abbrev pub queue_at_rest : Sender → List Entry → Bool
queue_at_rest s q =
    distinct (numbers q) && (every (λ n. leb s.remote_acked n && ltb n s.seq) (numbers q) && leb (states q) 63)

-- "The entries left to take are none or the whole queue"; "else at most 64 entries of each kind"
abbrev pub queue_to_take : Queue → Bool
queue_to_take q = eqb q.left (length q.entries) && (leb (states q.entries) 64 && leb (length (numbers q.entries)) 64)

abbrev pub queue_test : Sender → Queue → Bool
queue_test s q = cond (eqb q.left 0) (queue_at_rest s q.entries) (queue_to_take q)

unfoldable pub rules : End → Bool
rules e =
    sender_numbers e.sender
    && (receiver_numbers e.receiver
    && (every_slot (stored_test e) e.sender.outgoing
    && (every_slot (held_test e.receiver) e.receiver.incoming
    && (inflight_sums e.sender e.totals
    && (rtt_ranges e.timing.rtt
    && (clock_ranges e.clocks
    && (cwnd_range e.sender.cwnd
    && (segments_range e.ids.segments
    && (every (entry_test e.sender.outgoing) e.queue.entries && queue_test e.sender e.queue)))))))))
