-- The invariant of one end, which every call keeps; the rules of the records follow from it (`invariant_rules`). It says more than 01's
-- rules, because the rules alone are not enough for a read or a take to keep them: a read could break "read cursor ≤ ack" if number ack
-- were held, and a take could break "transmits are at most 7". So besides the rules: number ack is not held; a packet's transmits and queue
-- entries together are at most 7, and at most 6 while it waits; with nothing left to take, a queued packet is queued once, was never
-- transmitted and does not wait; and, for the words of the records, seq and the queued numbers fit 32 bits. The other calls keep the rules
-- with or without these facts, by the same steps: `more` says whether the facts are included. Without them the invariant is exactly the
-- rules, for stores of 32 slots (`rules_kept`, `kept_rules`).
use Prim.Native.Nat.{ℕ, suc, ◌+◌, ◌^◌, ◌≤◌, ◌<◌}
use native.Mathlib.Decide.{ℕ_discrete}
use native.Mathlib.Omega.{arith}
use mathlib.Core.Path.{◌≡◌, sym}
use mathlib.Core.List.{List, [], ◌∷◌}
use mathlib.Core.Option.{none, some}
use mathlib.Core.Bool.{Bool, true, false, cond, true≢false}
use lib.Dec.{eqb}
use lib.ListN.{length}
use Rattle.rtt.specs.declared.estimate.Rtt.{Rtt}
use Rattle.rtt.specs.Estimate.{InRange}
use Rattle.model.specs.Slots.{Slots, ceiling, get}
use Rattle.model.specs.Stream.{Packet, Held, Entry, state, packet, Receiver, End}
use Rattle.model.specs.Rules.{sum, inflight_of, one_of, payload_of, distinct, states, numbers, rules}
use Rattle.model.specs.RulesKept.{Every, EntryKept, RestKept, ToTakeKept, KeepsRules}
use Rattle.model.proofs.Lists.{All}
use Rattle.model.proofs.SlotSums.{SlotsOk}
use Rattle.model_rules.proofs.Ranges.{CwndInRange, InSegments}
use Rattle.model.proofs.RulesKept.{rules_say, rules_said, distinct_few}

-- how often a number is in the queue
abbrev pub count : ℕ → List Entry → ℕ
count n [] = 0
count n (state b ∷ q) = count n q
count n (packet m l ∷ q) = cond (eqb n m) (suc (count n q)) (count n q)

-- packet n, stored
pub record StoredFacts (remote_acked seq clock n : ℕ) (p : Packet) : Type 0 where
  pub from : remote_acked ≤ n
  pub below : n < seq
  pub least : 21 ≤ length p.bytes
  pub most : length p.bytes ≤ 1_400
  pub transmits : p.marks.transmits ≤ 7
  pub sent : (t : ℕ) → p.marks.sent ≡ some t → t ≤ clock

-- packet n, stored: it has transmits to spare for its entries
pub record Spare (q : List Entry) (n : ℕ) (p : Packet) : Type 0 where
  -- taking an entry adds a transmit
  pub entries : p.marks.transmits + count n q ≤ 7
  -- a waiting packet will be queued once more
  pub waits : p.marks.waiting ≡ true → p.marks.transmits + count n q ≤ 6

-- packet n, held
pub record HeldFacts (read_cursor : ℕ) (n : ℕ) (h : Held) : Type 0 where
  pub from : read_cursor ≤ n
  pub below : n < read_cursor + ceiling
  pub fits : n < 4_294_967_295
  pub most : length h.payload ≤ 1_380
  pub offset : h.offset ≤ length h.payload

-- packet n, stored, if it is queued: after a timeout it still has room for that entry and one more
pub record QueuedOnce (q : List Entry) (n : ℕ) (p : Packet) : Type 0 where
  pub once : 0 < count n q → (count n q ≤ 1) × (p.marks.transmits ≡ 0) × (p.marks.waiting ≡ false)

-- numbers from a to below b
abbrev pub Between : ℕ → ℕ → List ℕ → Type 0
Between a b ns = All (λ n. (a ≤ n) × (n < b)) ns

-- the queue with nothing left to take
pub record AtRest (more : Bool) (remote_acked seq : ℕ) (outgoing : Slots Packet) (q : List Entry) : Type 0 where
  pub once : distinct (numbers q) ≡ true
  pub known : Between remote_acked seq (numbers q)
  pub states : states q ≤ 63
  pub queued : more ≡ true → SlotsOk (QueuedOnce q) outgoing

-- the queue while it is left to take
pub record ToTake (q : List Entry) : Type 0 where
  pub states : states q ≤ 64
  pub packets : length (numbers q) ≤ 64

-- the sender's numbers
pub record SenderNumbers (seq remote_acked largest_ack : ℕ) : Type 0 where
  pub acked_seq : remote_acked ≤ seq
  pub seq_near : seq ≤ remote_acked + ceiling
  pub largest_seq : largest_ack ≤ seq

-- seq and the queued numbers fit 32 bits: a write sends only while seq is below 4,294,967,295, and only what was sent is queued
pub record NumbersFit (seq : ℕ) (queued : List ℕ) : Type 0 where
  pub seq_fits : seq ≤ 4_294_967_295
  pub below : All (λ n. n < seq) queued

-- inflight and the two inflight totals count what is stored
pub record Sums (i k b : ℕ) (outgoing : Slots Packet) : Type 0 where
  pub inflight : i ≡ sum inflight_of outgoing
  pub packets : k ≡ sum one_of outgoing
  pub bytes : b ≡ sum payload_of outgoing

-- estimate, window and clocks
pub record InRanges (rtt : Rtt) (cwnd drive last : ℕ) : Type 0 where
  pub estimate : InRange rtt
  pub window : CwndInRange cwnd
  pub drive_last : drive ≤ last
  pub last_fits : last < 2 ^ 60

-- the same for the parts of an end
abbrev pub StoredIn : End → ℕ → Packet → Type 0
StoredIn e = StoredFacts e.sender.remote_acked e.sender.seq e.clocks.last

abbrev pub RestIn : Bool → End → Type 0
RestIn more e = AtRest more e.sender.remote_acked e.sender.seq e.sender.outgoing e.queue.entries

abbrev pub FitIn : End → Type 0
FitIn e = NumbersFit e.sender.seq (numbers e.queue.entries)

-- the receiver: its rules; and number ack is not held, since ack has moved past all held in order
abbrev pub ReceiverFacts : Bool → Receiver → Type 0
ReceiverFacts more r =
    record {
      cursor_ack : r.read_cursor ≤ r.ack;
      ack_near : r.ack ≤ r.read_cursor + ceiling;
      slots : length r.incoming ≡ ceiling;
      held : SlotsOk (HeldFacts r.read_cursor) r.incoming;
      gap : more ≡ true → get r.incoming r.ack ≡ none;
    }

-- everything except what is left to take
abbrev pub FactsWith : Bool → End → Type 0
FactsWith more e =
    record {
      numbers : SenderNumbers e.sender.seq e.sender.remote_acked e.sender.largest_ack;
      slots : length e.sender.outgoing ≡ ceiling;
      stored : SlotsOk (StoredIn e) e.sender.outgoing;
      spare : more ≡ true → SlotsOk (Spare e.queue.entries) e.sender.outgoing;
      sums : Sums e.sender.inflight e.totals.inflight_packets e.totals.inflight_bytes e.sender.outgoing;
      receiver : ReceiverFacts more e.receiver;
      ranges : InRanges e.timing.rtt e.sender.cwnd e.clocks.drive e.clocks.last;
      segments : InSegments e.ids.segments;
      entries : All (EntryKept e.sender.outgoing) e.queue.entries;
      fits : more ≡ true → FitIn e;
    }

-- nothing is left to take, or the whole queue
pub data Left (more : Bool) (e : End) : Type 0 where
  at_rest : e.queue.left ≡ 0 → RestIn more e → Left more e
  to_take : 0 < e.queue.left → e.queue.left ≡ length e.queue.entries → ToTake e.queue.entries → Left more e

abbrev pub InvariantWith : Bool → End → Type 0
InvariantWith more e = record { facts : FactsWith more e; left : Left more e }

abbrev pub Facts : End → Type 0
Facts e = FactsWith true e

abbrev pub Invariant : End → Type 0
Invariant e = InvariantWith true e

-- the rules follow

all_every : {A : Type 0} {P Q : A → Type 0} (f : (x : A) → P x → Q x) (xs : List A) → All P xs → Every Q xs
all_every f [] a = tt
all_every f (x ∷ xs) a = (f x a.0, all_every f xs a.1)

every_all : {A : Type 0} (P : A → Type 0) (xs : List A) → Every P xs → All P xs
every_all P [] a = tt
every_all P (x ∷ xs) a = (a.0, every_all P xs a.1)

-- at rest, at most 32 packets are queued
pub rest_few : {more : Bool} (e : End) → FactsWith more e → RestIn more e → length (numbers e.queue.entries) ≤ ceiling
rest_few e g r =
    let near = g.numbers.seq_near in
    distinct_few e.sender.remote_acked ceiling (numbers e.queue.entries) r.once
    (all_every (λ n k. let (a, b) = k in (a, omega arith)) (numbers e.queue.entries) r.known)

pub kept_rules : {more : Bool} (e : End) → InvariantWith more e → rules e ≡ true
kept_rules {more} e g =
    let n = g.facts.numbers in
    let c = g.facts.receiver in
    let s = g.facts.sums in
    let r = g.facts.ranges in
    rules_said e
    (record {
      acked_seq = n.acked_seq;
      seq_near = n.seq_near;
      largest_seq = n.largest_seq;
      cursor_ack = c.cursor_ack;
      ack_near = c.ack_near;
      stored = λ i x z.
          let (a, f) = g.facts.stored i x z in
          record { in-slot = a; from = f.from; below = f.below; least = f.least; most = f.most; transmits = f.transmits; sent = f.sent };
      held = λ i x z.
          let (a, f) = c.held i x z in
          record { in-slot = a; from = f.from; below = f.below; fits = f.fits; most = f.most; offset = f.offset };
      inflight = s.inflight;
      packets = s.packets;
      bytes = s.bytes;
      estimate = r.estimate;
      drive_last = r.drive_last;
      last_fits = r.last_fits;
      window_least = r.window.least;
      window_most = r.window.most;
      segments_least = g.facts.segments.least;
      segments_most = g.facts.segments.most;
      entries = all_every (λ x k. k) e.queue.entries g.facts.entries;
      rest = rest g.left;
      to_take = to_take_lem g.left;
    })
  where
    rest : Left more e → e.queue.left ≡ 0 → RestKept e.sender e.queue.entries
    rest (at_rest a h) z = record { once = h.once; known = all_every (λ n k. k) (numbers e.queue.entries) h.known; states = h.states }
    rest (to_take p a h) z = absurd (omega arith)

    to_take_lem : Left more e → (e.queue.left ≡ 0 → ⊥) → ToTakeKept e.queue
    to_take_lem (at_rest a h) z = absurd (z a)
    to_take_lem (to_take p a h) z = record { whole = a; states = h.states; packets = h.packets }

pub invariant_rules : (e : End) → Invariant e → rules e ≡ true
invariant_rules e g = kept_rules e g

-- conversely, the rules give the invariant without `more`
pub rules_kept : (e : End) → length e.sender.outgoing ≡ ceiling → length e.receiver.incoming ≡ ceiling → rules e ≡ true → InvariantWith false e
rules_kept e out in-slots h =
    record {
      facts =
          record {
            numbers = record { acked_seq = k.acked_seq; seq_near = k.seq_near; largest_seq = k.largest_seq };
            slots = out;
            stored = λ i x z.
                let f = k.stored i x z in
                (f.in-slot, record { from = f.from; below = f.below; least = f.least; most = f.most; transmits = f.transmits; sent = f.sent });
            spare = λ z. absurd (true≢false (sym z));
            sums = record { inflight = k.inflight; packets = k.packets; bytes = k.bytes };
            receiver =
                record {
                  cursor_ack = k.cursor_ack;
                  ack_near = k.ack_near;
                  slots = in-slots;
                  held = λ i x z.
                      let f = k.held i x z in
                      (f.in-slot, record { from = f.from; below = f.below; fits = f.fits; most = f.most; offset = f.offset });
                  gap = λ z. absurd (true≢false (sym z));
                };
            ranges =
                record {
                  estimate = k.estimate;
                  window = record { least = k.window_least; most = k.window_most };
                  drive_last = k.drive_last;
                  last_fits = k.last_fits;
                };
            segments = record { least = k.segments_least; most = k.segments_most };
            entries = every_all (EntryKept e.sender.outgoing) e.queue.entries k.entries;
            fits = λ z. absurd (true≢false (sym z));
          };
      left = go (ℕ_discrete e.queue.left 0);
    }
  where
    k : KeepsRules e
    k = rules_say e h

    go : Dec (e.queue.left ≡ 0) → Left false e
    go (yes z) =
        let r = k.rest z in
        at_rest z
        (record {
          once = r.once;
          known = every_all (λ n. (e.sender.remote_acked ≤ n) × (n < e.sender.seq)) (numbers e.queue.entries) r.known;
          states = r.states;
          queued = λ y. absurd (true≢false (sym y));
        })
    go (no z) = let t = k.to_take z in to_take (omega (arith, z)) t.whole (record { states = t.states; packets = t.packets })
