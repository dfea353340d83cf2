-- Sending keeps the facts of one end: a state packet is queued, or a data packet is sent. So does a new clock, window or estimate. Most of
-- the proof is about how many queue entries a packet has after a step.
use Prim.Native.Nat.{ℕ, suc, ◌+◌, ◌-◌, ◌%◌, ◌^◌, ◌≤◌, ◌<◌, zero-le}
use native.Mathlib.Nat.{le_refl}
use native.Mathlib.Omega.{arith}
use mathlib.Core.Path.{◌≡◌, refl, sym, ap, ◌∙◌}
use mathlib.Core.Logic.{◌≢◌, ◌⊎◌, inl, inr}
use mathlib.Core.List.{List, [], ◌∷◌, ◌++◌, append-nil}
use mathlib.Core.Option.{Option, none, some}
use mathlib.Core.Bool.{Bool, true, false, cond, not, true≢false}
use lib.Dec.{eqb}
use borrow.Author.Tests.{eq-eqb, ne_eqb}
use lib.ListN.{length, get_or}
use Rattle.rtt.specs.Estimate.{InRange}
use Rattle.model.specs.Lists.{Bytes}
use Rattle.model.specs.Slots.{Numbered, ceiling, get}
use Rattle.model.specs.Stream.{Packet, Entry, state, packet, Timing, End, with_sender, Clocks, with_timing, with_clocks}
use Rattle.model.specs.Rules.{inflight_of, one_of, payload_of, absent, distinct, states, numbers}
use Rattle.model.specs.Sending.{is_set, state_type, create_header, create_packet, new_marks, count_sent, count_state, send_state_packet, send_data_packet}
use Rattle.model.specs.RulesKept.{EntryKept}
use Rattle.model.proofs.Lists.{All, all_append, all_map, by-test}
use Rattle.model.proofs.Slots.{apart, no_some, some_inj, insert_length, insert_same, insert_cases}
use Rattle.model.proofs.SlotSums.{slots_map, slots_insert, sum_new}
use Rattle.model.proofs.Wire.{packet_length}
use Rattle.model_rules.proofs.Ranges.{CwndInRange}
use Rattle.model.proofs.Gate.{and_left, and_right, and-true}
use Rattle.model_rules.proofs.Invariant.{count, Spare, QueuedOnce, Between, StoredIn, RestIn, FactsWith}

-- counting in the queue

pub count_append : (n : ℕ) (q r : List Entry) → count n (q ++ r) ≡ count n q + count n r
count_append n [] r = omega arith
count_append n (state b ∷ q) r = count_append n q r
count_append n (packet m l ∷ q) r = go (eqb n m) (count_append n q r)
  where
    go : (b : Bool) → count n (q ++ r) ≡ count n q + count n r → cond b (suc (count n (q ++ r))) (count n (q ++ r)) ≡ cond b (suc (count n q)) (count n q) + count n r
    go true e = omega arith
    go false e = e

pub fewer : (x : Entry) (q : List Entry) (n : ℕ) → count n q ≤ count n (x ∷ q)
fewer (state b) q n = le_refl _
fewer (packet m l) q n = by-test (λ (c : ℕ). count n q ≤ c) (eqb n m) (suc (count n q)) (count n q) (λ z. omega arith) (λ z. le_refl _)

pub count_other : (n m l : ℕ) → n ≢ m → count n (packet m l ∷ []) ≡ 0
count_other n m l h = rw (ne_eqb n m h) refl

pub count_self : (n l : ℕ) → count n (packet n l ∷ []) ≡ 1
count_self n l = rw (eq-eqb n n refl) refl

-- a number from seq on is not queued
count_new : (n a seq : ℕ) (q : List Entry) → seq ≤ n → Between a seq (numbers q) → count n q ≡ 0
count_new n a seq [] l k = refl
count_new n a seq (state b ∷ q) l k = count_new n a seq q l k
count_new n a seq (packet m i ∷ q) l k =
    let u = k.0.1 in rw (ne_eqb n m (λ z. absurd (omega arith))) (count_new n a seq q l k.1)

pub states_append : (q r : List Entry) → states (q ++ r) ≡ states q + states r
states_append [] r = omega arith
states_append (state b ∷ q) r = let u = states_append q r in omega arith
states_append (packet n l ∷ q) r = states_append q r

pub numbers_append : (q r : List Entry) → numbers (q ++ r) ≡ numbers q ++ numbers r
numbers_append [] r = refl
numbers_append (state b ∷ q) r = numbers_append q r
numbers_append (packet n l ∷ q) r = ap (λ (z : List ℕ). n ∷ z) (numbers_append q r)

absent_last : (n b : ℕ) (ns : List ℕ) → n ≢ b → absent n ns ≡ true → absent n (ns ++ (b ∷ [])) ≡ true
absent_last n b [] ne h = rw (ne_eqb n b ne) refl
absent_last n b (m ∷ ns) ne h =
    rw (and_left (not (eqb n m)) (absent n ns) h) (absent_last n b ns ne (and_right (not (eqb n m)) (absent n ns) h))

-- distinct numbers below b stay distinct with b added
distinct_last : (a b : ℕ) (ns : List ℕ) → Between a b ns → distinct ns ≡ true → distinct (ns ++ (b ∷ [])) ≡ true
distinct_last a b [] k h = refl
distinct_last a b (n ∷ ns) k h =
    let u = k.0.1 in
    and-true (absent_last n b ns (λ z. absurd (omega arith)) (and_left (absent n ns) (distinct ns) h))
    (distinct_last a b ns k.1 (and_right (absent n ns) (distinct ns) h))

-- a packet keeps its facts if it gains no queue entries

pub spare_fewer : {q r : List Entry} {n : ℕ} {p : Packet} → count n r ≤ count n q → Spare q n p → Spare r n p
spare_fewer l s = let u = s.entries in record { entries = omega arith; waits = λ z. (let v = s.waits z in omega arith) }

once_fewer : {q r : List Entry} {n : ℕ} {p : Packet} → count n r ≤ count n q → QueuedOnce q n p → QueuedOnce r n p
once_fewer l s = record { once = λ k. (let (u, v, w) = s.once (omega arith) in (omega arith, v, w)) }

-- a state packet is queued

module _ {more : Bool} (e : End) (g : FactsWith more e) where
  state_bytes : Bytes
  state_bytes = create_packet (state_type (is_set e.ending.error)) [] e

  state-count : (n : ℕ) → count n (e.queue.entries ++ (state state_bytes ∷ [])) ≤ count n e.queue.entries
  state-count n = let u = count_append n e.queue.entries (state state_bytes ∷ []) in omega arith

  pub facts_state : FactsWith more (send_state_packet e)
  unfolding state_bytes count_state
  facts_state =
      record {
        numbers = g.numbers;
        slots = g.slots;
        stored = g.stored;
        spare = λ y.
            slots_map (Spare e.queue.entries) (Spare (e.queue.entries ++ (state state_bytes ∷ []))) e.sender.outgoing
            (λ n p s. spare_fewer (state-count n) s) (g.spare y);
        receiver = g.receiver;
        sums = g.sums;
        ranges = g.ranges;
        segments = g.segments;
        entries =
            all_append (EntryKept e.sender.outgoing) e.queue.entries (state state_bytes ∷ []) g.entries
            (packet_length (create_header (state_type (is_set e.ending.error)) e) [], tt);
        fits = λ y. rw numbers_append (rw (append-nil (numbers e.queue.entries)) (g.fits y));
      }

  pub rest_state : states e.queue.entries ≤ 62 → RestIn more e → RestIn more (send_state_packet e)
  unfolding state_bytes
  rest_state l r =
      record {
        once = rw numbers_append (rw (append-nil (numbers e.queue.entries)) r.once);
        known = rw numbers_append (rw (append-nil (numbers e.queue.entries)) r.known);
        states = (let u = states_append e.queue.entries (state state_bytes ∷ []) in omega arith);
        queued = λ y.
            slots_map (QueuedOnce e.queue.entries) (QueuedOnce (e.queue.entries ++ (state state_bytes ∷ []))) e.sender.outgoing
            (λ n p s. once_fewer (state-count n) s) (r.queued y);
      }

-- a data packet is sent

module _ {more : Bool} (e : End) (p : Bytes) (g : FactsWith more e) (r : RestIn more e) (l1 : 1 ≤ length p) (l2 : length p ≤ 1_380)
    (low : e.sender.seq < 4_294_967_295) (w : e.sender.seq - e.sender.remote_acked < ceiling) where
  new : Packet
  new = record { bytes = create_packet 1 p e; marks = new_marks }

  longer : List Entry
  longer = e.queue.entries ++ (packet e.sender.seq (20 + length p) ∷ [])

  new_length : length new.bytes ≡ 20 + length p
  unfolding new
  new_length = packet_length (create_header 1 e) p

  free : get_or e.sender.outgoing (e.sender.seq % ceiling) none ≡ none
  free = go (get_or e.sender.outgoing (e.sender.seq % ceiling) none) refl
    where
      go : (o : Option (Numbered Packet)) → get_or e.sender.outgoing (e.sender.seq % ceiling) none ≡ o → o ≡ none
      go none z = refl
      go (some x) z =
          let (a, s) = g.stored (e.sender.seq % ceiling) x z in
          let u = s.from in
          let v = s.below in
          let y = g.numbers.acked_seq in
          absurd (apart e.sender.remote_acked x.number e.sender.seq u (omega arith) y (omega arith) (λ q. absurd (omega arith)) a)

  older_count : (n : ℕ) → n < e.sender.seq → count n longer ≤ count n e.queue.entries
  unfolding longer
  older_count n l =
      let u = count_append n e.queue.entries (packet e.sender.seq (20 + length p) ∷ []) in
      let v = count_other n e.sender.seq (20 + length p) (λ z. absurd (omega arith)) in
      omega arith

  own_count : count e.sender.seq longer ≡ 1
  unfolding longer
  own_count =
      let u = count_append e.sender.seq e.queue.entries (packet e.sender.seq (20 + length p) ∷ []) in
      let v = count_self e.sender.seq (20 + length p) in
      let y = count_new e.sender.seq e.sender.remote_acked e.sender.seq e.queue.entries (le_refl _) r.known in
      omega arith

  -- entries that are queued already belong to older packets
  older : (q : List Entry) → Between e.sender.remote_acked e.sender.seq (numbers q) → All (EntryKept e.sender.outgoing) q
      → All (EntryKept (send_data_packet p e).sender.outgoing) q
  unfolding new
  older [] k h = tt
  older (state b ∷ q) k h = (h.0, older q k h.1)
  older (packet m l ∷ q) k h =
      let (a, b, c) = h.0 in
      ((a, b, λ x z. by c x (insert_cases e.sender.outgoing e.sender.seq m new x g.slots z)), older q k.1 h.1)
    where
      by : ((x : Packet) → get e.sender.outgoing m ≡ some x → l ≡ length x.bytes) → (x : Packet)
          → ((m ≡ e.sender.seq) × (new ≡ x)) ⊎ ((m ≢ e.sender.seq) × (get e.sender.outgoing m ≡ some x))
          → l ≡ length x.bytes
      by c x (inl (u, v)) = let d = k.0.1 in absurd (omega arith)
      by c x (inr (u, v)) = c x v

  pub facts_sent : FactsWith more (send_data_packet p e)
  unfolding count_sent new longer
  facts_sent =
      let n = g.numbers in
      let s = g.sums in
      let nl = new_length in
      record {
        numbers =
            record {
              acked_seq = (let u = n.acked_seq in omega arith);
              seq_near = omega arith;
              largest_seq = (let u = n.largest_seq in omega arith);
            };
        slots = insert_length e.sender.outgoing e.sender.seq new ∙ g.slots;
        stored =
            slots_insert (StoredIn (send_data_packet p e)) e.sender.outgoing e.sender.seq new g.slots
            (slots_map (StoredIn e) (StoredIn (send_data_packet p e)) e.sender.outgoing
            (λ m q s.
            let h = s.below in
            record { from = s.from; below = omega arith; least = s.least; most = s.most; transmits = s.transmits; sent = s.sent })
            g.stored)
            (record {
              from = n.acked_seq;
              below = le_refl _;
              least = omega arith;
              most = omega arith;
              transmits = zero-le;
              sent = λ t z. absurd (no_some refl z);
            });
        spare = λ y.
            slots_insert (Spare longer) e.sender.outgoing e.sender.seq new g.slots
            (λ i x z.
            let (u, v) = g.spare y i x z in
            let (a, b) = g.stored i x z in
            (u, spare_fewer {q = e.queue.entries} (older_count x.number b.below) v))
            (let c = own_count in record { entries = omega arith; waits = λ z. absurd (true≢false (sym z)) });
        receiver = g.receiver;
        sums =
            record {
              inflight = (let u = sum_new inflight_of e.sender.outgoing e.sender.seq g.slots new free in let v = s.inflight in omega arith);
              packets = (let u = sum_new one_of e.sender.outgoing e.sender.seq g.slots new free in let v = s.packets in omega arith);
              bytes = (let u = sum_new payload_of e.sender.outgoing e.sender.seq g.slots new free in let v = s.bytes in omega arith);
            };
        ranges = g.ranges;
        segments = g.segments;
        entries =
            all_append (EntryKept (send_data_packet p e).sender.outgoing) e.queue.entries
            (packet e.sender.seq (20 + length p) ∷ []) (older e.queue.entries r.known g.entries)
            ((omega arith, omega arith, λ q z. sym nl ∙ ap (λ (x : Packet). length x.bytes) (some_inj (insert_same e.sender.outgoing e.sender.seq new g.slots) z)), tt);
        fits = λ y.
            record {
              seq_fits = low;
              below =
                  rw numbers_append
                  (all_append (λ m. m < suc e.sender.seq) (numbers e.queue.entries) (e.sender.seq ∷ [])
                  (all_map (λ m k. omega arith) (numbers e.queue.entries) (g.fits y).below) (le_refl _, tt));
            };
      }

  pub rest_sent : RestIn more (send_data_packet p e)
  unfolding new longer
  rest_sent =
      let n = g.numbers.acked_seq in
      record {
        once = rw numbers_append (distinct_last e.sender.remote_acked e.sender.seq (numbers e.queue.entries) r.known r.once);
        known =
            rw numbers_append
            (all_append (λ m. (e.sender.remote_acked ≤ m) × (m < suc e.sender.seq)) (numbers e.queue.entries) (e.sender.seq ∷ [])
            (all_map (λ m k. let (u, v) = k in (u, omega arith)) (numbers e.queue.entries) r.known) ((n, le_refl _), tt));
        states = (let u = states_append e.queue.entries (packet e.sender.seq (20 + length p) ∷ []) in let v = r.states in omega arith);
        queued = λ y.
            slots_insert (QueuedOnce longer) e.sender.outgoing e.sender.seq new g.slots
            (λ i x z. let (u, v) = r.queued y i x z in let (a, b) = g.stored i x z in (u, once_fewer {q = e.queue.entries} (older_count x.number b.below) v))
            (record { once = λ z. (let c = own_count in omega arith, refl, refl) });
      }

-- a clock, a window, an estimate

pub facts_clocks : {more : Bool} (e : End) (c : Clocks) → e.clocks.last ≤ c.last → c.drive ≤ c.last → c.last < 2 ^ 60 → FactsWith more e → FactsWith more (with_clocks c e)
facts_clocks e c l d y g =
    record {
      numbers = g.numbers;
      slots = g.slots;
      stored =
          slots_map (StoredIn e) (StoredIn (with_clocks c e)) e.sender.outgoing
          (λ n p s.
          record {
            from = s.from;
            below = s.below;
            least = s.least;
            most = s.most;
            transmits = s.transmits;
            sent = λ t z. (let u = s.sent t z in omega arith);
          })
          g.stored;
      spare = g.spare;
      receiver = g.receiver;
      sums = g.sums;
      ranges = record { estimate = g.ranges.estimate; window = g.ranges.window; drive_last = d; last_fits = y };
      segments = g.segments;
      entries = g.entries;
      fits = g.fits;
    }

-- another largest ack and window
pub facts_window : {more : Bool} (e : End) (largest_ack cwnd : ℕ) → largest_ack ≤ e.sender.seq → CwndInRange cwnd → FactsWith more e
    → FactsWith more
    (with_sender
    (record { seq = e.sender.seq; remote_acked = e.sender.remote_acked; largest_ack = largest_ack; inflight = e.sender.inflight; cwnd = cwnd; outgoing = e.sender.outgoing })
    e)
facts_window e largest_ack cwnd l w g =
    let n = g.numbers in
    record {
      numbers = record { acked_seq = n.acked_seq; seq_near = n.seq_near; largest_seq = l };
      slots = g.slots;
      stored = g.stored;
      spare = g.spare;
      receiver = g.receiver;
      sums = g.sums;
      ranges = record { estimate = g.ranges.estimate; window = w; drive_last = g.ranges.drive_last; last_fits = g.ranges.last_fits };
      segments = g.segments;
      entries = g.entries;
      fits = g.fits;
    }

pub facts_timing : {more : Bool} (e : End) (t : Timing) → InRange t.rtt → FactsWith more e → FactsWith more (with_timing t e)
facts_timing e t k g =
    record {
      numbers = g.numbers;
      slots = g.slots;
      stored = g.stored;
      spare = g.spare;
      receiver = g.receiver;
      sums = g.sums;
      ranges = record { estimate = k; window = g.ranges.window; drive_last = g.ranges.drive_last; last_fits = g.ranges.last_fits };
      segments = g.segments;
      entries = g.entries;
      fits = g.fits;
    }
