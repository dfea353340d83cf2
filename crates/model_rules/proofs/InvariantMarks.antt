-- The steps on a stored packet keep the facts of one end: its marks change (it is lost, queued again or taken), or it is
-- acknowledged and leaves. The sums over the store follow, and transmits plus queue entries stay at most 7.
use Prim.Native.Nat.{ℕ, zero, suc, ◌+◌, ◌-◌, ◌^◌, ◌≤◌, ◌<◌}
use native.Mathlib.Nat.{le_refl}
use native.Mathlib.Omega.{arith}
use mathlib.Core.Path.{◌≡◌, refl, sym, ap, ◌∙◌, subst}
use mathlib.Core.Logic.{◌≢◌, ◌⊎◌, inl, inr}
use mathlib.Core.List.{List, [], ◌∷◌}
use mathlib.Core.Option.{Option, none, some}
use mathlib.Core.Bool.{Bool, true, false, true≢false}
use lib.Dec.{eqb}
use borrow.Author.Tests.{eq-eqb}
use lib.ListN.{length}
use Rattle.rtt.specs.Estimate.{sampled, InRange}
use Rattle.model.specs.Lists.{on}
use Rattle.model.specs.Slots.{Slots, ceiling, get, insert, remove}
use Rattle.model.specs.Stream.{Marks, Packet, Entry, state, packet, Queue, Timing, End, with_sender, with_queue}
use Rattle.model.specs.Rules.{sum, inflight_of, one_of, payload_of, numbers}
use Rattle.model.specs.RulesKept.{EntryKept}
use Rattle.model.specs.Sending.{pushed}
use Rattle.model.specs.Receiving.{left, measured, count_acked, handle_remote_ack, ack_number}
use Rattle.model.specs.Driving.{lost_marks, flushed_marks, taken_marks, marked, remarked, lost, flushed, with_entries, settled}
use Rattle.model.proofs.Lists.{All, all_append, all_map, by-test}
use Rattle.model.proofs.Slots.{some_inj, insert_length, remove_length, insert_same, insert_cases, remove_cases}
use Rattle.model.proofs.SlotSums.{SlotsOk, slots_look, slots_map, slots_insert, slots_again, slots_remove, sum_again, sum_wipe}
use Rattle.rtt.proofs.Range.{sampled_range}
use Rattle.model_rules.proofs.Invariant.{count, Spare, QueuedOnce, NumbersFit, StoredIn, RestIn, FactsWith, Facts}
use Rattle.model_rules.proofs.InvariantSteps.{count_append, fewer, count_other, count_self, numbers_append, spare_fewer}

-- a stored packet's marks change, and inflight with them; the queue may change

module _ {more : Bool} (e : End) (g : FactsWith more e) (n : ℕ) (f : Marks → Marks) (p : Packet) (z : get e.sender.outgoing n ≡ some p) where
  -- what is known about the packet
  stored_at : StoredIn e n p
  stored_at = slots_look (StoredIn e) e.sender.outgoing n p g.stored z

  spare_at : more ≡ true → Spare e.queue.entries n p
  spare_at y = slots_look (Spare e.queue.entries) e.sender.outgoing n p (g.spare y) z

  sum_marked : (w : Packet → ℕ) → sum w (insert e.sender.outgoing n (marked f p)) + w p ≡ sum w e.sender.outgoing + w (marked f p)
  sum_marked w = sum_again w e.sender.outgoing n g.slots (marked f p) p z

  entry_marked : (x : Entry) → EntryKept e.sender.outgoing x → EntryKept (insert e.sender.outgoing n (marked f p)) x
  entry_marked (state b) h = h
  entry_marked (packet m l) (b, c, d) = (b, c, λ q y. by q (insert_cases e.sender.outgoing n m (marked f p) q g.slots y))
    where
      by : (q : Packet) → ((m ≡ n) × (marked f p ≡ q)) ⊎ ((m ≢ n) × (get e.sender.outgoing m ≡ some q)) → l ≡ length q.bytes
      by q (inl (u, v)) = d p (ap (get e.sender.outgoing) u ∙ z) ∙ ap (λ (x : Packet). length x.bytes) v
      by q (inr (u, v)) = d q v

  -- provided no other packet gains queue entries
  facts_marked : (inflight : ℕ) (q : Queue)
      → inflight + inflight_of p ≡ e.sender.inflight + inflight_of (marked f p)
      → ((m : ℕ) → m ≢ n → count m q.entries ≤ count m e.queue.entries)
      → (f p.marks).transmits ≤ 7
      → (more ≡ true → Spare q.entries n (marked f p))
      → ((t : ℕ) → (f p.marks).sent ≡ some t → t ≤ e.clocks.last)
      → All (EntryKept (insert e.sender.outgoing n (marked f p))) q.entries
      → (more ≡ true → NumbersFit e.sender.seq (numbers q.entries))
      → FactsWith more (with_queue q (with_sender (remarked n inflight f p e.sender) e))
  facts_marked inflight q i others transmits spare sent entries fits =
      let r = stored_at in
      record {
        numbers = g.numbers;
        slots = insert_length e.sender.outgoing n (marked f p) ∙ g.slots;
        stored =
            slots_insert (StoredIn e) e.sender.outgoing n (marked f p) g.slots g.stored
            (record { from = r.from; below = r.below; least = r.least; most = r.most; transmits = transmits; sent = sent });
        spare = λ y.
            slots_again (Spare e.queue.entries) (Spare q.entries) e.sender.outgoing n (marked f p) g.slots (g.spare y)
            (λ m u ne s. spare_fewer {q = e.queue.entries} (others m ne) s) (spare y);
        sums =
            record {
              inflight = (let u = sum_marked inflight_of in let v = g.sums.inflight in omega arith);
              packets = (let u = sum_marked one_of in let v = g.sums.packets in omega arith);
              bytes = (let u = sum_marked payload_of in let v = g.sums.bytes in omega arith);
            };
        receiver = g.receiver;
        ranges = g.ranges;
        segments = g.segments;
        entries = entries;
        fits = fits;
      }

-- a packet is lost
pub facts_lost : {more : Bool} (e : End) (n : ℕ) (p : Packet) → get e.sender.outgoing n ≡ some p → p.marks.waiting ≡ false → p.marks.transmits ≤ 5
    → (more ≡ true → QueuedOnce e.queue.entries n p)
    → FactsWith more e
    → FactsWith more (lost n p e)
facts_lost e n p z w t o g =
    let u = sum_marked e g n lost_marks p z inflight_of in
    let v = g.sums.inflight in
    let y : inflight_of p ≡ length p.bytes = rw w refl in
    facts_marked e g n lost_marks p z (e.sender.inflight - length p.bytes) e.queue (omega arith) (λ m ne. le_refl _) (omega arith)
    (λ y. let six = at (count n e.queue.entries) (o y).once in record { entries = omega arith; waits = λ q. six })
    (stored_at e g n lost_marks p z).sent (all_map (entry_marked e g n lost_marks p z) e.queue.entries g.entries)
    g.fits
  where
    at : (c : ℕ) → (0 < c → (c ≤ 1) × (p.marks.transmits ≡ 0) × (p.marks.waiting ≡ false)) → suc p.marks.transmits + c ≤ 6
    at zero h = omega arith
    at (suc c) h = let (a, b, d) = h (omega arith) in omega arith

-- a waiting packet is queued again
pub facts_flushed : {more : Bool} (e : End) (n : ℕ) (p : Packet) → get e.sender.outgoing n ≡ some p → p.marks.waiting ≡ true → FactsWith more e
    → FactsWith more (flushed n p e)
facts_flushed e n p z w g =
    let entry = packet n (length p.bytes) in
    let r = stored_at e g n flushed_marks p z in
    let self = count_append n e.queue.entries (entry ∷ []) in
    let one = count_self n (length p.bytes) in
    let y : inflight_of p ≡ 0 = rw w refl in
    facts_marked e g n flushed_marks p z (e.sender.inflight + length p.bytes) (pushed entry e.queue) (omega arith)
    (λ m ne. let u = count_append m e.queue.entries (entry ∷ []) in let v = count_other m n (length p.bytes) ne in omega arith)
    r.transmits
    (λ y. let six = (spare_at e g n flushed_marks p z y).waits w in record { entries = omega arith; waits = λ q. absurd (true≢false (sym q)) })
    r.sent
    (all_append (EntryKept (insert e.sender.outgoing n (marked flushed_marks p))) e.queue.entries (entry ∷ [])
    (all_map (entry_marked e g n flushed_marks p z) e.queue.entries g.entries)
    ((r.least, r.most, λ q y. ap (λ (x : Packet). length x.bytes) (some_inj (insert_same e.sender.outgoing n (marked flushed_marks p) g.slots) y)), tt))
    (λ y.
    let f = g.fits y in
    record {
      seq_fits = f.seq_fits;
      below = rw numbers_append (all_append (λ m. m < e.sender.seq) (numbers e.queue.entries) (n ∷ []) f.below (r.below, tt));
    })

-- the other entries still fit when one is taken
fits_rest : (seq : ℕ) (x : Entry) (q : List Entry) → NumbersFit seq (numbers (x ∷ q)) → NumbersFit seq (numbers q)
fits_rest seq (state b) q f = f
fits_rest seq (packet n l) q f = record { seq_fits = f.seq_fits; below = f.below.1 }

-- an entry is taken whose packet is there
pub facts_taken : (e : End) (n l : ℕ) (q : List Entry) (p : Packet)
    → get e.sender.outgoing n ≡ some p
    → Facts (with_entries (packet n l ∷ q) e)
    → Facts (with_entries q (with_sender (remarked n e.sender.inflight (taken_marks e.clocks.drive) p e.sender) e))
facts_taken e n l q p z g =
    let x = with_entries (packet n l ∷ q) e in
    let f = taken_marks e.clocks.drive in
    let r = spare_at x g n f p z refl in
    let u = r.entries in
    let one : count n (packet n l ∷ q) ≡ suc (count n q) = rw (eq-eqb n n refl) refl in
    facts_marked x g n f p z e.sender.inflight (record { entries = q; left = e.queue.left }) refl
    (λ m ne. fewer (packet n l) q m) (omega arith) (λ y. record { entries = omega arith; waits = λ w. (let v = r.waits w in omega arith) })
    (λ t y. let d = g.ranges.drive_last in let s : e.clocks.drive ≡ t = some_inj refl y in omega arith)
    (all_map (entry_marked x g n f p z) q g.entries.1) (λ y. fits_rest e.sender.seq (packet n l) q (g.fits y))

-- an entry is taken whose packet has left, or a state packet
pub facts_popped : (e : End) (x : Entry) (q : List Entry) → Facts (with_entries (x ∷ q) e) → Facts (with_entries q e)
facts_popped e x q g =
    record {
      numbers = g.numbers;
      slots = g.slots;
      stored = g.stored;
      spare = λ y. slots_map (Spare (x ∷ q)) (Spare q) e.sender.outgoing (λ n p s. spare_fewer {q = x ∷ q} (fewer x q n) s) (g.spare y);
      sums = g.sums;
      receiver = g.receiver;
      ranges = g.ranges;
      segments = g.segments;
      entries = g.entries.1;
      fits = λ y. fits_rest e.sender.seq x q (g.fits y);
    }

-- an acknowledged packet leaves

measured_range : (clock : ℕ) (p : Packet) (t : Timing) → clock < 2 ^ 60 → InRange t.rtt → InRange (measured clock p t).rtt
unfolding measured
measured_range clock p t y k =
    by-test (λ (x : Timing). InRange x.rtt) (eqb p.marks.transmits 1)
    (on p.marks.sent t (λ at. record { rtt = sampled t.rtt (clock - at); deadline = t.deadline })) t (λ z. sample p.marks.sent) (λ z. k)
  where
    sample : (o : Option ℕ) → InRange (on o t (λ at. record { rtt = sampled t.rtt (clock - at); deadline = t.deadline })).rtt
    sample none = k
    sample (some at) = sampled_range t.rtt (clock - at) k (omega arith)

-- what holds for every packet holds for those that stay
pub slots_stay : (Q : ℕ → Packet → Type 0) (s : Slots Packet) (n : ℕ) → length s ≡ ceiling → SlotsOk Q s → SlotsOk Q (remove s n)
slots_stay Q s n l h = slots_map (λ m p. Q m p × (m ≢ n)) Q (remove s n) (λ m p k. k.0) (slots_remove Q s n l h)

module _ {more : Bool} (clock n : ℕ) (e : End) (g : FactsWith more e) (p : Packet) (z : get e.sender.outgoing n ≡ some p) where
  sum_left : (w : Packet → ℕ) → sum w (remove e.sender.outgoing n) + w p ≡ sum w e.sender.outgoing
  sum_left w = sum_wipe w e.sender.outgoing n g.slots p z

  inflight_left : (left n p e.sender).inflight ≡ sum inflight_of (remove e.sender.outgoing n)
  inflight_left =
      let u = sum_left inflight_of in
      let v = g.sums.inflight in
      by-test (λ (i : ℕ). i ≡ sum inflight_of (remove e.sender.outgoing n)) p.marks.waiting e.sender.inflight (e.sender.inflight - length p.bytes)
      (λ w. let x : inflight_of p ≡ 0 = rw w refl in omega arith) (λ w. let x : inflight_of p ≡ length p.bytes = rw w refl in omega arith)

  entry_left : (x : Entry) → EntryKept e.sender.outgoing x → EntryKept (remove e.sender.outgoing n) x
  entry_left (state b) h = h
  entry_left (packet m l) (b, c, d) = (b, c, λ q y. d q (remove_cases e.sender.outgoing n m q g.slots y).1)

  pub facts_acked : clock < 2 ^ 60 → FactsWith more (handle_remote_ack clock n p e)
  unfolding count_acked
  facts_acked y =
      record {
        numbers = g.numbers;
        slots = remove_length e.sender.outgoing n ∙ g.slots;
        stored = slots_stay (StoredIn e) e.sender.outgoing n g.slots g.stored;
        spare = λ w. slots_stay (Spare e.queue.entries) e.sender.outgoing n g.slots (g.spare w);
        sums =
            record {
              inflight = inflight_left;
              packets = (let u = sum_left one_of in let v = g.sums.packets in omega arith);
              bytes = (let u = sum_left payload_of in let v = g.sums.bytes in omega arith);
            };
        receiver = g.receiver;
        ranges =
            record {
              estimate = measured_range clock p e.timing y g.ranges.estimate;
              window = g.ranges.window;
              drive_last = g.ranges.drive_last;
              last_fits = g.ranges.last_fits;
            };
        segments = g.segments;
        entries = all_map entry_left e.queue.entries g.entries;
        fits = g.fits;
      }

  pub rest_acked : RestIn more e → RestIn more (handle_remote_ack clock n p e)
  rest_acked r =
      record {
        once = r.once;
        known = r.known;
        states = r.states;
        queued = λ w. slots_stay (QueuedOnce e.queue.entries) e.sender.outgoing n g.slots (r.queued w);
      }

-- number n is stored and leaves, or is not stored
pub by_ack : (Q : End → Type 0) (clock n : ℕ) (e : End)
    → (get e.sender.outgoing n ≡ none → Q e)
    → ((p : Packet) → get e.sender.outgoing n ≡ some p → Q (handle_remote_ack clock n p e))
    → Q (ack_number clock n e)
unfolding ack_number
by_ack Q clock n e a b = go (get e.sender.outgoing n) refl
  where
    go : (o : Option Packet) → get e.sender.outgoing n ≡ o → Q (on o e (λ p. handle_remote_ack clock n p e))
    go none z = a z
    go (some p) z = b p z

-- the lowest number is settled once it is not stored

pub removed : (s : Slots Packet) (n : ℕ) → length s ≡ ceiling → get (remove s n) n ≡ none
removed s n l = go (get (remove s n) n) refl
  where
    go : (o : Option Packet) → get (remove s n) n ≡ o → o ≡ none
    go none z = refl
    go (some p) z = absurd ((remove_cases s n n p l z).0 refl)

remove_absent : (s : Slots Packet) (n : ℕ) → get s n ≡ none → remove s n ≡ s
unfolding remove
remove_absent s n z = rw z refl

pub facts_settled : {more : Bool} (e : End) → get e.sender.outgoing e.sender.remote_acked ≡ none → e.sender.remote_acked < e.sender.seq → FactsWith more e → FactsWith more (with_sender (settled e.sender) e)
facts_settled e z l g =
    let n = g.numbers in
    record {
      numbers = record { acked_seq = l; seq_near = (let u = n.seq_near in omega arith); largest_seq = n.largest_seq };
      slots = g.slots;
      stored =
          slots_map (λ m p. StoredIn e m p × (m ≢ e.sender.remote_acked)) (StoredIn (with_sender (settled e.sender) e)) e.sender.outgoing
          (λ m p (s, ne).
          let u = s.from in
          record { from = omega arith; below = s.below; least = s.least; most = s.most; transmits = s.transmits; sent = s.sent })
          (subst (SlotsOk (λ m p. StoredIn e m p × (m ≢ e.sender.remote_acked))) (remove_absent e.sender.outgoing e.sender.remote_acked z)
          (slots_remove (StoredIn e) e.sender.outgoing e.sender.remote_acked g.slots g.stored));
      spare = g.spare;
      sums = g.sums;
      receiver = g.receiver;
      ranges = g.ranges;
      segments = g.segments;
      entries = g.entries;
      fits = g.fits;
    }
