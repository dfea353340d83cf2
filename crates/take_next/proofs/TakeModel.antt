-- From the stores to the whole end: the model's `take_loop` is `send_loop` on the outgoing store, with the entries gone from the queue; and
-- the records after a take, with the shorter queue, are seen as the model's end after it.
use Prim.Native.Nat.{ℕ, zero, suc, ◌+◌, ◌-◌, ◌≤◌}
use native.Mathlib.Omega.{arith}
use mathlib.Core.Path.{◌≡◌, refl, ap, ap₂, sym, ◌∙◌}
use mathlib.Core.Logic.{◌≢◌}
use mathlib.Core.List.{List, [], ◌∷◌, ◌++◌}
use mathlib.Core.Option.{Option, none, some}
use mathlib.Core.Bool.{Bool, true, false, cond}
use lib.Dec.{eqb}
use borrow.Author.Tests.{eqb-true, eqb-false}
use lib.ListN.{length, take, drop}
use Rattle.model.specs.Lists.{Bytes, joined, on}
use Rattle.model.specs.Slots.{Slots, get}
use Rattle.model.specs.Stream as model
use Rattle.model.specs.Driving.{taken_marks, remarked, Taken, take_entry, with_entries, take_loop, taken_from}
use Rattle.records.specs.declared.Queue.{Queue}
use Rattle.records.specs.declared.Sender.{Sender}
use Rattle.records.specs.declared.Stream.{Stream}
use Rattle.records.specs.declared.Totals.{Totals}
use Rattle.records.specs.Put.{put}
use Rattle.records.specs.Seen.{seen_outgoing, seen_queue, entry_words, Lent, seen, state_words, QueueFormed}
use Rattle.records.proofs.SeenQueue.{queue_take, queue_last}
use Rattle.records.proofs.FormedQueue.{formed_take}
use Rattle.take_entry.specs.declared.Progress.{Progress}
use Rattle.take_entry.specs.Transmit.{TakenFromStore, send_entry, store_seen, PutInBuffer}
use Rattle.take_next.specs.Take.{Lends, send_loop, taken_queue, taken_stream, taken_lent, Took, Takes}
use Rattle.take_next.proofs.TakeSome.{sent_entry, Going}

-- the model's end with another outgoing store
abbrev with_outgoing : Slots model.Packet → model.End → model.End
with_outgoing o e =
    model.with_sender
    (record { seq = e.sender.seq; remote_acked = e.sender.remote_acked; largest_ack = e.sender.largest_ack; inflight = e.sender.inflight; cwnd = e.sender.cwnd; outgoing = o })
    e

abbrev taken_with : List model.Entry → TakenFromStore → model.End → Taken
taken_with q r e = record { datagrams = r.datagrams; end = with_entries q (with_outgoing r.outgoing e) }

-- the entry of a packet that is there or has left
abbrev taken_entry : ℕ → model.End → Option model.Packet → Taken
taken_entry n e o =
    on o (record { datagrams = []; end = e })
    (λ p. record { datagrams = p.bytes ∷ []; end = model.with_sender (remarked n e.sender.inflight (taken_marks e.clocks.drive) p e.sender) e })

entry_sends : (x : model.Entry) (e : model.End)
    → let t = send_entry e.clocks.drive x e.sender.outgoing in take_entry x e ≡ record { datagrams = t.datagrams; end = with_outgoing t.outgoing e }
unfolding take_entry send_entry
entry_sends (model.state b) e = refl
entry_sends (model.packet n l) e = go (get e.sender.outgoing n)
  where
    go : (o : Option model.Packet)
        → let t = sent_entry e.clocks.drive n e.sender.outgoing o in taken_entry n e o ≡ record { datagrams = t.datagrams; end = with_outgoing t.outgoing e }
    go none = refl
    go (some p) = refl

pub loop_sends : (k : ℕ) (q : List model.Entry) (e : model.End) → take_loop k q e ≡ taken_with (drop k q) (send_loop e.clocks.drive k q e.sender.outgoing) e
unfolding take_loop send_loop
loop_sends zero q e = refl
loop_sends (suc k) [] e = refl
loop_sends (suc k) (x ∷ q) e =
    let t = send_entry e.clocks.drive x e.sender.outgoing in
    let e' = with_outgoing t.outgoing e in
    ap (λ (u : Taken). record { datagrams = u.datagrams ++ (take_loop k q u.end).datagrams; end = (take_loop k q u.end).end }) (entry_sends x e)
    ∙ ap (λ (r : Taken). record { datagrams = t.datagrams ++ r.datagrams; end = r.end }) (loop_sends k q e')

-- the queue after it

abbrev emptied : Queue
emptied = record { count = 0; left = 0; states = 0; gone = 0 }

abbrev shorter : Queue → (k place : ℕ) → Queue
shorter q k place = record { count = q.count; left = q.left - k; states = q.states; gone = place }

queue_taken : (q : Queue) (queue : List ℕ) (headers : Bytes) (k place : ℕ) → 1 ≤ q.left → k ≤ q.left → q.left ≤ q.count → q.count ≤ length queue
    → place ≡ q.gone + state_words (take k (entry_words q queue))
    → seen_queue (taken_queue q k place) queue headers ≡ record { entries = drop k (seen_queue q queue headers).entries; left = q.left - k }
queue_taken q queue headers k place here most left fits e = go (eqb (q.left - k) 0) refl
  where
    go : (b : Bool) → eqb (q.left - k) 0 ≡ b
        → seen_queue (cond b emptied (shorter q k place)) queue headers ≡ record { entries = drop k (seen_queue q queue headers).entries; left = q.left - k }
    go true z =
        let a = eqb-true (q.left - k) 0 z in
        let b : q.left ≡ k = omega arith in
        let d : 0 ≡ q.left - k = omega arith in
        queue_last q emptied queue headers here left fits refl refl
        ∙ ap₂ {C = model.Queue} (λ (j l : ℕ). record { entries = drop j (seen_queue q queue headers).entries; left = l }) b d
    go false z = let a = eqb-false (q.left - k) 0 z in queue_take q (shorter q k place) queue headers k (omega (arith, a)) left fits refl refl e

-- more are left: their state packets are from `place` on
pub places_left : (q : Queue) (k place : ℕ) (queue : List ℕ) → q.left - k ≢ 0 → QueueFormed q queue
    → place ≡ q.gone + state_words (take k (entry_words q queue))
    → place + state_words (entry_words (shorter q k place) queue) ≡ q.states
places_left q k place queue ne f p = sym (formed_take q (shorter q k place) queue f k (omega (arith, ne)) refl refl refl p).places

-- the end after it

module _ (q : Queue) (s : Sender) (k clock : ℕ) (sent queue : List ℕ) (outgoing headers buf : Bytes) (p : Progress) (sent' : List ℕ) (buf' : Bytes) where
  abbrev sends : TakenFromStore
  sends = send_loop clock k (seen_queue q queue headers).entries (store_seen s sent outgoing)

  -- only the queue and the store differ
  took : (st : Stream) (t : Totals) (l : Lent) → Lends st l q s sent queue outgoing headers → st.clocks.drive.0 ≡ clock
      → PutInBuffer sends 0 buf p.at buf' (store_seen s sent' outgoing)
      → seen_queue (taken_queue q k p.place) queue headers ≡ record { entries = drop k (seen_queue q queue headers).entries; left = q.left - k }
      → Took k (seen st t l) (seen (taken_stream (taken_queue q k p.place) st) t (taken_lent sent' l)) buf p.at buf'
  unfolding seen seen_queue
  took st t l e d w c =
      record {
        bytes = w.bytes ∙ ap (λ (u : Taken). put buf 0 (joined u.datagrams)) (sym all);
        count = w.count ∙ none_before ∙ ap (λ (u : Taken). length (joined u.datagrams)) (sym all);
        end = ap₂ changed lefts marks ∙ ap (λ (u : Taken). taken_from k u.end) (sym all);
      }
    where
      none_before : 0 + length (joined sends.datagrams) ≡ length (joined sends.datagrams)
      none_before = omega arith

      changed : model.Queue → Slots model.Packet → model.End
      changed x o = model.with_queue x (with_outgoing o (seen st t l))

      same : send_loop (seen st t l).clocks.drive k (seen st t l).queue.entries (seen st t l).sender.outgoing ≡ sends
      same = rw (d, e.counts, e.sender, e.packets, e.words, e.store, e.heads) refl

      all : take_loop k (seen st t l).queue.entries (seen st t l) ≡ taken_with (drop k (seen st t l).queue.entries) sends (seen st t l)
      all = loop_sends k (seen st t l).queue.entries (seen st t l) ∙ ap (λ (r : TakenFromStore). taken_with (drop k (seen st t l).queue.entries) r (seen st t l)) same

      lefts : seen_queue (taken_queue q k p.place) l.queue l.headers ≡ record { entries = drop k (seen_queue st.queue l.queue l.headers).entries; left = st.queue.left - k }
      lefts = rw (e.counts, e.words, e.heads) c

      marks : seen_outgoing st.sender.remote_acked st.sender.seq sent' l.outgoing ≡ sends.outgoing
      marks = rw (e.sender, e.store) w.marks

pub ends : {q : Queue} {s : Sender} {k clock : ℕ} {sent queue : List ℕ} {outgoing headers buf : Bytes}
    {p : Progress} {sent' : List ℕ} {buf' : Bytes} {i : ℕ}
    → Going q s k clock sent queue outgoing headers buf sent' buf' p i → k ≤ i
    → Takes q s k clock sent queue outgoing headers buf p sent' buf'
unfolding seen_queue
ends {q} {s} {k} {clock} {sent} {queue} {outgoing} {headers} {buf} {p} {sent'} {buf'} {i} g over =
    let a = g.turns in
    let e : i ≡ k = omega arith in
    let f = g.ready.kept.formed in
    let c = f.count in
    let d = g.long in
    let m = g.ready.most in
    let h = g.short in
    let place = g.place ∙ ap (λ (j : ℕ). q.gone + state_words (take j (entry_words q queue))) e in
    record {
      place = place;
      room = omega arith;
      took =
          λ st t l le z.
          took q s k clock sent queue outgoing headers buf p sent' buf' st t l le z (rw (← e) g.written)
          (queue_taken q queue headers k p.place g.ready.some g.ready.entries f.left (omega arith) place);
    }
