-- The loop over the waiting packets of the records. Invariant (`Going`): the model's loop from number n on gives the result of the whole
-- loop. Each turn is one turn of the model: a packet that is missing or not waiting is skipped, one that does not fit ends the loop, any
-- other is marked and queued. The queue has a place for each number left.
use Prim.Native.Nat.{ℕ, suc, ◌+◌, ◌-◌, ◌%◌, ◌^◌, ◌≤◌, ◌<◌}
use native.Mathlib.Numerals.{add-one}
use native.Mathlib.Omega.{arith}
use mathlib.Core.Path.{◌≡◌, refl, ap, ap₂, sym, ◌∙◌}
use mathlib.Core.List.{List}
use mathlib.Core.Option.{Option, none, some}
use mathlib.Core.Bool.{Bool, true, false, cond, ◌&&◌, true≢false}
use lib.Dec.{leb}
use lib.ListN.{length, set, length-set}
use Rattle.std.specs.Prelude.{Some}
use Rattle.model.specs.Lists.{Bytes, on}
use Rattle.model.specs.Slots.{Slots, ceiling}
use Rattle.model.specs.Stream as model
use Rattle.model.specs.Sending.{pushed}
use Rattle.model.specs.Driving.{flushed_marks, flushed, fits, flush_loop, flush}
use Rattle.records_words.specs.declared.Sent.{Sent}
use Rattle.records.specs.declared.Sender.{Sender}
use Rattle.records.specs.declared.Queue.{Queue}
use Rattle.records_words.specs.Words.{sent_in, is_stored, found_sent, entry_of, entry_word}
use Rattle.records.specs.Cut.{outgoing_slot}
use Rattle.records.specs.Seen.{packet_of, seen, seen_sender, seen_queue, QueueFormed, with_sent}
use Rattle.records_words.proofs.WordLaws.{stored_number, sent_found, entry_back}
use Rattle.records.proofs.Cut.{cut_length}
use Rattle.records.proofs.SeenOutgoing.{get_outgoing}
use Rattle.records.proofs.SeenQueue.{queue_packet}
use Rattle.records.proofs.FormedQueue.{formed_packet}
use Rattle.drive_lost.specs.Packets.{AllSentBounds, with_inflight}
use Rattle.drive_flush.specs.Flushing.{flushed_packet, flushed_entry, with_count, flushed_of, FlushesPacket, Roomy, Flushes}
use Rattle.drive_lost.proofs.Remark.{transmits_fit, remark_length, remark_seen, stored_again}

-- an end with what is seen of the sender and the queue
abbrev seen_of : Sender → Queue → (sent queue : List ℕ) (outgoing headers : Bytes) → model.End → model.End
seen_of s q sent queue outgoing headers e = model.with_queue (seen_queue q queue headers) (model.with_sender (seen_sender s sent outgoing) e)

-- the sender with another inflight and another store
abbrev numbers_of : Sender → ℕ → Slots model.Packet → model.Sender
numbers_of s inflight outgoing =
    record { seq = s.seq; remote_acked = s.remote_acked; largest_ack = s.largest_ack; inflight = inflight; cwnd = s.cwnd; outgoing = outgoing }

-- one turn of the model's loop on what is seen

module _ (s : Sender) (q : Queue) (sent queue : List ℕ) (n : ℕ) (low : s.remote_acked ≤ n) (high : n < s.seq) (outgoing headers : Bytes) (e : model.End)
    (k : ℕ) where
  abbrev here : Sent
  here = sent_in sent (n % ceiling)

  abbrev shown : model.Packet
  shown = packet_of outgoing (n % ceiling) here

  abbrev end : model.End
  end = seen_of s q sent queue outgoing headers e

  abbrev next : model.End → model.End
  next x = flush_loop k (suc n) x

  abbrev at : Option model.Packet → model.End
  at o = on o (next end) (λ p. cond p.marks.waiting (cond (fits p end.sender) (next (flushed n p end)) end) (next end))

  turn_is : flush_loop (suc k) n end ≡ at (cond (is_stored here n) (some shown) none)
  unfolding flush_loop
  turn_is = ap at (get_outgoing s.remote_acked s.seq sent outgoing n low high)

  -- it is missing, or not waiting
  passed : (is_stored here n && here.waiting) ≡ false → flush_loop (suc k) n end ≡ next end
  passed h = turn_is ∙ go (is_stored here n) here.waiting refl h
    where
      go : (a b : Bool) → here.waiting ≡ b → (a && b) ≡ false → at (cond a (some shown) none) ≡ next end
      go false b p z = refl
      go true false p z = ap (λ (w : Bool). cond w (cond (fits shown end.sender) (next (flushed n shown end)) end) (next end)) p
      go true true p z = absurd (true≢false z)

  fits_is : fits shown end.sender ≡ leb (s.inflight + here.length) s.cwnd
  unfolding fits
  fits_is = ap (λ (m : ℕ). leb (s.inflight + m) s.cwnd) (cut_length outgoing_slot outgoing (n % ceiling) here.length)

  -- it is waiting, and fits or does not
  waited : is_stored here n ≡ true → here.waiting ≡ true → (b : Bool) → leb (s.inflight + here.length) s.cwnd ≡ b
      → flush_loop (suc k) n end ≡ cond b (next (flushed n shown end)) end
  waited there waiting b l =
      turn_is ∙ ap (λ (a : Bool). at (cond a (some shown) none)) there
      ∙ ap₂ (λ (w z : Bool). cond w (cond z (next (flushed n shown end)) end) (next end)) waiting (fits_is ∙ l)

-- the loop

pub record Going (s : Sender) (q : Queue) (sent₀ queue₀ sent queue : List ℕ) (inflight count n : ℕ) : Type 0 where
  pub sent_long : length sent ≡ 64
  pub queue_long : length queue ≡ 128
  pub low : s.remote_acked ≤ n
  pub stored : AllSentBounds s sent
  pub rest : q.left ≡ 0
  pub room : count + (s.seq - n) ≤ 128
  pub formed : QueueFormed q queue₀ → QueueFormed (with_count count q) queue
  pub same : (outgoing headers : Bytes) (e : model.End)
      → flush_loop (s.seq - n) n (seen_of (with_inflight inflight s) (with_count count q) sent queue outgoing headers e)
      ≡ flush (seen_of s q sent₀ queue₀ outgoing headers e)

pub starts : (s : Sender) (q : Queue) (sent queue : List ℕ) → Roomy s q sent → length sent ≡ 64 → length queue ≡ 128
    → Going s q sent queue sent queue s.inflight q.count s.remote_acked
unfolding flush
starts s q sent queue r ls lq =
    record {
      sent_long = ls;
      queue_long = lq;
      low = omega arith;
      stored = r.stored;
      rest = r.rest;
      room = r.room;
      formed = λ f. f;
      same = λ outgoing headers e. refl;
    }

module _ {s : Sender} {q : Queue} {sent₀ queue₀ sent queue : List ℕ} {inflight count n : ℕ} (g : Going s q sent₀ queue₀ sent queue inflight count n) where
  abbrev seen_now : Bytes → Bytes → model.End → model.End
  seen_now outgoing headers e = seen_of (with_inflight inflight s) (with_count count q) sent queue outgoing headers e

  -- the model's loop does nothing more
  over : ((outgoing headers : Bytes) (e : model.End) → seen_now outgoing headers e ≡ flush_loop (s.seq - n) n (seen_now outgoing headers e))
      → Flushes s q sent₀ queue₀ (flushed_of s q inflight count) sent queue
  unfolding seen
  over h =
      record {
        end = λ st t l. h l.outgoing l.headers (seen st t l) ∙ g.same l.outgoing l.headers (seen st t l);
        numbers = refl;
        rest = g.rest;
        formed = g.formed;
      }

  pub ends : s.seq ≤ n → Flushes s q sent₀ queue₀ (flushed_of s q inflight count) sent queue
  unfolding flush_loop
  ends h =
      let none : s.seq - n ≡ 0 = omega arith in
      over (λ outgoing headers e. rw none refl)

  module _ (more : n < s.seq) where
    abbrev packet : Sent
    packet = sent_in sent (n % ceiling)

    left_is : s.seq - n ≡ suc (s.seq - (n + 1))
    left_is = omega arith

    -- a place for this number and for each of the others
    pub place : count < 128
    place = let r = g.room in omega arith

    -- the model's turn for number n
    one : (e e' : model.End) → flush_loop (suc (s.seq - (n + 1))) n e ≡ flush_loop (s.seq - (n + 1)) (suc n) e'
        → flush_loop (s.seq - (n + 1)) (n + 1) e' ≡ flush_loop (s.seq - n) n e
    one e e' h = ap (λ (m : ℕ). flush_loop (s.seq - (n + 1)) m e') (add-one n) ∙ sym h ∙ ap (λ (m : ℕ). flush_loop m n e) (sym left_is)

    pub passes : (is_stored packet n && packet.waiting) ≡ false → Going s q sent₀ queue₀ sent queue inflight count (n + 1)
    passes h =
        record {
          sent_long = g.sent_long;
          queue_long = g.queue_long;
          low = let l = g.low in omega arith;
          stored = g.stored;
          rest = g.rest;
          room = let r = g.room in omega arith;
          formed = g.formed;
          same =
              λ outgoing headers e.
              one (seen_now outgoing headers e) (seen_now outgoing headers e)
              (passed (with_inflight inflight s) (with_count count q) sent queue n g.low more outgoing headers e (s.seq - (n + 1)) h)
              ∙ g.same outgoing headers e;
        }

    module _ (there : is_stored packet n ≡ true) (waiting : packet.waiting ≡ true) where
      pub ends_full : leb (inflight + packet.length) s.cwnd ≡ false → Flushes s q sent₀ queue₀ (flushed_of s q inflight count) sent queue
      ends_full long =
          over
          (λ outgoing headers e.
          sym (waited (with_inflight inflight s) (with_count count q) sent queue n g.low more outgoing headers e (s.seq - (n + 1)) there waiting false long)
          ∙ ap (λ (m : ℕ). flush_loop m n (seen_now outgoing headers e)) (sym left_is))

      -- the words after it
      abbrev sent_after : List ℕ
      sent_after = with_sent sent n (flushed_packet packet)

      abbrev queue_after : List ℕ
      queue_after = set queue count (entry_word (flushed_entry packet))

      module _ (enough : leb (inflight + packet.length) s.cwnd ≡ true) (fit : n < 2 ^ 32) where
        entry_said : entry_of (entry_word (flushed_entry packet)) ≡ flushed_entry packet
        entry_said =
            let l = (g.stored n g.low more there).short in
            entry_back _ (omega arith) (rw (stored_number packet n there) fit)

        roomy : count < length queue
        roomy = let r = place in let l = g.queue_long in omega arith

        -- what is seen of the records after it is the model's
        flushed_seen : (outgoing headers : Bytes) (e : model.End)
            → seen_of (with_inflight (inflight + packet.length) s) (with_count (count + 1) q) sent_after queue_after outgoing headers e
            ≡ flushed n (packet_of outgoing (n % ceiling) packet) (seen_now outgoing headers e)
        flushed_seen outgoing headers e =
            let size = sym (cut_length outgoing_slot outgoing (n % ceiling) packet.length) in
            ap₂ (λ (a : model.Sender) (b : model.Queue). model.with_queue b (model.with_sender a e))
            (ap₂ (numbers_of s) (ap (λ (k : ℕ). inflight + k) size)
            (remark_seen s sent g.sent_long g.stored n g.low more there fit false packet.transmits (transmits_fit _ _) outgoing flushed_marks refl))
            (queue_packet (with_count count q) (with_count (count + 1) q) queue roomy g.rest g.rest refl refl _ entry_said headers
            ∙ ap₂ (λ (m k : ℕ). pushed (model.packet m k) (seen_queue (with_count count q) queue headers)) (stored_number packet n there) size)

        goes : Going s q sent₀ queue₀ sent_after queue_after (inflight + packet.length) (count + 1) (n + 1)
        goes =
            record {
              sent_long = remark_length sent g.sent_long n (flushed_packet packet);
              queue_long = simp length-set g.queue_long;
              low = let l = g.low in omega arith;
              stored = stored_again s sent g.sent_long g.stored n g.low more there fit false packet.transmits (transmits_fit _ _);
              rest = g.rest;
              room = let r = g.room in omega arith;
              formed =
                  λ w.
                  formed_packet (with_count count q) (with_count (count + 1) q) queue (g.formed w) roomy place g.rest g.rest refl refl _ entry_said refl;
              same =
                  λ outgoing headers e.
                  one (seen_now outgoing headers e)
                  (seen_of (with_inflight (inflight + packet.length) s) (with_count (count + 1) q) sent_after queue_after outgoing headers e)
                  (waited (with_inflight inflight s) (with_count count q) sent queue n g.low more outgoing headers e (s.seq - (n + 1)) there waiting true enough
                  ∙ ap (flush_loop (s.seq - (n + 1)) (suc n)) (sym (flushed_seen outgoing headers e)))
                  ∙ g.same outgoing headers e;
            }

-- the same for the code's values: p is the packet found at n
pub goes_again : {s : Sender} {q : Queue} {sent₀ queue₀ sent queue : List ℕ} {inflight count n : ℕ} → Going s q sent₀ queue₀ sent queue inflight count n → n < s.seq → n < 2 ^ 32
    → (p : Sent) → found_sent sent n ≡ Some p → p.waiting ≡ true → leb (inflight + p.length) s.cwnd ≡ true
    → (sent' queue' : List ℕ) → FlushesPacket p count sent queue sent' queue' → Going s q sent₀ queue₀ sent' queue' (inflight + p.length) (count + 1) (n + 1)
goes_again {sent = sent} {n = n} g more fit p found waiting enough sent' queue' x =
    let is = sent_found sent n p found in
    rw (x.sent_words ∙ ap (λ (k : ℕ). with_sent sent k (flushed_packet p)) (stored_number p n is.1), x.queue_words, is.0)
    (goes g more (rw is.0 at is.1) (rw is.0 at waiting) (rw is.0 at enough) fit)
