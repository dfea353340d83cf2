-- The pass of a due timer over the records. Invariant (`Going`): the model's loop from number n on gives the result of the whole loop. Each
-- turn is one turn of the model: a missing or waiting packet is skipped, one with no transmits left ends the pass, others are marked lost.
use Prim.Native.Nat.{ℕ, suc, ◌+◌, ◌-◌, ◌%◌, ◌^◌, ◌≤◌, ◌<◌}
use native.Mathlib.Numerals.{add-one}
use native.Mathlib.Omega.{arith}
use mathlib.Core.Path.{◌≡◌, refl, ap, ap₂, sym, ◌∙◌}
use mathlib.Core.List.{List}
use mathlib.Core.Option.{Option, none, some}
use mathlib.Core.Bool.{Bool, true, false, cond, ◌&&◌, not, true≢false}
use lib.Dec.{ltb}
use borrow.Author.Tests.{lt-ltb, le-ltb}
use lib.ListN.{length}
use Rattle.std.specs.Prelude.{Some}
use Rattle.model.specs.Lists.{Bytes, on}
use Rattle.model.specs.Slots.{Slots, ceiling}
use Rattle.model.specs.Stream as model
use Rattle.model.specs.Driving as drive
use Rattle.model.specs.Driving.{lost_marks, lost, time_out_packet, time_out_number, time_out_loop}
use Rattle.records_words.specs.declared.Sent.{Sent}
use Rattle.records.specs.declared.Sender.{Sender}
use Rattle.records_words.specs.Words.{sent_in, is_stored, found_sent}
use Rattle.records.specs.Cut.{outgoing_slot}
use Rattle.records.specs.Seen.{marks_of, packet_of, seen, seen_sender, with_sent}
use Rattle.records_words.proofs.WordLaws.{stored_number, sent_found}
use Rattle.records.proofs.Cut.{cut_length}
use Rattle.records.proofs.SeenOutgoing.{get_outgoing}
use Rattle.drive_lost.specs.Packets.{AllSentBounds, with_inflight}
use Rattle.drive_lost.specs.Timeouts.{lost_packet, TimesOutPackets}
use Rattle.drive_lost.proofs.Remark.{remark_length, remark_seen, stored_again}

-- a turn of the model's loop

turned : (k n : ℕ) (e e' : model.End) → time_out_number n e ≡ record { failed = false; end = e' } → time_out_loop (suc k) n e ≡ time_out_loop k (suc n) e'
unfolding time_out_loop
turned k n e e' h = ap (λ (t : drive.Passed). cond t.failed t (time_out_loop k (suc n) t.end)) h

stopped : (k n : ℕ) (e : model.End) → time_out_number n e ≡ record { failed = true; end = e } → time_out_loop (suc k) n e ≡ record { failed = true; end = e }
unfolding time_out_loop
stopped k n e h = ap (λ (t : drive.Passed). cond t.failed t (time_out_loop k (suc n) t.end)) h

-- one number, on what is seen

-- an end with what is seen of the sender
abbrev seen_of : Sender → List ℕ → Bytes → model.End → model.End
seen_of s sent outgoing e = model.with_sender (seen_sender s sent outgoing) e

-- the sender with another inflight and another store
abbrev numbers_of : Sender → ℕ → Slots model.Packet → model.Sender
numbers_of s inflight outgoing =
    record { seq = s.seq; remote_acked = s.remote_acked; largest_ack = s.largest_ack; inflight = inflight; cwnd = s.cwnd; outgoing = outgoing }

module _ (s : Sender) (sent : List ℕ) (n : ℕ) (low : s.remote_acked ≤ n) (high : n < s.seq) (outgoing : Bytes) (e : model.End) where
  abbrev here : Sent
  here = sent_in sent (n % ceiling)

  abbrev end : model.End
  end = seen_of s sent outgoing e

  abbrev at : Bool → drive.Passed
  at b = on (cond b (some (packet_of outgoing (n % ceiling) here)) none) (record { failed = false; end = end }) (λ p. time_out_packet n p end)

  number_is : time_out_number n end ≡ at (is_stored here n)
  number_is =
      ap (λ (o : Option model.Packet). on o (record { failed = false; end = end }) (λ p. time_out_packet n p end))
      (get_outgoing s.remote_acked s.seq sent outgoing n low high)

  -- it is missing, or waiting
  passed : (is_stored here n && not here.waiting) ≡ false → time_out_number n end ≡ record { failed = false; end = end }
  unfolding time_out_packet
  passed h = number_is ∙ go (is_stored here n) here.waiting refl h
    where
      go : (a b : Bool) → here.waiting ≡ b → (a && not b) ≡ false → at a ≡ record { failed = false; end = end }
      go false b p z = refl
      go true true p z = ap (λ (w : Bool). cond w (record { failed = false; end = end }) (cond (ltb 5 here.transmits) (record { failed = true; end = end }) (record { failed = false; end = lost n (packet_of outgoing (n % ceiling) here) end }))) p
      go true false p z = absurd (true≢false z)

  module _ (there : is_stored here n ≡ true) (sent_on : here.waiting ≡ false) where
    choice : (b : Bool) → ltb 5 here.transmits ≡ b
        → time_out_number n end ≡ cond b (record { failed = true; end = end }) (record { failed = false; end = lost n (packet_of outgoing (n % ceiling) here) end })
    unfolding time_out_packet
    choice b h =
        number_is ∙ ap at there
        ∙ ap₂ (λ (w z : Bool). cond w (record { failed = false; end = end }) (cond z (record { failed = true; end = end }) (record { failed = false; end = lost n (packet_of outgoing (n % ceiling) here) end }))) sent_on h

    -- it has no transmits left
    fails : 5 < here.transmits → time_out_number n end ≡ record { failed = true; end = end }
    fails h = choice true (lt-ltb 5 here.transmits h)

    leaves : here.transmits ≤ 5 → time_out_number n end ≡ record { failed = false; end = lost n (packet_of outgoing (n % ceiling) here) end }
    leaves h = choice false (le-ltb 5 here.transmits h)

-- the loop

pub record Going (s : Sender) (sent₀ sent : List ℕ) (inflight n : ℕ) : Type 0 where
  pub long : length sent ≡ 64
  pub low : s.remote_acked ≤ n
  pub stored : AllSentBounds s sent
  pub same : (outgoing : Bytes) (e : model.End)
      → time_out_loop (s.seq - n) n (seen_of (with_inflight inflight s) sent outgoing e)
      ≡ time_out_loop (s.seq - s.remote_acked) s.remote_acked (seen_of s sent₀ outgoing e)

module _ {s : Sender} {sent₀ sent : List ℕ} {inflight n : ℕ} (g : Going s sent₀ sent inflight n) where
  -- the model's loop does nothing more
  over : (failed : Bool)
      → ((outgoing : Bytes) (e : model.End)
      → record { failed = failed; end = seen_of (with_inflight inflight s) sent outgoing e } ≡ time_out_loop (s.seq - n) n (seen_of (with_inflight inflight s) sent outgoing e))
      → TimesOutPackets s sent₀ (record { sender = with_inflight inflight s; failed = failed }) sent
  unfolding seen
  over failed h =
      record {
        end = λ st t l. h l.outgoing (seen st t l) ∙ g.same l.outgoing (seen st t l);
        numbers = refl;
        stored = g.stored;
      }

  pub ends : s.seq ≤ n → TimesOutPackets s sent₀ (record { sender = with_inflight inflight s; failed = false }) sent
  unfolding time_out_loop
  ends h =
      let none : s.seq - n ≡ 0 = omega arith in
      over false (λ outgoing e. rw none refl)

  module _ (more : n < s.seq) where
    abbrev packet : Sent
    packet = sent_in sent (n % ceiling)

    -- the model's turn for number n
    one : (e e' : model.End) → time_out_number n e ≡ record { failed = false; end = e' } → time_out_loop (s.seq - (n + 1)) (n + 1) e' ≡ time_out_loop (s.seq - n) n e
    one e e' h =
        let k : s.seq - n ≡ suc (s.seq - (n + 1)) = omega arith in
        ap (λ (m : ℕ). time_out_loop (s.seq - (n + 1)) m e') (add-one n) ∙ sym (turned (s.seq - (n + 1)) n e e' h) ∙ ap (λ (m : ℕ). time_out_loop m n e) (sym k)

    pub passes : (is_stored packet n && not packet.waiting) ≡ false → Going s sent₀ sent inflight (n + 1)
    passes h =
        record {
          long = g.long;
          low = let l = g.low in omega arith;
          stored = g.stored;
          same =
              λ outgoing e.
              one (seen_of (with_inflight inflight s) sent outgoing e) (seen_of (with_inflight inflight s) sent outgoing e)
              (passed (with_inflight inflight s) sent n g.low more outgoing e h)
              ∙ g.same outgoing e;
        }

    module _ (there : is_stored packet n ≡ true) (sent_on : packet.waiting ≡ false) where
      pub ends_failed : 5 < packet.transmits → TimesOutPackets s sent₀ (record { sender = with_inflight inflight s; failed = true }) sent
      ends_failed many =
          let k : s.seq - n ≡ suc (s.seq - (n + 1)) = omega arith in
          over true
          (λ outgoing e.
          let x = seen_of (with_inflight inflight s) sent outgoing e in
          sym (stopped (s.seq - (n + 1)) n x (fails (with_inflight inflight s) sent n g.low more outgoing e there sent_on many)) ∙ ap (λ (m : ℕ). time_out_loop m n x) (sym k))

      module _ (few : packet.transmits ≤ 5) (fits : n < 2 ^ 32) where
        -- the packet's marks, and what leaves inflight
        lost_seen : (outgoing : Bytes) (e : model.End)
            → seen_of (with_inflight (inflight - packet.length) s) (with_sent sent n (lost_packet packet)) outgoing e
            ≡ lost n (packet_of outgoing (n % ceiling) packet) (seen_of (with_inflight inflight s) sent outgoing e)
        lost_seen outgoing e =
            ap₂ (λ (i : ℕ) (o : Slots model.Packet). model.with_sender (numbers_of s i o) e)
            (ap (λ (k : ℕ). inflight - k) (sym (cut_length outgoing_slot outgoing (n % ceiling) packet.length)))
            (remark_seen s sent g.long g.stored n g.low more there fits true (packet.transmits + 1) (omega arith) outgoing lost_marks
            (ap (λ (k : ℕ). record { waiting = true; transmits = k; sent = (marks_of packet).sent }) (add-one packet.transmits)))

        pub leaves_inflight : Going s sent₀ (with_sent sent n (lost_packet packet)) (inflight - packet.length) (n + 1)
        leaves_inflight =
            record {
              long = remark_length sent g.long n (lost_packet packet);
              low = let l = g.low in omega arith;
              stored = stored_again s sent g.long g.stored n g.low more there fits true (packet.transmits + 1) (omega arith);
              same =
                  λ outgoing e.
                  one (seen_of (with_inflight inflight s) sent outgoing e) (seen_of (with_inflight (inflight - packet.length) s) (with_sent sent n (lost_packet packet)) outgoing e)
                  (leaves (with_inflight inflight s) sent n g.low more outgoing e there sent_on few
                  ∙ ap (λ (x : model.End). record { failed = false; end = x }) (sym (lost_seen outgoing e)))
                  ∙ g.same outgoing e;
            }

-- the same for the code's values: p is the packet found at n, q the one written
pub leaves_again : {s : Sender} {sent₀ sent : List ℕ} {inflight n : ℕ} → Going s sent₀ sent inflight n → n < s.seq → n < 2 ^ 32 → (p q : Sent)
    → found_sent sent n ≡ Some p → p.waiting ≡ false → p.transmits ≤ 5 → q ≡ lost_packet p
    → (sent' : List ℕ) → sent' ≡ with_sent sent q.number q → (inflight' : ℕ) → inflight' ≡ inflight - p.length → Going s sent₀ sent' inflight' (n + 1)
leaves_again {sent = sent} {n = n} g more fits p q found sent_on few made sent' words inflight' less =
    let is = sent_found sent n p found in
    rw (words ∙ ap (λ (y : Sent). with_sent sent y.number y) made ∙ ap (λ (k : ℕ). with_sent sent k (lost_packet p)) (stored_number p n is.1), less, is.0)
    (leaves_inflight g more (rw is.0 at is.1) (rw is.0 at sent_on) (rw is.0 at few) fits)
