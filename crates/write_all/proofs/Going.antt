-- The invariant of a write's loop on the records (`Going`): what went, joined to what the model does with the bytes left, is what it does
-- with all of them. It holds before the first piece, a sent piece keeps it, and where the loop stops the model's stops too. The bounds grow
-- with the number of packets, which is at most 32.
use Prim.Native.Nat.{ℕ, ◌+◌, ◌-◌, ◌*◌, ◌%◌, ◌≤◌, ◌<◌}
use native.Mathlib.Nat.{add-zero, zero-add}
use native.Mathlib.Omega.{arith}
use native.Mathlib.Decide.{ℕ_discrete}
use mathlib.Core.Path.{◌≡◌, refl, ap, ap₂, sym, ◌∙◌}
use mathlib.Core.List.{List}
use mathlib.Core.Bool.{true, false, ◌&&◌}
use lib.Dec.{leb, ltb}
use lib.ListN.{length, drop, length-drop}
use lib.Seq.{drop-drop}
use borrow.Author.Tests.{ltb-true}
use Rattle.model.specs.Lists.{Bytes}
use Rattle.model.specs.Slots.{ceiling}
use Rattle.model.specs.Stream.{End}
use Rattle.model.specs.Sending.{piece, goes, send_data_packet, Written}
use Rattle.model.proofs.Gate.{and_left, and_right}
use Rattle.model.proofs.Slots.{apart}
use Rattle.records.specs.declared.Sender.{Sender}
use Rattle.records.specs.declared.Queue.{Queue}
use Rattle.records.specs.declared.Totals.{Totals}
use Rattle.records.specs.declared.Stream.{Stream}
use Rattle.records.specs.Cut.{beyond, outgoing_slot}
use Rattle.records.specs.Seen.{Lent, seen, seen_sender, formed_queue}
use Rattle.records.specs.Beside.{Stay, sent_size}
use Rattle.write_piece.specs.declared.Outbox.{Outbox}
use Rattle.write_piece.specs.Piece.{may_go, Room, SendsPiece}
use Rattle.write_piece.specs.Piece.{with_outbox, with_outbox_lent}
use Rattle.write_all.specs.Write.{Ready, Writes}
use Rattle.write_all.proofs.WriteLoop.{write_all, joined, all_empty, all_stop, all_turn, Cuts, after_piece, piece_is, rest_is}
use Rattle.write_piece.proofs.SentPiece.{piece_seen, piece_formed, sent_length, queue_length, store_length, size_here, size_other, beyond_here, beyond_elsewhere}

-- what is seen of a stream with the numbers of an outbox
abbrev seen_of : Outbox → (sent queue outgoing : List ℕ) → Stream → Lent → End
seen_of o sent queue outgoing s l = seen (with_outbox o s) o.totals (with_outbox_lent sent queue outgoing l)

-- the test on the numbers is the model's
goes_is : (s : Sender) (words : List ℕ) (store p : Bytes) (k : ℕ) → length p ≡ k → goes p (seen_sender s words store) ≡ may_go s k
unfolding goes
goes_is s words store p k e = rw e refl

pub record Going (remote ack : ℕ) (bytes : Bytes) (o₀ : Outbox) (sent₀ queue₀ outgoing₀ : List ℕ) (o : Outbox) (sent queue outgoing : List ℕ) (at : ℕ) : Type 0 where
  pub within : at ≤ length bytes
  pub sent_long : length sent ≡ 64
  pub queue_long : length queue ≡ 128
  pub whole : length outgoing ≡ 44_800
  pub acked : o.sender.remote_acked ≤ o.sender.seq
  pub near : o.sender.seq ≤ o.sender.remote_acked + 32
  pub inflight : o.sender.inflight ≤ 44_800 + (o.sender.seq - o.sender.remote_acked) * 1_400
  pub rest : o.queue.left ≡ 0
  pub queued : o.queue.count ≤ 63 + (o.sender.seq - o.sender.remote_acked)
  pub packets : o.totals.inflight_packets ≤ o.sender.seq - o.sender.remote_acked
  pub payloads : o.totals.inflight_bytes ≤ 44_160 + (o.sender.seq - o.sender.remote_acked) * 1_380
  pub places : (o.queue.states ≡ o₀.queue.states) × (o.queue.gone ≡ o₀.queue.gone)
  pub formed : formed_queue o₀.queue queue₀ ≡ true → formed_queue o.queue queue ≡ true
  -- no byte of the slots of later numbers was touched
  pub untouched : (m : ℕ) → o.sender.seq ≤ m → m < o.sender.remote_acked + ceiling → (k : ℕ)
      → beyond outgoing_slot outgoing (m % ceiling) k ≡ beyond outgoing_slot outgoing₀ (m % ceiling) k
  pub beside : Stay outgoing_slot (sent_size sent) outgoing₀ outgoing
  pub same : (s : Stream) (l : Lent) → s.ids.remote ≡ remote → s.receiver.ack ≡ ack
      → joined at (write_all (drop at bytes) (seen_of o sent queue outgoing s l)) ≡ write_all bytes (seen_of o₀ sent₀ queue₀ outgoing₀ s l)

pub starts : (remote ack : ℕ) (bytes : Bytes) (o : Outbox) (sent queue outgoing : List ℕ) → Ready o (length outgoing) → length sent ≡ 64 → length queue ≡ 128
    → Going remote ack bytes o sent queue outgoing o sent queue outgoing 0
starts remote ack bytes o sent queue outgoing r ls lq =
    record {
      within = omega arith;
      sent_long = ls;
      queue_long = lq;
      whole = r.whole;
      acked = r.acked;
      near = r.near;
      inflight = omega (arith, r.inflight);
      rest = r.rest;
      queued = r.queued;
      packets = r.packets;
      payloads = omega (arith, r.bytes);
      places = (refl, refl);
      formed = λ f. f;
      untouched = λ m l u k. refl;
      beside = λ i l. refl;
      same = λ s l p q. rw zero-add;
    }

module _ {remote ack : ℕ} {bytes : Bytes} {o₀ : Outbox} {sent₀ queue₀ outgoing₀ : List ℕ} {o : Outbox} {sent queue outgoing : List ℕ} {at : ℕ}
    (g : Going remote ack bytes o₀ sent₀ queue₀ outgoing₀ o sent queue outgoing at) where
  -- the model does nothing with the rest
  over : ((s : Stream) (l : Lent) → write_all (drop at bytes) (seen_of o sent queue outgoing s l) ≡ record { count = 0; end = seen_of o sent queue outgoing s l })
      → (at < length bytes → goes (piece (drop at bytes)) (seen_sender o.sender sent outgoing) ≡ false)
      → Writes o₀ remote ack bytes sent₀ queue₀ outgoing₀ (record { outbox = o; count = at }) sent queue outgoing
  unfolding write_all
  over nothing stops =
      record {
        count = λ s l p q. ap (λ (w : Written). w.count) (all s l p q);
        end = λ s l p q. ap (λ (w : Written). w.end) (all s l p q);
        within = g.within;
        stops = stops;
        formed = g.formed;
        places = (g.rest, g.places.0, g.places.1);
        queued = omega (arith, g.queued, g.near);
        beside = g.beside;
      }
    where
      all : (s : Stream) (l : Lent) → s.ids.remote ≡ remote → s.receiver.ack ≡ ack
          → record { count = at; end = seen_of o sent queue outgoing s l } ≡ write_all bytes (seen_of o₀ sent₀ queue₀ outgoing₀ s l)
      all s l p q =
          ap (λ (n : ℕ). record { count = n; end = seen_of o sent queue outgoing s l }) (sym (add-zero at)) ∙ ap (joined at) (sym (nothing s l)) ∙ g.same s l p q

  -- no byte is left
  pub ends_empty : length (drop at bytes) ≡ 0 → Writes o₀ remote ack bytes sent₀ queue₀ outgoing₀ (record { outbox = o; count = at }) sent queue outgoing
  ends_empty h = over (λ s l. all_empty (drop at bytes) (seen_of o sent queue outgoing s l) (omega arith)) (λ m. absurd (omega (arith, length-drop at bytes)))

  module _ {p rest : Bytes} (cut : Cuts (drop at bytes) p rest) where
    tested : goes (piece (drop at bytes)) (seen_sender o.sender sent outgoing) ≡ may_go o.sender (length p)
    tested = goes_is o.sender sent outgoing (piece (drop at bytes)) (length p) (ap length (sym (piece_is cut)))

    -- the next piece does not go
    pub ends_full : may_go o.sender (length p) ≡ false → Writes o₀ remote ack bytes sent₀ queue₀ outgoing₀ (record { outbox = o; count = at }) sent queue outgoing
    unfolding seen
    ends_full shut = over (λ s l. all_stop (drop at bytes) (seen_of o sent queue outgoing s l) (tested ∙ shut)) (λ m. tested ∙ shut)

    -- it goes
    module _ (free : may_go o.sender (length p) ≡ true) where
      numbers : (ltb (o.sender.seq - o.sender.remote_acked) 32 && ltb o.sender.seq 4_294_967_295) ≡ true
      numbers = and_right (leb (o.sender.inflight + length p) o.sender.cwnd) (ltb (o.sender.seq - o.sender.remote_acked) 32 && ltb o.sender.seq 4_294_967_295) free

      few : o.sender.seq - o.sender.remote_acked < 32
      few = ltb-true _ _ (and_left (ltb (o.sender.seq - o.sender.remote_acked) 32) (ltb o.sender.seq 4_294_967_295) numbers)

      below : o.sender.seq < 4_294_967_295
      below = ltb-true _ _ (and_right (ltb (o.sender.seq - o.sender.remote_acked) 32) (ltb o.sender.seq 4_294_967_295) numbers)

      short : length p ≤ 1_380
      short = omega (arith, cut.size)

      pub next_rest : rest ≡ drop (at + length p) bytes
      next_rest = sym (after_piece cut) ∙ drop-drop (length p) at bytes

      pub roomy : Room o (length outgoing) (length p)
      roomy =
          record {
            whole = g.whole;
            short = short;
            seq = below;
            inflight = omega (arith, few, g.inflight);
            queue = omega (arith, few, g.queued);
            packets = omega (arith, few, g.packets);
            bytes = omega (arith, few, g.payloads);
          }

      module _ {r : Outbox} {sent' queue' outgoing' : List ℕ}
          (x : SendsPiece o remote ack p sent queue outgoing r sent' queue' outgoing') where
        turn : (s : Stream) (l : Lent) → s.ids.remote ≡ remote → s.receiver.ack ≡ ack
            → joined (at + length p) (write_all (drop (at + length p) bytes) (seen_of r sent' queue' outgoing' s l)) ≡ joined at (write_all (drop at bytes) (seen_of o sent queue outgoing s l))
        unfolding seen
        turn s l u v =
            let e = seen_of o sent queue outgoing s l in
            ap₂ (λ (b : Bytes) (y : End). joined (at + length p) (write_all b y)) (sym next_rest ∙ rest_is cut)
            (piece_seen x roomy g.sent_long g.queue_long g.acked g.rest s l u v ∙ ap (λ (b : Bytes). send_data_packet b e) (piece_is cut))
            ∙ all_turn (drop at bytes) e at (length p) cut.some (tested ∙ free) (ap length (sym (piece_is cut)))

        -- the packet's slot was untouched so far; the other slots do not change
        stays : Stay outgoing_slot (sent_size sent') outgoing₀ outgoing'
        stays i l = at_slot (ℕ_discrete i (o.sender.seq % ceiling))
          where
            here : sent_size sent' (o.sender.seq % ceiling) ≡ length p + 20
            here = size_here x roomy g.sent_long g.queue_long g.acked g.rest

            at_slot : Dec (i ≡ o.sender.seq % ceiling) → beyond outgoing_slot outgoing' i (sent_size sent' i) ≡ beyond outgoing_slot outgoing₀ i (sent_size sent' i)
            at_slot (yes e) =
                rw (e, here)
                (beyond_here x roomy g.sent_long g.queue_long g.acked g.rest
                ∙ g.untouched o.sender.seq (omega arith) (omega (arith, few)) (length p + 20))
            at_slot (no ne) =
                rw (size_other x roomy g.sent_long g.queue_long g.acked g.rest i l ne)
                (beyond_elsewhere x roomy g.sent_long g.queue_long g.acked g.rest i (sent_size sent i) ne ∙ g.beside i l)

        pub again : Going remote ack bytes o₀ sent₀ queue₀ outgoing₀ r sent' queue' outgoing' (at + length p)
        again =
            let seq = ap (λ (s : Sender). s.seq) x.numbers in
            let acked = ap (λ (s : Sender). s.remote_acked) x.numbers in
            let inflight = ap (λ (s : Sender). s.inflight) x.numbers in
            let count = ap (λ (q : Queue). q.count) x.places in
            let packets = ap (λ (t : Totals). t.inflight_packets) x.totals in
            let payloads = ap (λ (t : Totals). t.inflight_bytes) x.totals in
            let part = short in
            let near = few in
            let left = length-drop at bytes in
            record {
              within = omega arith;
              sent_long = sent_length x roomy g.sent_long g.queue_long g.acked g.rest;
              queue_long = queue_length x roomy g.sent_long g.queue_long g.acked g.rest;
              whole = store_length x roomy g.sent_long g.queue_long g.acked g.rest;
              acked = omega arith;
              near = omega arith;
              inflight = omega arith;
              rest = ap (λ (q : Queue). q.left) x.places ∙ g.rest;
              queued = omega arith;
              packets = omega arith;
              payloads = omega arith;
              places = (ap (λ (q : Queue). q.states) x.places ∙ g.places.0, ap (λ (q : Queue). q.gone) x.places ∙ g.places.1);
              formed = λ f. piece_formed x roomy g.sent_long g.queue_long g.acked g.rest (g.formed f);
              untouched = λ m l u j.
                  beyond_elsewhere x roomy g.sent_long g.queue_long g.acked g.rest (m % ceiling) j
                  (apart o.sender.remote_acked m o.sender.seq (omega (arith, g.acked)) (omega arith) g.acked (omega arith) (λ e. omega arith))
                  ∙ g.untouched m (omega arith) (omega arith) j;
              beside = stays;
              same = λ s l p q. turn s l p q ∙ g.same s l p q;
            }
