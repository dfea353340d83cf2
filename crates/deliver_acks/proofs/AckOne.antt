-- Acking one number. If its packet is stored, clearing its word removes it from the store that is seen, and the numbers are the model's;
-- if not, nothing changes on either side.
use Prim.Native.Nat.{ℕ, ◌-◌, ◌%◌}
use mathlib.Core.Path.{◌≡◌, refl, ap, ap₂, sym, ◌∙◌}
use mathlib.Core.List.{List}
use mathlib.Core.Option.{Option, none, some}
use mathlib.Core.Bool.{Bool, true, false, cond}
use lib.Dec.{eqb}
use lib.ListN.{length, set}
use Rattle.std.specs.Prelude as rust
use Rattle.std.specs.Prelude.{None, Some}
use Rattle.std.specs.Option.{option_map_or}
use Rattle.rtt.specs.declared.nanos.Nanos.{Nanos}
use Rattle.rtt.specs.declared.estimate.Rtt.{Rtt}
use Rattle.rtt.specs.Estimate.{InRange, sampled}
use Rattle.model.specs.Lists.{Bytes, on}
use Rattle.model.specs.Slots.{Slots, ceiling, get}
use Rattle.model.specs.Stream as model
use Rattle.model.specs.Receiving.{left, measured, count_acked, handle_remote_ack, ack_number}
use Rattle.records_words.specs.declared.Sent.{Sent}
use Rattle.records.specs.declared.Sender.{Sender}
use Rattle.records.specs.declared.Stream.{Stream}
use Rattle.records_words.specs.Words.{sent_in, is_stored, found_sent}
use Rattle.records.specs.Cut.{outgoing_slot}
use Rattle.records.specs.Seen.{Lent, seen, seen_time, packet_of, seen_sender, seen_totals, seen_outgoing}
use Rattle.records.specs.Setters.{with_words}
use Rattle.records_words.proofs.WordLaws.{sent_found, sent_not_found}
use Rattle.records.proofs.Cut.{cut_length}
use Rattle.records.proofs.SeenOutgoing.{get_outgoing, drop_outgoing}
use Rattle.deliver_acks.specs.declared.Acks.{Acks}
use Rattle.deliver_acks.specs.Acked.{left_sender, measured_rtt, acked_totals, InWindow, Measures, with_acks, SameNumbers, AcksOne}

-- ends with equal senders, timings and totals are equal
groups : (e : model.End) {a a' : model.Sender} {b b' : model.Timing} {c c' : model.Totals} → a ≡ a' → b ≡ b' → c ≡ c'
    → model.with_totals c (model.with_timing b (model.with_sender a e)) ≡ model.with_totals c' (model.with_timing b' (model.with_sender a' e))
groups e p q r = cc

-- the numbers after packet p is acked
abbrev pub acked_by : ℕ → Sent → Acks → Acks
acked_by clock p a = record { sender = left_sender a.sender p; rtt = measured_rtt a.rtt p clock; totals = acked_totals a.totals p }

pub same_left : (s : Sender) (p : Sent) → SameNumbers s (left_sender s p)
same_left s p = record { seq = refl; acked = refl; largest = refl; cwnd = refl }

pub same_refl : (s : Sender) → SameNumbers s s
same_refl s = record { seq = refl; acked = refl; largest = refl; cwnd = refl }

-- the sample
module _ (store : Bytes) (i clock : ℕ) (p : Sent) (t : model.Timing) where
  timing-seen : record { rtt = measured_rtt t.rtt p clock; deadline = t.deadline } ≡ measured clock (packet_of store i p) t
  unfolding measured
  timing-seen = go (eqb p.transmits 1) p.sent_at
    where
      go : (b : Bool) (o : rust.Option Nanos)
          → record { rtt = cond b (option_map_or (λ (at : Nanos). sampled t.rtt (clock - at.0)) o t.rtt) t.rtt; deadline = t.deadline }
          ≡ cond b (on (seen_time o) t (λ at. record { rtt = sampled t.rtt (clock - at); deadline = t.deadline })) t
      go true None = refl
      go true (Some at) = refl
      go false o = refl

module _ (clock n : ℕ) (a : Acks) (sent : List ℕ) (long : length sent ≡ 64) (w : InWindow a.sender n) where
  abbrev slot : Sent
  slot = sent_in sent (n % ceiling)

  -- it is stored
  module _ (stored : is_stored slot n ≡ true) (s : Stream) (l : Lent) where
    abbrev before : model.End
    before = seen (with_acks a s) a.totals (with_words sent l)

    abbrev found : model.Packet
    found = packet_of l.outgoing (n % ceiling) slot

    size : length found.bytes ≡ slot.length
    size = cut_length outgoing_slot l.outgoing (n % ceiling) slot.length

    got : get (seen_outgoing a.sender.remote_acked a.sender.seq sent l.outgoing) n ≡ some found
    got = get_outgoing a.sender.remote_acked a.sender.seq sent l.outgoing n w.low w.high ∙ rw stored refl

    sender_seen : seen_sender (left_sender a.sender slot) (set sent (n % ceiling) 0) l.outgoing ≡ left n found (seen_sender a.sender sent l.outgoing)
    sender_seen =
        ap₂ (λ (k : ℕ) (o : Slots model.Packet).
        record {
          seq = a.sender.seq;
          remote_acked = a.sender.remote_acked;
          largest_ack = a.sender.largest_ack;
          inflight = cond slot.waiting a.sender.inflight (a.sender.inflight - k);
          cwnd = a.sender.cwnd;
          outgoing = o;
        }) (sym size) (drop_outgoing a.sender.remote_acked a.sender.seq sent l.outgoing w.width n long w.low w.high)

    totals_seen : seen_totals (acked_totals a.totals slot) ≡ count_acked (length found.bytes - 20) (seen_totals a.totals)
    unfolding count_acked
    totals_seen = rw size refl

    pub stored_seen : seen (with_acks (acked_by clock slot a) s) (acked_totals a.totals slot) (with_words (set sent (n % ceiling) 0) l) ≡ ack_number clock n before
    unfolding seen ack_number
    stored_seen =
        groups before sender_seen (timing-seen l.outgoing (n % ceiling) clock slot (record { rtt = a.rtt; deadline = s.timing.deadline.0.0 })) totals_seen
        ∙ ap (λ (o : Option model.Packet). on o before (λ (p : model.Packet). handle_remote_ack clock n p before)) (sym got)

  -- it is not stored
  pub absent_seen : is_stored slot n ≡ false → (s : Stream) (l : Lent)
      → seen (with_acks a s) a.totals (with_words sent l) ≡ ack_number clock n (seen (with_acks a s) a.totals (with_words sent l))
  unfolding seen ack_number
  absent_seen absent s l =
      let e = seen (with_acks a s) a.totals (with_words sent l) in
      let got : get (seen_outgoing a.sender.remote_acked a.sender.seq sent l.outgoing) n ≡ none =
      get_outgoing a.sender.remote_acked a.sender.seq sent l.outgoing n w.low w.high ∙ rw absent refl in
      ap (λ (o : Option model.Packet). on o e (λ (p : model.Packet). handle_remote_ack clock n p e)) (sym got)

  -- the two branches of the code
  pub acks_stored : {p : Sent} {e : Rtt} {sent' : List ℕ} → found_sent sent n ≡ Some p → Measures a.rtt p clock e → sent' ≡ set sent (n % 32) 0
      → AcksOne clock n a sent (record { sender = left_sender a.sender p; rtt = e; totals = acked_totals a.totals p }) sent'
  acks_stored {p} found m words =
      let is = sent_found sent n p found in
      record {
        seen_after = λ s l. rw (words, m.estimate, is.0) (stored_seen (rw is.0 at is.1) s l);
        same = same_left a.sender p;
        range = m.range;
      }

  pub acks_absent : found_sent sent n ≡ None → InRange a.rtt → AcksOne clock n a sent a sent
  acks_absent absent range = record { seen_after = absent_seen (sent_not_found sent n absent); same = same_refl a.sender; range = range }
