-- The stored and the held packets: the rules over the words are the model's rules of what is seen, whatever the stores hold. Both stores
-- are read as in proofs/SeenStore.antt, and a piece has the length that is in its word (`cut_length`).
use Prim.Native.Nat.{ℕ, ◌-◌, ◌%◌}
use mathlib.Core.Path.{◌≡◌, sym, ap, ◌∙◌}
use mathlib.Core.List.{List}
use mathlib.Core.Option.{none, some}
use mathlib.Core.Bool.{Bool, cond, ◌&&◌, not, and_assoc, and_comm}
use lib.Dec.{ltb, leb, eqb}
use lib.ListN.{length, get_or}
use Rattle.model.specs.Lists.{Bytes}
use Rattle.model.specs.Slots.{ceiling, get}
use Rattle.model.specs.Stream as model
use Rattle.model.specs.Rules.{sum, every_slot, inflight_of, one_of, payload_of, stored_rule, held_rule, held_test, sender_numbers, receiver_numbers, inflight_sums, cwnd_range}
use Rattle.records.specs.declared.Sender.{Sender}
use Rattle.records.specs.declared.Receiver.{Receiver}
use Rattle.records.specs.declared.Totals.{Totals}
use Rattle.records_words.specs.Words.{sent_in, is_stored, held_of, is_held}
use Rattle.records.specs.Seen.{packet_of, held_payload, seen_outgoing, seen_incoming, seen_sender, seen_receiver, seen_totals, formed_receiver}
use Rattle.rules_packets.specs.Packets.{every_from, sum_from, stored_ok, inflight_at, packets_at, payload_at, ok_sender, held_ok, ok_receiver}
use Rattle.records.proofs.Cut.{cut_length}
use Rattle.rules_packets.proofs.SeenStore.{View, found, every_seen, sum_seen}

-- stored packets

-- the model's `stored_test`, over only those numbers of an end that it reads
abbrev stored_by : (remote_acked seq clock slot n : ℕ) → model.Packet → Bool
stored_by remote_acked seq clock slot n p = stored_rule remote_acked seq clock slot n (length p.bytes) p.marks.transmits p.marks.sent

module _ (remote_acked seq : ℕ) (words : List ℕ) (bytes : Bytes) where
  abbrev sent_view : View model.Packet
  sent_view =
      record {
        low = remote_acked;
        high = seq;
        number = λ i. (sent_in words i).number;
        there = λ i. not (eqb (sent_in words i).length 0);
        value = λ i. packet_of bytes i (sent_in words i);
      }

  pub outgoing_found : (n : ℕ)
      → let p = sent_in words (n % ceiling) in
      get (seen_outgoing remote_acked seq words bytes) n ≡ cond (leb remote_acked n && (ltb n seq && is_stored p n)) (some (packet_of bytes (n % ceiling) p)) none
  unfolding seen_outgoing
  outgoing_found = found sent_view

  stored_every : (clock : ℕ) → every_slot (stored_by remote_acked seq clock) (seen_outgoing remote_acked seq words bytes) ≡ every_from (seq - remote_acked) remote_acked (stored_ok remote_acked seq clock words)
  unfolding seen_outgoing
  stored_every clock = every_seen sent_view (stored_by remote_acked seq clock) ∙ simp cut_length

  inflight_sum : sum inflight_of (seen_outgoing remote_acked seq words bytes) ≡ sum_from (seq - remote_acked) remote_acked (inflight_at words)
  unfolding seen_outgoing
  inflight_sum = sum_seen sent_view inflight_of ∙ simp cut_length

  packets_sum : sum one_of (seen_outgoing remote_acked seq words bytes) ≡ sum_from (seq - remote_acked) remote_acked (packets_at words)
  unfolding seen_outgoing
  packets_sum = sum_seen sent_view one_of

  payload_sum : sum payload_of (seen_outgoing remote_acked seq words bytes) ≡ sum_from (seq - remote_acked) remote_acked (payload_at words)
  unfolding seen_outgoing
  payload_sum = sum_seen sent_view payload_of ∙ simp cut_length

pub sender_seen : (s : Sender) (t : Totals) (clock : ℕ) (words : List ℕ) (bytes : Bytes)
    → let m = seen_sender s words bytes in
    ok_sender s t clock words
    ≡ (sender_numbers m && (every_slot (stored_by m.remote_acked m.seq clock) m.outgoing && (inflight_sums m (seen_totals t) && cwnd_range m.cwnd)))
unfolding ok_sender
sender_seen s t clock words bytes =
    rw (
      stored_every s.remote_acked s.seq words bytes clock,
      inflight_sum s.remote_acked s.seq words bytes,
      packets_sum s.remote_acked s.seq words bytes,
      payload_sum s.remote_acked s.seq words bytes,
    )

-- held packets

-- the model's `held_test`, over the one number of a receiver that it reads
abbrev held_by : (read_cursor slot n : ℕ) → model.Held → Bool
held_by read_cursor slot n h = held_rule read_cursor slot n (length h.payload) h.offset

module _ (read_cursor top : ℕ) (words : List ℕ) (bytes : Bytes) where
  abbrev held_view : View model.Held
  held_view =
      record {
        low = read_cursor;
        high = top;
        number = λ i. (held_of (get_or words i 0)).number;
        there = λ i. not (eqb (held_of (get_or words i 0)).past 0);
        value = λ i. held_payload bytes i (held_of (get_or words i 0));
      }

  pub incoming_found : (n : ℕ)
      → let p = held_of (get_or words (n % ceiling) 0) in
      get (seen_incoming read_cursor top words bytes) n ≡ cond (leb read_cursor n && (ltb n top && is_held p n)) (some (held_payload bytes (n % ceiling) p)) none
  unfolding seen_incoming
  incoming_found = found held_view

  held_every : every_slot (held_by read_cursor) (seen_incoming read_cursor top words bytes) ≡ every_from (top - read_cursor) read_cursor (held_ok read_cursor words)
  unfolding seen_incoming
  held_every = every_seen held_view (held_by read_cursor) ∙ simp cut_length

pub receiver_seen : (r : Receiver) (words : List ℕ) (bytes : Bytes)
    → let m = seen_receiver r words bytes in
    ok_receiver r words ≡ (formed_receiver r && (receiver_numbers m && every_slot (held_test m) m.incoming))
unfolding ok_receiver
receiver_seen r words bytes =
    rw (held_every r.read_cursor r.top words bytes) (order (leb r.read_cursor r.ack) _ (formed_receiver r) _)
  where
    order : (a b c d : Bool) → (a && (b && (c && d))) ≡ (c && ((a && b) && d))
    order a b c d = sym (and_assoc a b (c && d)) ∙ sym (and_assoc (a && b) c d) ∙ ap (λ z. z && d) (and_comm (a && b) c) ∙ and_assoc c (a && b) d
