-- Records that obey the rules, with nothing left to take, are ready for a write (`ready`): the sums over the stored packets are bounded by
-- the number of slots, and a queue at rest by its distinct numbers.
use Prim.Native.Nat.{ℕ, zero, suc, ◌+◌, ◌-◌, ◌*◌, ◌%◌, ◌≤◌, ◌<◌}
use native.Mathlib.Omega.{arith}
use mathlib.Core.Path.{◌≡◌, refl, sym, ◌∙◌, subst}
use mathlib.Core.List.{List, [], ◌∷◌}
use mathlib.Core.Bool.{Bool, true, false, cond}
use lib.Dec.{eqb}
use lib.ListN.{length}
use borrow.Author.Tests.{eqb-true}
use Rattle.model.specs.Slots.{ceiling}
use Rattle.model.specs.Stream.{Entry, state, packet}
use Rattle.model.specs.Rules.{sum, inflight_of, payload_of, states, numbers, segments_range, rtt_ranges}
use Rattle.model.specs.RulesKept.{Every}
use Rattle.model.proofs.Gate.{and_left, and_right}
use Rattle.model.proofs.RulesKept.{rules_say, sum_most, distinct_few}
use Rattle.records.specs.declared.Stream.{Stream}
use Rattle.records.specs.declared.Totals.{Totals}
use Rattle.records_words.specs.Words.{sent_in, is_stored}
use Rattle.records.specs.Seen.{Lent, outgoing_slot_at, seen, seen_outgoing, seen_queue, entry_words}
use Rattle.records.proofs.Table.{table_length}
use Rattle.records.proofs.SeenQueue.{entries_length, rest_length}
use Rattle.rules_stream.specs.Ok.{ok_stream, clocks_ok}
use Rattle.rules_packets.specs.Packets.{ok_sender, sum_from, packets_at, sender_numbers_ok, every_from, stored_ok, sums_ok, inflight_at}
use Rattle.write_all.specs.Write.{Ready}
use Rattle.udx_steps.specs.Write.{outbox_of}
use Rattle.udx.proofs.Unbroken.{Whole}

-- there are at most as many stored packets as numbers

one_most : (b : Bool) → cond b 1 0 ≤ 1
one_most true = omega arith
one_most false = omega arith

packets_most : (words : List ℕ) (k n : ℕ) → sum_from k n (packets_at words) ≤ k
unfolding sum_from
packets_most words zero n = omega arith
packets_most words (suc k) n =
    let a = one_most (is_stored (sent_in words (n % ceiling)) n) in
    let b = packets_most words k (suc n) in
    omega arith

-- an entry is a state packet or a packet
kinds : (q : List Entry) → length q ≡ states q + length (numbers q)
kinds [] = refl
kinds (state b ∷ q) = let h = kinds q in omega arith
kinds (packet n l ∷ q) = let h = kinds q in omega arith

waiting_most : (w : Bool) (n : ℕ) → n ≤ 1_400 → cond w 0 n ≤ 1_400
waiting_most true n h = omega arith
waiting_most false n h = h

payload_most : (n : ℕ) → n ≤ 1_400 → n - 20 ≤ 1_380
payload_most n h = omega arith

bounded : (a sum m slots : ℕ) → a ≡ sum → sum ≤ m * slots → slots ≡ 32 → a ≤ m * 32
bounded a sum m slots e h k = subst (λ (x : ℕ). a ≤ m * x) k (subst (λ (x : ℕ). x ≤ m * slots) (sym e) h)

at_rest : (count entries states numbers k : ℕ) → entries ≡ count → entries ≡ states + numbers → states ≤ 63 → numbers ≤ k → count ≤ 63 + k
at_rest count entries states numbers k a b c d = omega arith

near : (a seq : ℕ) (ns : List ℕ) → a ≤ seq → Every (λ n. (a ≤ n) × (n < seq)) ns → Every (λ n. (a ≤ n) × (n < a + (seq - a))) ns
near a seq [] h e = tt
near a seq (n ∷ ns) h e = let (x, y) = e.0 in ((x, omega arith), near a seq ns h e.1)

module _ (s : Stream) (t : Totals) (l : Lent) (len : length l.queue ≡ 128) (whole : Whole s t l) where
  packets_are : t.inflight_packets ≤ s.sender.seq - s.sender.remote_acked
  unfolding ok_stream ok_sender
  packets_are =
      let n = s.sender.remote_acked in
      let k = s.sender.seq - n in
      let rest₁ = and_right (segments_range s.ids.segments) _ whole.ok in
      let rest₂ = and_right (rtt_ranges s.timing.rtt) _ rest₁ in
      let rest₃ = and_right (clocks_ok s.clocks) _ rest₂ in
      let sender = and_left (ok_sender s.sender t s.clocks.last.0 l.sent) _ rest₃ in
      let sender₁ = and_right (sender_numbers_ok s.sender) _ sender in
      let sender₂ = and_right (every_from k n (stored_ok n s.sender.seq s.clocks.last.0 l.sent)) _ sender₁ in
      let sums = and_left (sums_ok s.sender t l.sent) _ sender₂ in
      let sums₁ = and_right (eqb s.sender.inflight (sum_from k n (inflight_at l.sent))) _ sums in
      let is = eqb-true _ _ (and_left (eqb t.inflight_packets (sum_from k n (packets_at l.sent))) _ sums₁) in
      subst (λ (x : ℕ). x ≤ k) (sym is) (packets_most l.sent k n)

  pub ready : s.queue.left ≡ 0 → Ready (outbox_of s t) (length l.outgoing)
  unfolding seen seen_outgoing seen_queue
  ready rest =
      let e = seen s t l in
      let k = rules_say e whole.kept in
      let slots : length e.sender.outgoing ≡ 32 = table_length ceiling (outgoing_slot_at s.sender.remote_acked s.sender.seq l.sent l.outgoing) in
      let r = k.rest rest in
      let few =
      distinct_few s.sender.remote_acked (s.sender.seq - s.sender.remote_acked) (numbers e.queue.entries) r.once
      (near s.sender.remote_acked s.sender.seq (numbers e.queue.entries) k.acked_seq r.known) in
      let many : length e.queue.entries ≡ s.queue.count =
      entries_length l.headers s.queue.gone (entry_words s.queue l.queue) ∙ rest_length s.queue l.queue rest (subst (λ (x : ℕ). s.queue.count ≤ x) (sym len) whole.queue.count) in
      record {
        whole = whole.outgoing;
        acked = k.acked_seq;
        near = k.seq_near;
        inflight =
            bounded s.sender.inflight (sum inflight_of e.sender.outgoing) 1_400 (length e.sender.outgoing) k.inflight
            (sum_most inflight_of 1_400 e.sender.outgoing (λ i x z. waiting_most x.value.marks.waiting _ (k.stored i x z).most))
            slots;
        rest = rest;
        queued = at_rest s.queue.count (length e.queue.entries) (states e.queue.entries) (length (numbers e.queue.entries)) _ many (kinds e.queue.entries) r.states few;
        packets = packets_are;
        bytes =
            bounded t.inflight_bytes (sum payload_of e.sender.outgoing) 1_380 (length e.sender.outgoing) k.bytes
            (sum_most payload_of 1_380 e.sender.outgoing (λ i x z. payload_most _ (k.stored i x z).most))
            slots;
      }
