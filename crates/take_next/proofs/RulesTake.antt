-- 01's rules give what this crate's functions need: records that keep them, are properly laid out and have stores of the right lengths
-- satisfy `TakeRules`, and with an entry left to take and a buffer of 14,000 bytes the next batch can be taken.
use Prim.Native.Nat.{ℕ, zero, suc, ◌%◌, ◌^◌, ◌≤◌, ◌<◌}
use native.Mathlib.Omega.{arith}
use mathlib.Core.Path.{◌≡◌, refl, ◌∙◌}
use mathlib.Core.List.{[], ◌∷◌}
use mathlib.Core.Option.{Option, none, some}
use mathlib.Core.Bool.{Bool, true}
use lib.Dec.{ltb, leb, eqb}
use borrow.Author.Tests.{leb-true, ltb-true}
use lib.ListN.{length, get_or}
use Rattle.model.specs.Lists.{Bytes}
use Rattle.model.specs.Slots.{Numbered, Slots, ceiling, get}
use Rattle.model.specs.Stream as model
use Rattle.model.specs.Rules.{every_slot, every, sender_numbers, receiver_numbers, stored_rule, stored_test, held_test, inflight_sums, rtt_ranges, clock_ranges, cwnd_range, segments_range, entry_test, rules}
use Rattle.model.proofs.Slots.{no_some, some_inj}
use Rattle.model.proofs.SlotSums.{get_slot}
use Rattle.model.proofs.Gate.{and_left, and_right}
use Rattle.records.specs.declared.Stream.{Stream}
use Rattle.records.specs.declared.Totals.{Totals}
use Rattle.records_words.specs.Words.{sent_in}
use Rattle.records.specs.Seen.{packet_of, Lent, seen, QueueFormed}
use Rattle.records.proofs.Cut.{cut_length}
use Rattle.records.proofs.SeenOutgoing.{get_outgoing}
use Rattle.take_next.specs.Take.{Lends, AllTransmitBounds, TakeRules, Sendable}

-- a stream lends its own numbers and words
pub own_lends : (st : Stream) (l : Lent) → Lends st l st.queue st.sender l.sent l.queue l.outgoing l.headers
own_lends st l = record { counts = refl; sender = refl; packets = refl; words = refl; store = refl; heads = refl }

-- the parts of the rules that are read here
pub record Read (e : model.End) : Type 0 where
  pub stored : every_slot (stored_test e) e.sender.outgoing ≡ true
  pub clocks : clock_ranges e.clocks ≡ true
  pub segments : segments_range e.ids.segments ≡ true
  pub entries : every (entry_test e.sender.outgoing) e.queue.entries ≡ true

pub rules_read : (e : model.End) → rules e ≡ true → Read e
unfolding rules
rules_read e h =
    let s = e.sender in
    let h₁ = and_right (sender_numbers s) _ h in
    let h₂ = and_right (receiver_numbers e.receiver) _ h₁ in
    let h₃ = and_right (every_slot (stored_test e) s.outgoing) _ h₂ in
    let h₄ = and_right (every_slot (held_test e.receiver) e.receiver.incoming) _ h₃ in
    let h₅ = and_right (inflight_sums s e.totals) _ h₄ in
    let h₆ = and_right (rtt_ranges e.timing.rtt) _ h₅ in
    let h₇ = and_right (clock_ranges e.clocks) _ h₆ in
    let h₈ = and_right (cwnd_range s.cwnd) _ h₇ in
    let h₉ = and_right (segments_range e.ids.segments) _ h₈ in
    record {
      stored = and_left (every_slot (stored_test e) s.outgoing) _ h₂;
      clocks = and_left (clock_ranges e.clocks) _ h₆;
      segments = and_left (segments_range e.ids.segments) _ h₈;
      entries = and_left (every (entry_test s.outgoing) e.queue.entries) _ h₉;
    }

-- a test of every slot holds at each of them
slot_test : {A : Type 0} (f : ℕ → ℕ → A → Bool) (s : Slots A) → every_slot f s ≡ true → (i : ℕ) (x : Numbered A) → get_or s i none ≡ some x → f i x.number x.value ≡ true
slot_test f [] h i x e = absurd (no_some refl e)
slot_test f (none ∷ s) h zero x e = absurd (no_some refl e)
slot_test f (none ∷ s) h (suc i) x e = slot_test (λ j. f (suc j)) s h i x e
slot_test f (some y ∷ s) h zero x e = rw (← (some_inj refl e)) (and_left (f 0 y.number y.value) (every_slot (λ j. f (suc j)) s) h)
slot_test f (some y ∷ s) h (suc i) x e = slot_test (λ j. f (suc j)) s (and_right (f 0 y.number y.value) (every_slot (λ j. f (suc j)) s) h) i x e

-- the rule of a stored packet
rule_within : (remote_acked seq clock slot number size transmits : ℕ) (sent : Option ℕ) → stored_rule remote_acked seq clock slot number size transmits sent ≡ true
    → (size ≤ 1_400) × (transmits ≤ 7)
rule_within remote_acked seq clock slot number size transmits sent h =
    let h₁ = and_right (eqb (number % ceiling) slot) _ h in
    let h₂ = and_right (leb remote_acked number) _ h₁ in
    let h₃ = and_right (ltb number seq) _ h₂ in
    let h₄ = and_right (leb 21 size) _ h₃ in
    let h₅ = and_right (leb size 1_400) _ h₄ in
    (leb-true size 1_400 (and_left (leb size 1_400) _ h₄), leb-true transmits 7 (and_left (leb transmits 7) _ h₅))

module _ (st : Stream) (t : Totals) (l : Lent) (kept : rules (seen st t l) ≡ true) where
  stored : AllTransmitBounds st.sender l.sent 7
  unfolding seen
  stored n low high is =
      let q = sent_in l.sent (n % ceiling) in
      let p = packet_of l.outgoing (n % ceiling) q in
      let s = (seen st t l).sender.outgoing in
      let e : get s n ≡ some p = get_outgoing st.sender.remote_acked st.sender.seq l.sent l.outgoing n low high ∙ rw is refl in
      let h = slot_test (stored_test (seen st t l)) s (rules_read (seen st t l) kept).stored (n % ceiling) (record { number = n; value = p }) (get_slot s n p e) in
      let w = rule_within st.sender.remote_acked st.sender.seq st.clocks.last.0 (n % ceiling) n (length p.bytes) q.transmits p.marks.sent h in
      record { short = rw cut_length at w.0; few = w.1 }

  module _ (formed : QueueFormed st.queue l.queue) (slots : length l.outgoing ≡ 44_800) (places : length l.headers ≡ 1_280) where
    pub rules_kept : TakeRules st.queue st.sender l.sent l.queue l.outgoing l.headers
    rules_kept = record { formed = formed; stored = stored; slots = slots; places = places }

    pub rules_take : (buf : Bytes) → 0 < st.queue.left → 14_000 ≤ length buf
        → Sendable st.queue st.sender st.ids.segments st.clocks.drive.0 l.sent l.queue l.outgoing l.headers buf
    unfolding seen
    rules_take buf here room =
        let r = rules_read (seen st t l) kept in
        let c = st.clocks in
        let n = st.ids.segments in
        let drive = leb-true c.drive.0 c.last.0 (and_left (leb c.drive.0 c.last.0) _ r.clocks) in
        let last = ltb-true c.last.0 (2 ^ 60) (and_right (leb c.drive.0 c.last.0) _ r.clocks) in
        record { kept = rules_kept; some = here; most = leb-true n 10 (and_right (leb 1 n) _ r.segments); drive = omega arith; room = room }
