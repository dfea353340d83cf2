-- 01's rules give what drive's loops need of the stored packets: if the end obeys the rules, the records satisfy `AllSentBounds`.
use Prim.Native.Nat.{ℕ, ◌%◌, ◌^◌, ◌≤◌, ◌<◌}
use native.Mathlib.Omega.{arith}
use mathlib.Core.Path.{◌≡◌, refl, ◌∙◌, ap}
use mathlib.Core.Option.{some}
use mathlib.Core.Bool.{true}
use Rattle.std.specs.Prelude as rust
use Rattle.std.specs.Option.{ForSome}
use Rattle.rtt.specs.declared.nanos.Nanos.{Nanos}
use Rattle.model.specs.Slots.{ceiling, get}
use Rattle.model.specs.Rules.{rules}
use Rattle.model.proofs.SlotSums.{get_slot}
use Rattle.model.proofs.RulesKept.{rules_say}
use Rattle.records.specs.declared.Stream.{Stream}
use Rattle.records.specs.declared.Totals.{Totals}
use Rattle.records_words.specs.Words.{sent_in}
use Rattle.records.specs.Seen.{seen_time, packet_of, Lent, seen}
use Rattle.records.proofs.Cut.{cut_length}
use Rattle.records.proofs.SeenOutgoing.{get_outgoing}
use Rattle.drive_lost.specs.Packets.{AllSentBounds}

-- "neither a time sent .. is past the last clock, which is below 2^60"
early : (o : rust.Option Nanos) (last : ℕ) → last < 2 ^ 60 → ((t : ℕ) → seen_time o ≡ some t → t ≤ last) → ForSome o (λ t. t.0 < 2 ^ 60)
early o last fits h t e = let a = h t.0 (ap seen_time e) in omega arith

module _ (st : Stream) (t : Totals) (l : Lent) (kept : rules (seen st t l) ≡ true) where
  pub rules_stored : AllSentBounds st.sender l.sent
  unfolding seen
  rules_stored n low high is =
      let q = sent_in l.sent (n % ceiling) in
      let p = packet_of l.outgoing (n % ceiling) q in
      let s = (seen st t l).sender.outgoing in
      let e : get s n ≡ some p = get_outgoing st.sender.remote_acked st.sender.seq l.sent l.outgoing n low high ∙ rw is refl in
      let k = rules_say (seen st t l) kept in
      let w = k.stored (n % ceiling) (record { number = n; value = p }) (get_slot s n p e) in
      record { short = rw cut_length at w.most; early = early q.sent_at st.clocks.last.0 k.last_fits w.sent }
