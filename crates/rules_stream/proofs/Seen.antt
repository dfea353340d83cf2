-- Refusal 1's test of the records is exactly the model's rules of what is seen of them, and the layout (`ok_seen`): group by group, then
-- the tests reordered. Each direction as facts: `ok_says`, `ok_said`. And records never fail it after calls from a fresh stream
-- (`never_refused`), since the model's rules always hold then.
use mathlib.Core.Path.{◌≡◌, refl, sym, ◌∙◌}
use mathlib.Core.Bool.{Bool, true, false, ◌&&◌, and-false}
use lib.ListN.{length}
use Rattle.model.specs.Rules.{rules, rtt_ranges, clock_ranges, segments_range, sender_numbers, receiver_numbers, every_slot, stored_test, held_test, inflight_sums, cwnd_range, every, entry_test, queue_test}
use Rattle.model.proofs.Gate.{and_left, and_right, and-true}
use Rattle.model.proofs.RulesKept.{rules_say}
use Rattle.model_rules.proofs.NeverBroken.{never_broken}
use Rattle.records.specs.declared.Stream.{Stream}
use Rattle.records.specs.declared.Totals.{Totals}
use Rattle.records.specs.Seen.{Lent, seen, formed, formed_receiver, formed_queue}
use Rattle.rules_stream.specs.Ok.{ok_stream}
use Rattle.rules_stream.specs.Statement.{RefusalOne, NeverRefused}
use Rattle.rules_packets.proofs.SeenPackets.{sender_seen, receiver_seen}
use Rattle.rules_queue.proofs.SeenQueue.{queue_seen}

-- the same tests, in the order of the records' groups and in the model's order
order : (segments rtt clocks numbers stored sums cwnd top cursor held places queue : Bool)
    → (segments && (rtt && (clocks && ((numbers && (stored && (sums && cwnd))) && ((top && (cursor && held)) && (places && queue))))))
    ≡ ((top && places) && (numbers && (cursor && (stored && (held && (sums && (rtt && (clocks && (cwnd && (segments && queue))))))))))
order true true true true true true true true true true true queue = refl
order true true true true true true true true true true false _ = refl
order true true true true true true true true true false _ _ = simp and-false
order true true true true true true true true false _ _ _ = simp and-false
order true true true true true true true false _ _ _ _ = refl
order true true true true true true false _ _ _ _ _ = simp and-false
order true true true true true false _ _ _ _ _ _ = simp and-false
order true true true true false _ _ _ _ _ _ _ = simp and-false
order true true true false _ _ _ _ _ _ _ _ = simp and-false
order true true false _ _ _ _ _ _ _ _ _ = simp and-false
order true false _ _ _ _ _ _ _ _ _ _ = simp and-false
order false _ _ _ _ _ _ _ _ _ _ _ = simp and-false

pub ok_seen : RefusalOne
unfolding ok_stream formed rules seen
ok_seen s t l len =
    let e = seen s t l in
    rw (
      sender_seen s.sender t s.clocks.last.0 l.sent l.outgoing,
      receiver_seen s.receiver l.held l.incoming,
      queue_seen s.queue s.sender l.queue l.sent l.outgoing l.headers len,
    )
    (order (segments_range e.ids.segments) (rtt_ranges e.timing.rtt) (clock_ranges e.clocks) (sender_numbers e.sender) (every_slot (stored_test e) e.sender.outgoing)
    (inflight_sums e.sender e.totals) (cwnd_range e.sender.cwnd) (formed_receiver s.receiver) (receiver_numbers e.receiver) (every_slot (held_test e.receiver) e.receiver.incoming)
    (formed_queue s.queue l.queue) (every (entry_test e.sender.outgoing) e.queue.entries && queue_test e.sender e.queue))

module _ (s : Stream) (t : Totals) (l : Lent) (len : length l.queue ≡ 128) where
  pub ok_says : ok_stream s t l.sent l.held l.queue ≡ true → (formed s l.queue ≡ true) × (rules (seen s t l) ≡ true)
  ok_says h = let both = sym (ok_seen s t l len) ∙ h in (and_left _ _ both, and_right (formed s l.queue) _ both)

  pub ok_said : formed s l.queue ≡ true → rules (seen s t l) ≡ true → ok_stream s t l.sent l.held l.queue ≡ true
  ok_said f r = ok_seen s t l len ∙ and-true f r

pub never_refused : NeverRefused
never_refused local remote segments clock opened calls s t l len laid is =
    let (holds, _) = never_broken local remote segments clock opened calls in
    let kept : rules (seen s t l) ≡ true = rw is holds in
    (rules_say (seen s t l) kept, ok_said s t l len laid kept)
