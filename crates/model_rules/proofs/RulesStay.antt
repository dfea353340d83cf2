-- A write, a delivery, a drive and a close keep the rules of the records from any end that keeps them (`rules_stay`): without its further
-- facts the invariant is exactly the rules, and these calls keep it with or without them. A read and a take do not (`rules_break`): one
-- computed counterexample each.
use mathlib.Core.Path.{◌≡◌, refl, sym}
use mathlib.Core.List.{[], ◌∷◌}
use mathlib.Core.Option.{none}
use mathlib.Core.Bool.{true, false, true≢false}
use lib.ListN.{replicate}
use Rattle.model.specs.Slots.{no_slots, get, insert, remove}
use Rattle.model.specs.Stream.{packet, End, fresh, with_sender, with_receiver, with_queue, with_totals}
use Rattle.model.specs.Answers.{gate}
use Rattle.model.specs.Rules.{rules}
use Rattle.model.specs.Receiving.{read_loop, read_next, read_refusal, read}
use Rattle.model.specs.Driving.{same_length, batch, take_entry, take_loop, take_refusal, take}
use Rattle.model.specs.Calls.{write_call, deliver_call, drive_call, take_call, read_call, close_call}
use Rattle.model_rules.specs.NeverBroken.{HasSlots, RulesStay, RulesBreak}
use Rattle.model_rules.proofs.Invariant.{InvariantWith, kept_rules, rules_kept}
use Rattle.model_rules.proofs.InvariantSend.{write_keeps, close_keeps}
use Rattle.model_rules.proofs.InvariantDrive.{drive_keeps}
use Rattle.model_rules.proofs.InvariantDeliver.{deliver_keeps}

-- the invariant without `more`, as slots and rules
said : (e : End) → InvariantWith false e → HasSlots e × (rules e ≡ true)
said e g = (record { outgoing = g.facts.slots; incoming = g.facts.receiver.slots }, kept_rules e g)

pub rules_stay : RulesStay
rules_stay (write_call bytes) e k s h = said _ (write_keeps bytes e (rules_kept e s.outgoing s.incoming h))
rules_stay (deliver_call datagram clock) e k s h = said _ (deliver_keeps datagram clock e (rules_kept e s.outgoing s.incoming h))
rules_stay (drive_call clock) e k s h = said _ (drive_keeps clock e (rules_kept e s.outgoing s.incoming h))
rules_stay (take_call room) e k s h = absurd (true≢false (sym k))
rules_stay (read_call room) e k s h = absurd (true≢false (sym k))
rules_stay close_call e k s h = said _ (close_keeps e (rules_kept e s.outgoing s.incoming h))

-- number 0 is held and is ack
ack_held : End
ack_held =
    with_receiver (record { ack = 0; read_cursor = 0; incoming = insert no_slots 0 (record { payload = 65 ∷ []; offset = 0 }) }) (fresh 1 2 10 0)

-- packet 0 was transmitted 7 times and is left to take
seven_and_queued : End
seven_and_queued =
    with_totals (record { tx_packets = 1; tx_bytes = 1; rx_packets = 0; rx_bytes = 0; inflight_packets = 1; inflight_bytes = 1 })
    (with_queue (record { entries = packet 0 21 ∷ []; left = 1 })
    (with_sender
    (record {
      seq = 1;
      remote_acked = 0;
      largest_ack = 0;
      inflight = 21;
      cwnd = 2_800;
      outgoing =
          insert no_slots 0 (record { bytes = replicate 21 0; marks = record { waiting = false; transmits = 7; sent = none } });
    })
    (fresh 1 2 10 0)))

pub rules_break : RulesBreak
unfolding ack_held seven_and_queued no_slots get insert remove fresh gate rules read_loop read_next read_refusal read same_length batch take_entry take_loop take_refusal take
rules_break =
    record {
      reads = record { before = ack_held; slots = record { outgoing = refl; incoming = refl }; kept = refl; broken = refl };
      takes = record { before = seven_and_queued; slots = record { outgoing = refl; incoming = refl }; kept = refl; broken = refl };
    }
