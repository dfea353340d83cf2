-- `rules_queue::queue::entries` meets its contract: what was found below i, plus what the entries from i on add, is the total.
use native.Mathlib.Omega.{arith}
use mathlib.Core.Path.{◌≡◌, refl, sym, ◌∙◌}
use Rattle.std.proofs.lemmas.Bool.Decides.{nat_tests}
use Rattle.rules_queue.specs.Passes.{known}
use Rattle.rules_queue.proofs.Entries.{begin, state, packet, alike, done}
use Rattle.rules_queue.proofs.queue.entries.Goals.{in-State, in-Packet+then-not-done, in-Packet+else-not-done}
use Rattle.rules_queue.proofs.queue.entries.Goals as goal

pub loop-i-init : goal.loop-i-init
loop-i-init c = begin _ _ _ _ _ _ c.requires.2

pub loop-i-preserved : goal.loop-i-preserved
loop-i-preserved c =
    let e = c.get_entry.ensures in
    let g = c.loop-i.invariant in
    let t = c.loop-i-test.true in
    elim c.match-get_entry.branch [
      | in-State w ↦
          rw (w.marks-is, w.good-is, w.fresh-is, w.states-is)
          (state g t c.requires.1 (sym e ∙ w.in-State.is))
      | in-Packet+then-not-done w ↦
          let x = w.in-Packet.x in
          let near : w.if-acked-x.near ≡ known c.args.acked c.args.seq x.number = grind (arith, nat_tests) in
          rw (w.marks-is, w.good-is, w.fresh-is, w.states-is, w.slot-slot.ensures.0)
          (packet g t c.requires.1 x
          w.if-acked-x.near w.queued_ok-good.result _ (sym e ∙ w.in-Packet.is) near w.queued_ok-good.ensures refl)
      | in-Packet+else-not-done w ↦
          rw (w.marks-is, w.good-is, w.fresh-is, w.states-is, w.slot-slot.ensures.0)
          (alike g t c.requires.1 w.in-Packet.x w.plain-plain.result w.same_packet-same.result
          (sym e ∙ w.in-Packet.is) w.same_packet-same.ensures w.plain-plain.ensures
          (rw w.slot-slot.ensures.0 at w.if-not-done.false))
    ]

pub returns : goal.returns
returns c = done c.loop-i.invariant c.loop-i-test.false
