-- `rules_packets::sender::ok_sender` meets its contract: the tests in order, with what the pass found.
use native.Mathlib.Omega.{arith}
use mathlib.Core.Path.{sym, ◌∙◌}
use Rattle.std.proofs.lemmas.Bool.Decides.{nat_tests}
use Rattle.rules_packets.specs.Packets.{ok_sender}
use Rattle.rules_packets.proofs.Stored.{broken, near}
use Rattle.rules_packets.proofs.sender.ok_sender.Goals as goal

pub returns-then-s : goal.returns-then-s
unfolding ok_sender
returns-then-s c = grind (arith, nat_tests)

pub returns-then-not-largest : goal.returns-then-not-largest
unfolding ok_sender
returns-then-not-largest c = grind (arith, nat_tests)

pub returns-in_default : goal.returns-in_default
returns-in_default c = broken _ _ _ _ (omega arith) (omega arith) (sym c.in_default.is ∙ c.stored.ensures)

pub returns-then-packets : goal.returns-then-packets
returns-then-packets c =
    grind (arith, nat_tests, near c.args.s c.args.t c.args.clock.0 c.args.sent.now c.in-Some.found (omega arith) (omega arith) (sym c.in-Some.is ∙ c.stored.ensures))

pub returns-else-packets : goal.returns-else-packets
returns-else-packets c =
    grind (arith, nat_tests, near c.args.s c.args.t c.args.clock.0 c.args.sent.now c.in-Some.found (omega arith) (omega arith) (sym c.in-Some.is ∙ c.stored.ensures))
