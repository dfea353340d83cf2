-- `rules_packets::receiver::ok_receiver` meets its contract: the tests in order, with what the pass found.
use native.Mathlib.Omega.{arith}
use Rattle.std.proofs.lemmas.Bool.Decides.{nat_tests}
use Rattle.rules_packets.proofs.Held.{far, near}
use Rattle.rules_packets.proofs.receiver.ok_receiver.Goals as goal

pub returns-then-far-r : goal.returns-then-far-r
returns-then-far-r c = far _ _ (omega arith)

pub returns-then-r-2 : goal.returns-then-r-2
returns-then-r-2 c = grind (arith, nat_tests, near c.args.r c.args.held.now c.all_held-kept.result (omega arith) c.all_held-kept.ensures)

pub returns-else-r-2 : goal.returns-else-r-2
returns-else-r-2 c = grind (arith, nat_tests, near c.args.r c.args.held.now c.all_held-kept.result (omega arith) c.all_held-kept.ensures)
