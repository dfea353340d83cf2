-- `rules_stream::ok_stream` meets its contract: the rules of each group in order; the sender's rules give the queue's pass its 32 numbers.
use native.Mathlib.Omega.{arith}
use mathlib.Core.Path.{sym, ◌∙◌}
use Rattle.std.proofs.lemmas.Bool.Decides.{nat_tests}
use Rattle.rules_stream.specs.Ok.{ok_stream}
use Rattle.rules_packets.proofs.Stored.{near_of}
use Rattle.rules_stream.proofs.ok_stream.Goals as goal

pub returns-then-not-segments : goal.returns-then-not-segments
unfolding ok_stream
returns-then-not-segments c = grind (arith, nat_tests)

pub returns-then-entries : goal.returns-then-entries
unfolding ok_stream
returns-then-entries c = grind (arith, nat_tests)

pub returns-else-entries : goal.returns-else-entries
unfolding ok_stream
returns-else-entries c = grind (arith, nat_tests)

pub ok_queue-entries-requires : goal.ok_queue-entries-requires
ok_queue-entries-requires c = near_of _ _ _ _ (sym c.ok_sender.ensures ∙ c.if-not-ok_sender.false)
