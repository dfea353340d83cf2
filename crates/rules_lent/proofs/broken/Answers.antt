-- `rules_lent::broken` meets its contract: the lengths, then the rules.
use native.Mathlib.Omega.{arith}
use Rattle.std.proofs.lemmas.Bool.Decides.{nat_tests}
use Rattle.rules_lent.specs.Broken.{broken_records}
use Rattle.rules_lent.proofs.broken.Goals as goal

pub returns-then-stores_differ : goal.returns-then-stores_differ
unfolding broken_records
returns-then-stores_differ c = (grind (arith, nat_tests), c.told-queue)

pub returns-else-stores_differ : goal.returns-else-stores_differ
unfolding broken_records
returns-else-stores_differ c = (grind (arith, nat_tests), c.told-queue)
