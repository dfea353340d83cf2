-- `drive_drain::drained` meets its contract: each exit has decided the tests before it.
use mathlib.Core.Path.{sym, ◌∙◌}
use borrow.Author.Rules.{rules}
use Rattle.drive_drain.proofs.Drain.{not_drained, stored_or_not}
use Rattle.drive_drain.proofs.drained.Goals as goal

pub returns-then-q-eq0 : goal.returns-then-q-eq0
returns-then-q-eq0 c =
    stored_or_not _ _ _ _ c.requires (sym c.is_set.ensures ∙ c.if-q-eq0.true.0) c.if-q-eq0.true.1 _ c.any_stored.ensures

pub returns-else-q-eq0 : goal.returns-else-q-eq0
returns-else-q-eq0 c = not_drained _ _ _ _ c.requires (rw c.is_set.ensures at c.if-q-eq0.either) _ (search rules)
