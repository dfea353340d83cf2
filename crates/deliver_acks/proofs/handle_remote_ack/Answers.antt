-- `deliver_acks::handle_remote_ack` meets its contract: AckOne has one law for a stored packet and one for a missing packet.
use mathlib.Core.Path.{sym, ◌∙◌}
use borrow.Author.Rules.{rules}
use Rattle.deliver_acks.proofs.AckOne.{acks_stored, acks_absent}
use Rattle.deliver_acks.proofs.handle_remote_ack.Goals as goal

pub returns : goal.returns
returns c =
    rw (c.acked_totals.ensures, c.left_sender.ensures)
    (acks_stored _ _ _ _ (search rules) c.requires.1
    (sym c.find_sent.ensures ∙ c.in-Some.is) c.measured.ensures c.clear_sent.ensures)

pub returns-in_default : goal.returns-in_default
returns-in_default c =
    acks_absent _ _ _ _ (search rules) c.requires.1
    (sym c.find_sent.ensures ∙ c.in_default.is) c.requires.0.range
