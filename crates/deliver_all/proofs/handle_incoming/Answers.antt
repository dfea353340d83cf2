-- `deliver_all::handle_incoming` meets its contract: the parts one after another.
use Rattle.deliver_all.proofs.Whole.{handles}
use Rattle.deliver_all.proofs.handle_incoming.Goals as goal

pub returns : goal.returns
returns c = search handles
