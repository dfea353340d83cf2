-- `deliver_all::before_data` meets its contract: the parts one after another.
use Rattle.deliver_all.proofs.Whole.{begins}
use Rattle.deliver_all.proofs.before_data.Goals as goal

pub returns : goal.returns
returns c = search begins
