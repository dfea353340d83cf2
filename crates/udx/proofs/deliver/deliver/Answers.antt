-- `udx::deliver::deliver` meets its contract: its list of refusals is the model's, and an accepted delivery gives its answer.
use Rattle.udx.proofs.DeliverLaws.{deliverable, deliver_refused, deliver_answers}
use Rattle.udx.proofs.deliver.deliver.Goals as goal

pub returns-in-Err : goal.returns-in-Err
returns-in-Err c = search deliver_refused

pub handle_incoming-d-requires : goal.handle_incoming-d-requires
handle_incoming-d-requires c = search deliverable

pub returns : goal.returns
returns c = search deliver_answers
