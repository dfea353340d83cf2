-- `udx::close::close` meets its contract: the verdict is the model's, and an accepted close gives the model's answer.
use Rattle.udx.proofs.CloseLaws.{close_refused, closable, close_answers}
use Rattle.udx.proofs.close.close.Goals as goal

pub returns-in-Err : goal.returns-in-Err
returns-in-Err c = search close_refused

pub terminate-requires : goal.terminate-requires
terminate-requires c = search closable

pub returns : goal.returns
returns c = search close_answers
