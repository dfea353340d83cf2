-- `udx::take::take` meets its contract: the verdict is the model's, and an accepted take gives the model's answer.
use Rattle.udx.proofs.TakeLaws.{take_sendable, take_refused, take_batch, take_nothing}
use Rattle.udx.proofs.take.take.Goals as goal

pub returns-in-Err : goal.returns-in-Err
returns-in-Err c = search take_refused

pub returns-then-s-eq0 : goal.returns-then-s-eq0
returns-then-s-eq0 c = search take_nothing

pub next_batch-h-requires : goal.next_batch-h-requires
next_batch-h-requires c = search take_sendable

pub returns : goal.returns
returns c = search take_batch
