-- `udx::write::write` meets its contract: the verdict is the model's, and an accepted write gives the model's answer.
use Rattle.udx.proofs.WriteLaws.{write_ready, write_refused, write_answers}
use Rattle.udx.proofs.write.write.Goals as goal

pub returns-in-Err : goal.returns-in-Err
returns-in-Err c = search write_refused

pub write_pieces-w-requires : goal.write_pieces-w-requires
write_pieces-w-requires c = search write_ready

pub returns : goal.returns
returns c = search write_answers
