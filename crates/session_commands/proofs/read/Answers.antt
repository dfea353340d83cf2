-- `session_commands::read` meets its contract: its part of scratch has the length that is read, and the line has the bytes put.
use native.Mathlib.Omega.{arith}
use Rattle.std.proofs.lemmas.List.{length-take}
use Rattle.session_commands.proofs.ActLaws.{at_most, was_read}
use Rattle.session_commands.proofs.read.Goals as goal

pub returns : goal.returns
returns c =
    let lent = length-take c.min-n.result c.args.scratch.now in (
      omega (arith, length-take c.min-put.result c.read-c.new.buf),
      λ kept short laid.
          was_read _ _ laid _ _ _ _ _ kept _ _ _ _ _ (omega (arith, c.min-n.ensures)) c.read-c.ensures (at_most _ _ _ c.min-put.ensures)
          c.put_bytes_line-len.ensures.wrote,
    )
