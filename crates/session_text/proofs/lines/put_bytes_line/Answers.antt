-- `session_text::lines::put_bytes_line` meets its contract: its pieces, each put where the last one ended.
use native.Mathlib.Omega.{arith}
use Prim.Native.Nat.{zero-le}
use Rattle.session_text.proofs.PutLaws.{then, at_most}
use Rattle.session_text.specs.Text.{bytes_line_of}
use Rattle.session_text.proofs.lines.put_bytes_line.Goals as goal

pub returns-clause-wrote : goal.returns-clause-wrote
unfolding bytes_line_of
returns-clause-wrote c =
    let h = zero-le in
    at_most (then h (then h (then h (then h c.put_name-a.ensures c.put_answer-b.ensures) c.put_space-c.ensures) c.put_bytes-d.ensures) c.put_end.ensures) (omega arith)
