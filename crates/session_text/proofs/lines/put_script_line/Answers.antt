-- `session_text::lines::put_script_line` meets its contract: its pieces, each put where the last one ended.
use native.Mathlib.Omega.{arith}
use Prim.Native.Nat.{zero-le}
use Rattle.session_text.proofs.PutLaws.{then, at_most}
use Rattle.session_text.specs.Text.{script_line_of}
use Rattle.session_text.proofs.lines.put_script_line.Goals as goal

pub returns-clause-wrote : goal.returns-clause-wrote
unfolding script_line_of
returns-clause-wrote c =
    let h = zero-le in
    at_most (then h (then h (then h c.put_name-a.ensures c.put_space-b.ensures) c.put_decimal-c.ensures) c.put_end.ensures) (omega arith)
