-- `session_text::pieces::put_answer` meets its contract: six pieces, each put where the last one ended.
use native.Mathlib.Omega.{arith}
use Prim.Native.Nat.{◌≤◌}
use lib.ListN.{length}
use Rattle.session_text.proofs.PutLaws.{then, at_most}
use Rattle.session_text.specs.Text.{answer_of}
use Rattle.session_text.proofs.pieces.put_answer.Goals as goal

pub returns : goal.returns
unfolding answer_of
returns c =
    let h : c.args.at ≤ length c.args.out.now = omega arith in
    at_most (then h (then h (then h (then h (then h c.put_space-a.ensures c.put_decimal-b.ensures) c.put_space-c.ensures) c.put_outcome-d.ensures) c.put_space-e.ensures) c.put_decimal.ensures) (omega arith)
