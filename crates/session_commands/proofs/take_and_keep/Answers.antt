-- `session_commands::take_and_keep` meets its contract: its part of scratch has the length asked for, or all; what was taken is kept.
use native.Mathlib.Omega.{arith}
use Rattle.std.proofs.lemmas.List.{length-take}
use Rattle.session_commands.proofs.ActLaws.{kept_take}
use Rattle.session_commands.proofs.take_and_keep.Goals as goal

pub returns : goal.returns
returns c =
    let lent = length-take c.min-n.result c.args.scratch.now in
    kept_take _ _ _ _ _ _ _ _ _ (omega (arith, c.min-n.ensures, lent)) c.take-c.ensures c.keep.ensures
