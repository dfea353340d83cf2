-- `deliver_data::clear_gap` meets its contract. The loop's invariant is `Clearing`, up to the larger of top and n.
use native.Mathlib.Omega.{arith}
use Rattle.deliver_data.proofs.AbsorbLaws.{clear_turn}
use Rattle.deliver_data.proofs.clear_gap.Goals as goal

pub loop-m-preserved : goal.loop-m-preserved
loop-m-preserved c = (clear_turn c.loop-m.invariant.0 c.clear_held.ensures, omega arith)
