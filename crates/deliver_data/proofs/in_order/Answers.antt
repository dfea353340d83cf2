-- `deliver_data::in_order` meets its contract. The loop's invariant is `Advancing`: the model's steps left from here give its whole result.
use native.Mathlib.Omega.{arith}
use Rattle.deliver_data.proofs.AbsorbLaws.{advance_turn, advance_at_gap, advance_at_top}
use Rattle.deliver_data.proofs.in_order.Goals as goal

pub loop-n-preserved : goal.loop-n-preserved
loop-n-preserved c =
    advance_turn c.loop-n.invariant c.requires.0 (omega arith) c.loop-n-test.true c.find_held.ensures c.if-is_none.ensures

pub returns-then-is_none : goal.returns-then-is_none
returns-then-is_none c =
    advance_at_gap c.loop-n.invariant c.requires.0 (omega arith) c.loop-n-test.true c.find_held.ensures c.if-is_none.ensures

pub returns : goal.returns
returns c = advance_at_top c.loop-n.invariant c.loop-n-test.false c.max.ensures c.loop-n.auto.n
