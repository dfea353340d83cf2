-- `deliver_data::absorb` meets its contract: DATA below ack is not held, other DATA is; then ack moves. One law for each case combines what
-- the calls ensure.
use Rattle.deliver_data.proofs.AbsorbLaws.{absorbs_old, absorbs_new}
use Rattle.deliver_data.proofs.absorb.Goals as goal

pub returns-then-n-r : goal.returns-then-n-r
returns-then-n-r c =
    absorbs_old c.requires c.if-n-r.true c.in_order.ensures

pub returns : goal.returns
returns c =
    absorbs_new c.if-n-r.false c.insert-s.ensures
    c.in_order-2.ensures
