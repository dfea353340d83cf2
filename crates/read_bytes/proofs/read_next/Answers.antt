-- `read_bytes::read_next` meets its contract. The loop's invariant is `Going`. The turn and each exit have one law, which combines what the
-- calls and tests say.
use Rattle.read_bytes.proofs.ReadLaws.{read_starts, read_turn, read_part, read_at_gap, read_at_top}
use Rattle.read_bytes.proofs.read_next.Goals as goal

pub loop-n-init : goal.loop-n-init
loop-n-init c = read_starts c.requires

pub returns-in_default : goal.returns-in_default
returns-in_default c = read_at_gap c.loop-n.invariant c.loop-n-test.true c.in_default.ensures

pub returns-then-size-count : goal.returns-then-size-count
returns-then-size-count c =
    read_part c.loop-n.invariant c.loop-n-test.true c.in-Some.ensures c.left-k.ensures c.if-size-count.true
    c.read_front.ensures

pub loop-n-preserved : goal.loop-n-preserved
loop-n-preserved c =
    read_turn c.loop-n.invariant c.loop-n-test.true c.in-Some.ensures c.left-k.ensures c.if-size-count.false
    c.put_next.ensures

pub returns : goal.returns
returns c = read_at_top c.loop-n.invariant c.loop-n-test.false
