-- `take_next::to_transmit` meets its contract. The loop's invariant (`Going`): after i entries the buffer has their datagrams, and their
-- packets are marked.
use borrow.Author.Rules.{rules}
use Rattle.take_next.proofs.TakeSome.{starts, next_kept, again}
use Rattle.take_next.proofs.TakeModel.{ends}
use Rattle.take_next.proofs.to_transmit.Goals as goal

pub loop-i-init : goal.loop-i-init
loop-i-init c = starts c.requires (search rules) (search rules)

pub transmit-p-requires : goal.transmit-p-requires
transmit-p-requires c = rw c.left_entry-x.ensures (next_kept c.loop-i.invariant c.loop-i-test.true)

pub loop-i-preserved : goal.loop-i-preserved
loop-i-preserved c =
    again c.loop-i.invariant c.loop-i-test.true (rw c.left_entry-x.ensures at c.transmit-p.ensures) c.transmit-p.auto.buf

pub returns : goal.returns
returns c = ends c.loop-i.invariant c.loop-i-test.false
