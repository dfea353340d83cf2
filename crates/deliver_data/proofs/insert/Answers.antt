-- `deliver_data::insert` meets its contract: the gap's words are cleared, the packet's word and bytes are put, and top passes its number.
-- One law combines what the calls ensure.
use borrow.Author.Rules.{rules}
use Rattle.deliver_data.proofs.AbsorbLaws.{inserts}
use Rattle.deliver_data.proofs.insert.Goals as goal

pub returns : goal.returns
returns c =
    inserts c.requires.0
    c.requires.1
    c.clear_gap.ensures
    (search rules)
    c.put_held.ensures
    c.put_payload.ensures
    c.max.ensures
