-- `close_state::send_state_packet` meets its contract: each part is what one callee ensures, for the header and the entry just made; what
-- is then seen is a law over these parts.
use Rattle.std.proofs.Common.{rules}
use Rattle.close_state.proofs.StatePacket.{state_queued}
use Rattle.close_state.proofs.send_state_packet.Goals as goal

pub returns : goal.returns
returns c =
    state_queued _ _ _ c.requires (search rules) _ _ _ _ _ _ _ _ c.pushed_state.ensures c.counted_state.ensures
    c.put_entry.ensures (rw c.state_header-h.ensures at c.put_header.ensures)
