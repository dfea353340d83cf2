-- `close_state::terminate` meets its contract: the law of `terminate`.
use Rattle.close_state.proofs.StatePacket.{terminates}
use Rattle.close_state.proofs.terminate.Goals as goal

pub returns : goal.returns
returns c = terminates _ _ _ _ _ c.terminated-ending.result c.terminated-ending.ensures c.send_state_packet-k.ensures
