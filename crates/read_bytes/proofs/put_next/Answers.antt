-- `read_bytes::put_next` meets its contract: the store's bytes from the packet's read offset on are those left to read.
use Rattle.read_bytes.proofs.ReadLaws.{next_put}
use Rattle.read_bytes.proofs.put_next.Goals as goal

pub returns : goal.returns
returns c =
    next_put c.requires c.payload_bytes-bytes.ensures
    c.put_at.ensures
