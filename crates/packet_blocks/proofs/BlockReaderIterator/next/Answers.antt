-- `BlockReader`'s `next` meets its contract: it reads what `read_from` reads, and fewer blocks are left after each.
use mathlib.Core.Path.{refl}
use Rattle.packet_blocks.proofs.Reader.{left_fewer}
use Rattle.packet_blocks.proofs.BlockReaderIterator.next.Goals as goal

pub returns-clause-goes : goal.returns-clause-goes
returns-clause-goes c = left_fewer _ (record { read = c.read_from-next.ensures; payload = refl })
