-- `udx::read::read` meets its contract: refusal 1, else what is held in order.
use Rattle.udx.proofs.ReadLaws.{read_refused, read_readable, read_gives}
use Rattle.udx.proofs.read.read.Goals as goal

pub returns-then-broken : goal.returns-then-broken
returns-then-broken c = search read_refused

pub read_next-a-requires : goal.read_next-a-requires
read_next-a-requires c = search read_readable

pub returns : goal.returns
returns c = search read_gives
