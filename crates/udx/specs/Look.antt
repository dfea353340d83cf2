-- Look on the records: nothing if they are not laid out, else what the model shows.
use Rattle.std.specs.Prelude.{[], cond}
use Rattle.model.specs.Lists.{Bytes}
use Rattle.model.specs.Driving.{look}
use Rattle.records.specs.declared.Stream.{Stream}
use Rattle.records.specs.declared.Totals.{Totals}
use Rattle.records.specs.Seen.{Lent, seen}
use Rattle.udx.specs.Agree.{laid_out}

unfoldable pub shown_of : Stream → Totals → Lent → Bytes
shown_of s t l = cond (laid_out s l) (look (seen s t l)) []
