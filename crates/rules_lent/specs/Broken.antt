-- Refusal 1, over everything that a call is lent.
use Rattle.std.specs.Prelude.{ℕ, Bool, ◌||◌, not, List}
use Rattle.records.specs.declared.Stream.{Stream}
use Rattle.records.specs.declared.Totals.{Totals}
use Rattle.records.specs.Seen.{Lent}
use Rattle.records.specs.Open.{stores_test}
use Rattle.rules_stream.specs.Ok.{ok_stream}

-- the words and the stores that a call is lent
abbrev pub lent : (sent held queue outgoing incoming headers : List ℕ) → Lent
lent sent held queue outgoing incoming headers =
    record { sent = sent; held = held; queue = queue; outgoing = outgoing; incoming = incoming; headers = headers }

-- 01, refusal 1: "A lent store has another length than above, or a rule of the records is broken"
unfoldable pub broken_records : Stream → Totals → Lent → Bool
broken_records s t l = stores_test l.outgoing l.incoming l.headers || not (ok_stream s t l.sent l.held l.queue)
