-- A stream, or what is lent to its calls, with one part replaced.
use Rattle.std.specs.Prelude.{ℕ, List}
use Rattle.records.specs.declared.Queue.{Queue}
use Rattle.records.specs.declared.Stream.{Stream}
use Rattle.records.specs.Seen.{Lent}

-- with another queue
abbrev pub with_queue : Queue → Stream → Stream
with_queue q s =
    record {
      ids = s.ids;
      sender = s.sender;
      receiver = s.receiver;
      queue = q;
      timing = s.timing;
      ending = s.ending;
      clocks = s.clocks;
    }

-- with other words for the stored packets
abbrev pub with_words : List ℕ → Lent → Lent
with_words sent l = record { sent = sent; held = l.held; queue = l.queue; outgoing = l.outgoing; incoming = l.incoming; headers = l.headers }
