-- What a due timer does to the stored packets of the records: it agrees with the model's loop on what is seen.
use Rattle.std.specs.Prelude.{ℕ, ◌+◌, ◌-◌, ◌≡◌, List, true}
use Rattle.model.specs.Driving as drive
use Rattle.records_words.specs.declared.Sent.{Sent}
use Rattle.records.specs.declared.Sender.{Sender}
use Rattle.records.specs.declared.Stream.{Stream}
use Rattle.records.specs.declared.Totals.{Totals}
use Rattle.records.specs.Seen.{Lent, seen}
use Rattle.records.specs.Setters.{with_words}
use Rattle.drive_lost.specs.declared.timeouts.Passed.{Passed}
use Rattle.drive_lost.specs.Packets.{AllSentBounds, with_inflight, with_sender}

-- 01, call 4: "gains a transmit, waits"
abbrev pub lost_packet : Sent → Sent
lost_packet p =
    record { number = p.number; length = p.length; transmits = p.transmits + 1; waiting = true; sent_at = p.sent_at }

-- 01, call 4: "each stored packet not waiting, ascending, fails with TimedOut if transmits exceeds 5, else gains a transmit, waits and
-- leaves inflight" (the loop of poll_check_timeouts)
pub record TimesOutPackets (s : Sender) (sent : List ℕ) (r : Passed) (sent' : List ℕ) : Type 0 where
  -- for any stream with this sender and these words, the end and whether a packet failed are the model's
  pub end : (st : Stream) (t : Totals) (l : Lent)
      → record { failed = r.failed; end = seen (with_sender r.sender st) t (with_words sent' l) }
      ≡ drive.time_out_loop (s.seq - s.remote_acked) s.remote_acked (seen (with_sender s st) t (with_words sent l))
  -- only inflight differs
  pub numbers : r.sender ≡ with_inflight r.sender.inflight s
  -- the stored packets stay within their bounds
  pub stored : AllSentBounds r.sender sent'
