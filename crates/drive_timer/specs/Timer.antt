-- The retransmission timer on the records: what is seen of the timing, when the timer is due, and the sender after a due one.
use Rattle.std.specs.Prelude.{ℕ, ◌≡◌, List, Bool}
use Rattle.model.specs.Lists.{Bytes}
use Rattle.model.specs.Stream as model
use Rattle.model.specs.Driving as drive
use Rattle.records.specs.declared.Timing.{Timing}
use Rattle.records.specs.declared.Sender.{Sender}
use Rattle.records.specs.declared.Stream.{Stream}
use Rattle.records.specs.declared.Totals.{Totals}
use Rattle.records.specs.Seen.{Lent, seen, seen_sender}

-- what is seen of the timing, as in `seen`
abbrev pub timing_seen : Timing → model.Timing
timing_seen t = record { rtt = t.rtt; deadline = t.deadline.0.0 }

-- 01, call 4: "if deadline is at most now and remote acked differs from seq", for any stream with this timing and this sender
pub record IsDue (t : Timing) (clock : ℕ) (s : Sender) (r : Bool) : Type 0 where
  pub test : (st : Stream) (totals : Totals) (l : Lent) → st.timing ≡ t → st.sender ≡ s → r ≡ drive.due clock (seen st totals l)

-- 01, call 4: "the window becomes max(1,400, half)"
pub record Shrinks (s r : Sender) : Type 0 where
  pub seen : (sent : List ℕ) (outgoing : Bytes) → seen_sender r sent outgoing ≡ drive.shrunk (seen_sender s sent outgoing)
