-- How a drive starts and finishes on the records: whether anything is stored, whether a stream with an error is drained, and the queue that
-- the drive leaves.
use Rattle.std.specs.Prelude.{ℕ, ◌-◌, ◌≤◌, ◌≡◌, List, Bool, length, Option}
use Rattle.error.specs.declared.UdxError.{UdxError}
use Rattle.model.specs.Lists.{Bytes}
use Rattle.model.specs.Driving as drive
use Rattle.records.specs.declared.Sender.{Sender}
use Rattle.records.specs.declared.Queue.{Queue}
use Rattle.records.specs.declared.Stream.{Stream}
use Rattle.records.specs.declared.Totals.{Totals}
use Rattle.records.specs.Seen.{Lent, seen, seen_outgoing, QueueFormed}
use Rattle.records.specs.Setters.{with_queue}

-- whether one of the numbers is stored
pub record AnyStored (s : Sender) (sent : List ℕ) (r : Bool) : Type 0 where
  pub found : (outgoing : Bytes)
      → r ≡ drive.any_stored (s.seq - s.remote_acked) s.remote_acked (seen_outgoing s.remote_acked s.seq sent outgoing)

-- closed_and_drained. 01, call 4: "an error is set and queue and outgoing store are empty", for any stream with these numbers and words
pub record Drains (error : Option UdxError) (q : Queue) (s : Sender) (sent : List ℕ) (r : Bool) : Type 0 where
  pub test : (st : Stream) (t : Totals) (l : Lent) → st.ending.error ≡ error → st.queue ≡ q → st.sender ≡ s → l.sent ≡ sent → length l.queue ≡ 128
      → r ≡ drive.drained (seen st t l)

-- 01, 'Records', stream: "how many queue entries that drive left to take"; call 5: "what was queued since waits for the next drive"
pub record LeavesToTake (q r : Queue) : Type 0 where
  pub end : (st : Stream) (t : Totals) (l : Lent) → q.count ≤ length l.queue → seen (with_queue r st) t l ≡ drive.left_to_take (seen (with_queue q st) t l)
  pub formed : (queue : List ℕ) → QueueFormed q queue → QueueFormed r queue
