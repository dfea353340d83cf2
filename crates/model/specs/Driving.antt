-- What goes out: settling, timeouts, flushing, and the calls drive, take and look.
use Rattle.std.specs.Prelude.{ℕ, zero, suc, ◌+◌, ◌-◌, ◌*◌, min, List, [], ◌∷◌, ◌++◌, Bool, true, false, cond, ◌&&◌, not, ltb, leb, eqb, length, Ok}
use Rattle.std.proofs.Math.Option.{Option, none, some}
use Rattle.error.specs.declared.UdxError.TheVariants as error
use Rattle.error.specs.declared.Refusal.{Refusal}
use Rattle.error.specs.declared.Refusal.TheVariants as refusal
use Rattle.error.specs.declared.Outcome.TheVariants.{Ready, Done, Nothing}
use Rattle.rtt.specs.Window.{halved}
use Rattle.model.specs.Lists.{Bytes, joined, cut, is_empty, on}
use Rattle.model.specs.Slots.{Slots, get, insert}
use Rattle.model.specs.Stream.{Marks, Packet, Entry, state, packet, Sender, Timing, End, with_sender, with_queue, with_timing, with_ending, with_clocks}
use Rattle.model.specs.Answers.{Test, first, Answer, answered, gate}
use Rattle.model.specs.Rules.{rules}
use Rattle.model.specs.Sending.{is_set, pushed, terminate}
use Rattle.model.specs.Receiving.{ack_number, bad_clock}

-- settling: handle_incoming_max_remote_ack

-- remote_acked += 1
abbrev pub settled : Sender → Sender
settled s = record { seq = s.seq; remote_acked = suc s.remote_acked; largest_ack = s.largest_ack; inflight = s.inflight; cwnd = s.cwnd; outgoing = s.outgoing }

-- the lowest number leaves, and remote acked moves past it
abbrev pub settle_one : ℕ → End → End
settle_one clock e = let x = ack_number clock e.sender.remote_acked e in with_sender (settled x.sender) x

-- 01, call 4: "settle the largest ack in ascending order": `count` numbers
unfoldable pub settle_loop : (clock count : ℕ) → End → End
settle_loop clock zero e = e
settle_loop clock (suc k) e = settle_loop clock k (settle_one clock e)

-- resets the largest ack
abbrev pub no_ack : Sender → Sender
no_ack s = record { seq = s.seq; remote_acked = s.remote_acked; largest_ack = 0; inflight = s.inflight; cwnd = s.cwnd; outgoing = s.outgoing }

-- "and if it moved, deadline = now + rto"
unfoldable pub restarted : ℕ → Bool → Timing → Timing
restarted clock moved t = cond moved (record { rtt = t.rtt; deadline = clock + t.rtt.rto.0 }) t

unfoldable pub settle : ℕ → End → End
settle clock e =
    let x = settle_loop clock (e.sender.largest_ack - e.sender.remote_acked) e in
    with_timing (restarted clock (ltb e.sender.remote_acked e.sender.largest_ack) x.timing) (with_sender (no_ack x.sender) x)

-- timeouts: poll_check_timeouts

-- 01, call 4: "if deadline is at most now and remote acked differs from seq"
unfoldable pub due : ℕ → End → Bool
due clock e = leb e.timing.deadline clock && not (eqb e.sender.remote_acked e.sender.seq)

-- "deadline = now + 2 × rto, the window becomes max(1,400, half)"
unfoldable pub backed_off : ℕ → Timing → Timing
backed_off clock t = record { rtt = t.rtt; deadline = clock + 2 * t.rtt.rto.0 }

abbrev pub shrunk : Sender → Sender
shrunk s = record { seq = s.seq; remote_acked = s.remote_acked; largest_ack = s.largest_ack; inflight = s.inflight; cwnd = halved s.cwnd; outgoing = s.outgoing }

-- "gains a transmit, waits and leaves inflight"
abbrev pub lost_marks : Marks → Marks
lost_marks m = record { waiting = true; transmits = suc m.transmits; sent = m.sent }

-- a packet with other marks
abbrev pub marked : (Marks → Marks) → Packet → Packet
marked f p = record { bytes = p.bytes; marks = f p.marks }

-- gives packet n, which is p, other marks, and the sender another inflight
abbrev pub remarked : (n inflight : ℕ) → (Marks → Marks) → Packet → Sender → Sender
remarked n inflight f p s =
    record { seq = s.seq; remote_acked = s.remote_acked; largest_ack = s.largest_ack; inflight = inflight; cwnd = s.cwnd; outgoing = insert s.outgoing n (marked f p) }

abbrev pub lost : ℕ → Packet → End → End
lost n p e = with_sender (remarked n (e.sender.inflight - length p.bytes) lost_marks p e.sender) e

-- the end after a pass over the stored packets, and whether one of them failed
pub record Passed : Type 0 where
  pub failed : Bool
  pub end : End

-- "each stored packet not waiting, ascending, fails with TimedOut if transmits exceeds 5, else gains a transmit, waits and leaves
-- inflight"
unfoldable pub time_out_packet : ℕ → Packet → End → Passed
time_out_packet n p e =
    cond p.marks.waiting
    (record { failed = false; end = e })
    (cond (ltb 5 p.marks.transmits) (record { failed = true; end = e }) (record { failed = false; end = lost n p e }))

abbrev pub time_out_number : ℕ → End → Passed
time_out_number n e = on (get e.sender.outgoing n) (record { failed = false; end = e }) (λ p. time_out_packet n p e)

unfoldable pub time_out_loop : (count n : ℕ) → End → Passed
time_out_loop zero n e = record { failed = false; end = e }
time_out_loop (suc k) n e =
    let t = time_out_number n e in
    let r = time_out_loop k (suc n) t.end in
    cond t.failed t r

-- "TimedOut terminates as in terminate": packets marked before the one that failed stay marked
abbrev pub time_out_end : Passed → End
time_out_end t = cond t.failed (terminate error.TimedOut t.end) t.end

abbrev pub due_end : ℕ → End → End
due_end clock e = with_timing (backed_off clock e.timing) (with_sender (shrunk e.sender) e)

unfoldable pub check_timeouts : ℕ → End → End
check_timeouts clock e =
    cond (due clock e)
    (time_out_end (time_out_loop (e.sender.seq - e.sender.remote_acked) e.sender.remote_acked (due_end clock e)))
    e

-- flushing: flush_waiting_packets

abbrev pub flushed_marks : Marks → Marks
flushed_marks m = record { waiting = false; transmits = m.transmits; sent = m.sent }

-- the packet stops waiting, counts as inflight and is queued
abbrev pub flushed : ℕ → Packet → End → End
flushed n p e =
    with_queue (pushed (packet n (length p.bytes)) e.queue)
    (with_sender (remarked n (e.sender.inflight + length p.bytes) flushed_marks p e.sender) e)

-- "until inflight + length exceeds the window"
unfoldable pub fits : Packet → Sender → Bool
fits p s = leb (s.inflight + length p.bytes) s.cwnd

-- 01, call 4: "waiting packets are queued ascending until inflight + length exceeds the window"
unfoldable pub flush_loop : (count n : ℕ) → End → End
flush_loop zero n e = e
flush_loop (suc k) n e =
    on (get e.sender.outgoing n) (flush_loop k (suc n) e)
    (λ p. cond p.marks.waiting (cond (fits p e.sender) (flush_loop k (suc n) (flushed n p e)) e) (flush_loop k (suc n) e))

unfoldable pub flush : End → End
flush e = flush_loop (e.sender.seq - e.sender.remote_acked) e.sender.remote_acked e

-- drive

-- one of `count` numbers from n on is stored
unfoldable pub any_stored : (count n : ℕ) → Slots Packet → Bool
any_stored zero n s = false
any_stored (suc k) n s = on (get s n) (any_stored k (suc n) s) (λ p. true)

-- closed_and_drained. 01, call 4: "an error is set and queue and outgoing store are empty"
unfoldable pub drained : End → Bool
drained e =
    is_set e.ending.error
    && (is_empty e.queue.entries
    && not (any_stored (e.sender.seq - e.sender.remote_acked) e.sender.remote_acked e.sender.outgoing))

-- refusals 1, 4, 5, 6 of a drive
abbrev pub drive_tests : ℕ → End → List Test
drive_tests clock e =
    record { holds = not (rules e); refusal = refusal.BrokenRecords }
    ∷ record { holds = bad_clock clock e; refusal = refusal.BadClock }
    ∷ record { holds = e.ending.ended; refusal = refusal.AfterDone }
    ∷ record { holds = ltb 0 e.queue.left; refusal = refusal.BatchesLeft }
    ∷ []

unfoldable pub drive_refusal : ℕ → End → Option Refusal
drive_refusal clock e = first (drive_tests clock e)

-- an accepted drive, done or not, sets both clocks
abbrev pub drive_clock : ℕ → End → End
drive_clock clock e = with_clocks (record { last = clock; drive = clock }) e

-- "the answer is done and the stream has ended"
abbrev pub ended : End → End
ended e = with_ending (record { error = e.ending.error; state = e.ending.state; ended = true }) e

-- leaves the whole queue to take
abbrev pub left_to_take : End → End
left_to_take e = with_queue (record { entries = e.queue.entries; left = length e.queue.entries }) e

-- poll_drive; after TimedOut the poll runs again at that clock: nothing is left to settle and nothing is due, so it only flushes
unfoldable pub poll_drive : ℕ → End → End
poll_drive clock e = left_to_take (flush (check_timeouts clock (settle clock (drive_clock clock e))))

-- 01, call 4 (poll_drive)
unfoldable pub drive : ℕ → End → Answer
drive clock e =
    gate (drive_refusal clock e) e (cond (drained e) (answered Done (ended (drive_clock clock e))) (answered Ready (poll_drive clock e)))

-- take: poll_transmit, to_transmit

abbrev pub entry_length : Entry → ℕ
entry_length (state b) = length b
entry_length (packet n l) = l

abbrev pub head_length : List Entry → ℕ
head_length [] = 0
head_length (x ∷ q) = entry_length x

-- how many of the first k entries have length l, up to the first that does not
unfoldable pub same_length : (k l : ℕ) → List Entry → ℕ
same_length zero l q = 0
same_length (suc k) l [] = 0
same_length (suc k) l (x ∷ q) = cond (eqb (entry_length x) l) (suc (same_length k l q)) 0

-- 01, call 5: "the next batch, at most the ceiling of equal-length entries"
unfoldable pub batch : End → ℕ
batch e = same_length (min e.ids.segments e.queue.left) (head_length e.queue.entries) e.queue.entries

-- "time sent = clock of that drive and one transmit more"
abbrev pub taken_marks : ℕ → Marks → Marks
taken_marks clock m = record { waiting = m.waiting; transmits = suc m.transmits; sent = some clock }

-- the datagrams of some entries, and the end after them
pub record Taken : Type 0 where
  pub datagrams : List Bytes
  pub end : End

-- "An entry whose packet has left the store counts but writes nothing."
unfoldable pub take_entry : Entry → End → Taken
take_entry (state b) e = record { datagrams = b ∷ []; end = e }
take_entry (packet n l) e =
    on (get e.sender.outgoing n) (record { datagrams = []; end = e })
    (λ p. record { datagrams = p.bytes ∷ []; end = with_sender (remarked n e.sender.inflight (taken_marks e.clocks.drive) p e.sender) e })

-- the queue after some of its entries were taken
abbrev pub with_entries : List Entry → End → End
with_entries q e = with_queue (record { entries = q; left = e.queue.left }) e

unfoldable pub take_loop : ℕ → List Entry → End → Taken
take_loop zero q e = record { datagrams = []; end = with_entries q e }
take_loop (suc k) [] e = record { datagrams = []; end = with_entries [] e }
take_loop (suc k) (x ∷ q) e =
    let t = take_entry x e in
    let r = take_loop k q t.end in
    record { datagrams = t.datagrams ++ r.datagrams; end = r.end }

-- refusals 1 and 2 of a take
abbrev pub take_tests : ℕ → End → List Test
take_tests room e =
    record { holds = not (rules e); refusal = refusal.BrokenRecords }
    ∷ record { holds = ltb room 14_000; refusal = refusal.ShortBuffer }
    ∷ []

unfoldable pub take_refusal : ℕ → End → Option Refusal
take_refusal room e = first (take_tests room e)

-- "with segment size unless it has one entry"
abbrev pub segment_of : (entries size : ℕ) → Option ℕ
segment_of entries size = cond (eqb entries 1) none (some size)

abbrev pub taken_from : ℕ → End → End
taken_from entries e = with_queue (record { entries = e.queue.entries; left = e.queue.left - entries }) e

abbrev pub take_answer : Taken → End → Answer
take_answer t e =
    record {
      outcome = Ok Ready;
      count = length (joined t.datagrams);
      bytes = joined t.datagrams;
      segment = segment_of (batch e) (head_length e.queue.entries);
      end = taken_from (batch e) t.end;
    }

-- 01, call 5: "None when no batch of the last drive is left; what was queued since waits for the next drive."
unfoldable pub take : ℕ → End → Answer
take room e =
    gate (take_refusal room e) e
    (cond (ltb 0 e.queue.left) (take_answer (take_loop (batch e) e.queue.entries e) e) (answered Nothing e))

-- 01, call 5: "A batch's datagrams are its pieces of segment size, or all of it where it has none; an empty batch has no
-- datagram"
abbrev pub whole : Bytes → List Bytes
whole [] = []
whole (b ∷ bytes) = (b ∷ bytes) ∷ []

abbrev pub datagrams_of : Option ℕ → Bytes → List Bytes
datagrams_of none bytes = whole bytes
datagrams_of (some size) bytes = cut (length bytes) size bytes

-- look

-- the first entry whose packet is there
abbrev pub first_there : Slots Packet → List Entry → Bytes
first_there outgoing [] = []
first_there outgoing (state b ∷ q) = b
first_there outgoing (packet n l ∷ q) = on (get outgoing n) (first_there outgoing q) (λ p. p.bytes)

-- 01, 'Added by design': "look, in which the next datagram (first entry left to take whose packet is there) is shown .., an empty
-- part when nothing is left to take and also in place of refusal 1"
unfoldable pub look : End → Bytes
look e = cond (rules e && ltb 0 e.queue.left) (first_there e.sender.outgoing e.queue.entries) []
