-- Examples computed from the definitions: 01's example session, a packet's way out with its ack's way back, a packet that is resent, one
-- that is never acknowledged, 01's traps, and other steps that are easily off by one. A wrong definition of one of these steps fails here,
-- whatever the proofs about all runs say. Statements only: proofs/Examples.antt computes them.
use Rattle.error.specs.declared.Refusal.{Refusal}
use Rattle.std.specs.Prelude.{ℕ, ◌≡◌, List, [], ◌∷◌, map, false, length, replicate, Result, Ok, Err, None, Some}
use Rattle.std.proofs.Math.Option.{none, some}
use Rattle.error.specs.declared.UdxError.TheVariants as error
use Rattle.error.specs.declared.Refusal.TheVariants as refusal
use Rattle.error.specs.declared.Outcome.{Outcome}
use Rattle.error.specs.declared.Outcome.TheVariants.{Ready, Waiting, Done, Nothing}
use Rattle.model.specs.Lists.{Bytes, on}
use Rattle.model.specs.Slots.{no_slots, get}
use Rattle.model.specs.Stream.{packet, local_closed, both_closed, Sender, Totals, End, fresh, with_sender, with_totals}
use Rattle.model.specs.Answers.{Answer}
use Rattle.model.specs.Sending.{open_refusal}
use Rattle.model.specs.Driving.{look}
use Rattle.model.specs.Calls.{Call, write_call, deliver_call, drive_call, take_call, read_call, close_call, answer, after}

-- a line of the session: outcome, count and bytes read
pub record SessionLine : Type 0 where
  pub outcome : Result Outcome Refusal
  pub count : ℕ
  pub bytes : Bytes

abbrev line : Result Outcome Refusal → ℕ → Bytes → SessionLine
line o n bytes = record { outcome = o; count = n; bytes = bytes }

abbrev line_of : Answer → SessionLine
line_of a = line a.outcome a.count a.bytes

abbrev pub aaa : Bytes
aaa = 65 ∷ 65 ∷ 65 ∷ []

abbrev bcd : Bytes
bcd = 66 ∷ 67 ∷ 68 ∷ []

-- a datagram with this type, stream, seq and ack, each below 256
abbrev datagram_of : (typ stream seq ack : ℕ) → Bytes → Bytes
datagram_of typ stream seq ack payload =
    255 ∷ 1 ∷ typ ∷ 0 ∷ stream ∷ 0 ∷ 0 ∷ 0 ∷ 255 ∷ 255 ∷ 255 ∷ 255 ∷ seq ∷ 0 ∷ 0 ∷ 0 ∷ ack ∷ 0 ∷ 0 ∷ 0 ∷ payload

-- DATA number n for stream 2
abbrev data_of : ℕ → Bytes → Bytes
data_of n payload = datagram_of 1 2 n 0 payload

-- the example's datagram
abbrev pub datagram : Bytes
datagram = data_of 0 aaa

-- a state packet for stream 1 with this ack
abbrev ack_of : ℕ → Bytes
ack_of n = datagram_of 0 1 0 n []

-- a state packet with END
abbrev end_of : ℕ → Bytes
end_of stream = datagram_of 2 stream 0 0 []

-- a state packet for stream 1 with one SACK block, from 1 to below 2
abbrev sack : Bytes
sack = datagram_of 4 1 0 0 (1 ∷ 0 ∷ 0 ∷ 0 ∷ 2 ∷ 0 ∷ 0 ∷ 0 ∷ 0 ∷ [])

-- the lines of a list of calls, each run on the end that the one before it left
abbrev lines_of : List Call → End → List SessionLine
lines_of [] e = []
lines_of (c ∷ cs) e = let a = answer c e in line_of a ∷ lines_of cs a.end

abbrev outcome_of : SessionLine → Result Outcome Refusal
outcome_of l = l.outcome

-- all four running totals at 2^64 - 1
abbrev nearly_wrapped : Totals
nearly_wrapped =
    record {
      tx_packets = 18_446_744_073_709_551_615;
      tx_bytes = 18_446_744_073_709_551_615;
      rx_packets = 18_446_744_073_709_551_615;
      rx_bytes = 18_446_744_073_709_551_615;
      inflight_packets = 0;
      inflight_bytes = 0;
    }

-- only one more packet can have a number
abbrev before_last : Sender
before_last = record { seq = 4_294_967_294; remote_acked = 4_294_967_294; largest_ack = 0; inflight = 0; cwnd = 2_800; outgoing = no_slots }

abbrev count_of : SessionLine → ℕ
count_of l = l.count

-- the length of a stored packet, or 0 if there is none; below, those of packets 0, 1 and 2
abbrev stored_length : End → ℕ → ℕ
stored_length e n = on (get e.sender.outgoing n) 0 (λ p. length p.bytes)

abbrev stored_lengths : End → List ℕ
stored_lengths e = stored_length e 0 ∷ stored_length e 1 ∷ stored_length e 2 ∷ []

-- a sender's remote acked, inflight, window, estimate, deadline and totals
abbrev numbers_of : End → List ℕ
numbers_of e =
    e.sender.remote_acked
    ∷ e.sender.inflight
    ∷ e.sender.cwnd
    ∷ e.timing.rtt.srtt.0
    ∷ e.timing.rtt.rto.0
    ∷ e.timing.deadline
    ∷ e.totals.tx_packets
    ∷ e.totals.tx_bytes
    ∷ e.totals.rx_packets
    ∷ e.totals.rx_bytes
    ∷ e.totals.inflight_packets
    ∷ e.totals.inflight_bytes
    ∷ []

abbrev acks_of : End → List ℕ
acks_of e = e.sender.remote_acked ∷ e.sender.largest_ack ∷ []

-- the transmits of packet 0, or 0 if it is not stored
abbrev transmits_of : End → ℕ
transmits_of e = on (get e.sender.outgoing 0) 0 (λ p. p.marks.transmits)

-- one packet is written, driven at clock 0 and taken; then come these calls
abbrev taken : List Call → List Call
taken cs = write_call aaa ∷ drive_call 0 ∷ take_call 14_000 ∷ cs

abbrev due_at : ℕ → List Call → List Call
due_at clock cs = drive_call clock ∷ take_call 14_000 ∷ cs

-- The statements. In 01's example session end 0 has id 1 and end 1 has id 2.
pub record Examples : Type 0 where
  -- "write 0 ok 3, drive 0 ok 0, take 0 ok 23, take 0 none 0"
  pub session-sender :
      lines_of (write_call aaa ∷ drive_call 0 ∷ take_call 14_000 ∷ take_call 14_000 ∷ []) (fresh 1 2 10 0)
      ≡ line (Ok Ready) 3 [] ∷ line (Ok Ready) 0 [] ∷ line (Ok Ready) 23 datagram ∷ line (Ok Nothing) 0 [] ∷ []
  -- "hand 1 ok 0, read 1 ok 3 414141, read 1 wait 0 -, close 1 ok 0"
  pub session-receiver :
      lines_of (deliver_call datagram 5 ∷ read_call 8 ∷ read_call 8 ∷ close_call ∷ []) (fresh 2 1 10 0)
      ≡ line (Ok Ready) 0 [] ∷ line (Ok Ready) 3 aaa ∷ line (Ok Waiting) 0 [] ∷ line (Ok Ready) 0 [] ∷ []
  -- the receiver's state packet, once it is driven and taken
  pub acknowledged :
      lines_of (deliver_call datagram 5 ∷ drive_call 5 ∷ take_call 14_000 ∷ []) (fresh 2 1 10 0)
      ≡ line (Ok Ready) 0 [] ∷ line (Ok Ready) 0 [] ∷ line (Ok Ready) 20 (ack_of 1) ∷ []
  -- the ack comes back after 400 ms: one sample of 400 ms, so rto = 400 + 4 × 200 ms; the window has grown once
  pub settled-once :
      numbers_of (after (write_call aaa ∷ drive_call 0 ∷ take_call 14_000 ∷ deliver_call (ack_of 1) 400_000_000 ∷ drive_call 400_000_000 ∷ []) (fresh 1 2 10 0))
      ≡ 1 ∷ 0 ∷ 4_200 ∷ 400_000_000 ∷ 1_200_000_000 ∷ 1_600_000_000 ∷ 1 ∷ 3 ∷ 1 ∷ 0 ∷ 0 ∷ 0 ∷ []
  -- the packet is due at 1,000 ms and goes again, so its ack gives no sample; the window was halved to 1,400 and has grown once
  pub resent-no-sample :
      numbers_of
      (after
      (write_call aaa
      ∷ drive_call 0
      ∷ take_call 14_000
      ∷ drive_call 1_000_000_000
      ∷ take_call 14_000
      ∷ deliver_call (ack_of 1) 1_400_000_000
      ∷ drive_call 1_400_000_000
      ∷ [])
      (fresh 1 2 10 0))
      ≡ 1 ∷ 0 ∷ 2_800 ∷ 0 ∷ 1_000_000_000 ∷ 2_400_000_000 ∷ 1 ∷ 3 ∷ 1 ∷ 0 ∷ 0 ∷ 0 ∷ []
  -- "A packet taken after every drive and never acked: due drives find transmits 1, 3, 5, 7"
  pub never-acked :
      transmits_of (after (taken []) (fresh 1 2 10 0))
      ∷ transmits_of (after (taken (due_at 1_000_000_000 [])) (fresh 1 2 10 0))
      ∷ transmits_of (after (taken (due_at 1_000_000_000 (due_at 3_000_000_000 []))) (fresh 1 2 10 0))
      ∷ transmits_of (after (taken (due_at 1_000_000_000 (due_at 3_000_000_000 (due_at 5_000_000_000 [])))) (fresh 1 2 10 0))
      ∷ []
      ≡ 1 ∷ 3 ∷ 5 ∷ 7 ∷ []
  -- "the fourth fails", and not the third
  pub third-goes :
      (after (taken (due_at 1_000_000_000 (due_at 3_000_000_000 (due_at 5_000_000_000 [])))) (fresh 1 2 10 0)).ending.error ≡ None
  pub fourth-fails :
      (after (taken (due_at 1_000_000_000 (due_at 3_000_000_000 (due_at 5_000_000_000 (drive_call 7_000_000_000 ∷ []))))) (fresh 1 2 10 0)).ending.error ≡ Some error.TimedOut
  -- "a packet longer than what remains of the buffer gives its front part and ends the read"; the next read continues there
  pub front-first :
      lines_of (deliver_call (data_of 0 bcd) 5 ∷ read_call 2 ∷ read_call 2 ∷ []) (fresh 2 1 10 0)
      ≡ line (Ok Ready) 0 [] ∷ line (Ok Waiting) 2 (66 ∷ 67 ∷ []) ∷ line (Ok Ready) 1 (68 ∷ []) ∷ []
  -- a delivered ack becomes the largest ack; it moves remote acked at the next drive, not before
  pub settled-by-drive :
      acks_of (after (taken (deliver_call (ack_of 1) 5 ∷ [])) (fresh 1 2 10 0))
      ∷ acks_of (after (taken (deliver_call (ack_of 1) 5 ∷ drive_call 5 ∷ [])) (fresh 1 2 10 0))
      ∷ []
      ≡ (0 ∷ 1 ∷ []) ∷ (1 ∷ 0 ∷ []) ∷ []
  -- "ack moves past all held in order": DATA 1 alone leaves a gap, which DATA 0 closes
  pub gap-closed :
      (after (deliver_call (data_of 1 aaa) 5 ∷ []) (fresh 2 1 10 0)).receiver.ack
      ∷ (after (deliver_call (data_of 0 aaa) 5 ∷ []) (fresh 2 1 10 0)).receiver.ack
      ∷ (after (deliver_call (data_of 1 aaa) 5 ∷ deliver_call (data_of 0 aaa) 5 ∷ []) (fresh 2 1 10 0)).receiver.ack
      ∷ []
      ≡ 0 ∷ 1 ∷ 2 ∷ []
  -- "a repeat replaces" at or past ack; below ack it is not held
  pub repeat-replaces :
      lines_of (deliver_call (data_of 1 aaa) 5 ∷ deliver_call (data_of 1 bcd) 5 ∷ deliver_call (data_of 0 []) 5 ∷ read_call 8 ∷ []) (fresh 2 1 10 0)
      ≡ line (Ok Ready) 0 [] ∷ line (Ok Ready) 0 [] ∷ line (Ok Ready) 0 [] ∷ line (Ok Ready) 3 bcd ∷ []
  pub old-not-held :
      lines_of (deliver_call (data_of 0 aaa) 5 ∷ deliver_call (data_of 0 bcd) 5 ∷ read_call 8 ∷ []) (fresh 2 1 10 0)
      ≡ line (Ok Ready) 0 [] ∷ line (Ok Ready) 0 [] ∷ line (Ok Ready) 3 aaa ∷ []
  -- "received counts every delivery and every DATA payload, repeats too"; each was answered with a state packet
  pub repeats-counted :
      (let t = (after (deliver_call (data_of 0 aaa) 5 ∷ deliver_call (data_of 0 bcd) 5 ∷ []) (fresh 2 1 10 0)).totals in
      t.rx_packets ∷ t.rx_bytes ∷ t.tx_packets ∷ t.tx_bytes ∷ [])
      ≡ 2 ∷ 6 ∷ 2 ∷ 0 ∷ []
  -- "end excluded": of three packets the block takes number 1
  pub block-ends :
      stored_lengths (after (write_call aaa ∷ write_call aaa ∷ write_call aaa ∷ deliver_call sack 5 ∷ []) (fresh 1 2 10 0)) ≡ 23 ∷ 0 ∷ 23 ∷ []
  -- "An entry whose packet has left the store counts but writes nothing": the ack came before the packet was taken
  pub settled-entry :
      lines_of (write_call aaa ∷ deliver_call (ack_of 1) 5 ∷ drive_call 5 ∷ take_call 14_000 ∷ take_call 14_000 ∷ []) (fresh 1 2 10 0)
      ≡ line (Ok Ready) 3 [] ∷ line (Ok Ready) 0 [] ∷ line (Ok Ready) 0 [] ∷ line (Ok Ready) 0 [] ∷ line (Ok Nothing) 0 [] ∷ []
  -- "until inflight + length exceeds the window": halved to 1,400, the window still lets a packet of 1,400 bytes go again
  pub fills-window :
      (after (write_call (replicate 1_380 65) ∷ drive_call 0 ∷ take_call 14_000 ∷ drive_call 1_000_000_000 ∷ []) (fresh 1 2 10 0)).queue.entries
      ≡ packet 0 1_400 ∷ []
  -- flushing stops at the first packet that does not fit: a shorter one behind it waits
  pub flush_stops :
      (after
      (write_call aaa
      ∷ write_call (replicate 1_380 65)
      ∷ write_call aaa
      ∷ drive_call 0
      ∷ take_call 14_000
      ∷ take_call 14_000
      ∷ take_call 14_000
      ∷ drive_call 1_000_000_000
      ∷ [])
      (fresh 1 2 10 0)).queue.entries
      ≡ packet 0 23 ∷ []
  -- acks that arrive out of order: the larger one is settled, the time sent is the drive's clock and the samples are 400 ms; the window
  -- grew for each ack past remote acked, and not for the one that came after the drive
  pub acks-swapped :
      (let e =
      after
      (write_call aaa
      ∷ write_call aaa
      ∷ drive_call 100_000_000
      ∷ take_call 14_000
      ∷ deliver_call (ack_of 2) 500_000_000
      ∷ deliver_call (ack_of 1) 500_000_000
      ∷ drive_call 500_000_000
      ∷ deliver_call (ack_of 2) 500_000_000
      ∷ [])
      (fresh 1 2 10 0) in
      e.sender.remote_acked ∷ e.sender.cwnd ∷ e.timing.rtt.srtt.0 ∷ [])
      ≡ 2 ∷ 5_600 ∷ 400_000_000 ∷ []
  -- "if deadline is at most now and remote acked differs from seq": the timer is not due if everything is acknowledged
  pub idle_not_due : (after (drive_call 1_000_000_000 ∷ []) (fresh 1 2 10 0)).sender.cwnd ≡ 2_800
  -- "If an error is set and queue and outgoing store are empty, the answer is done": with nothing stored or queued and no error it is ok
  pub idle_drive : lines_of (drive_call 0 ∷ []) (fresh 1 2 10 0) ≡ line (Ok Ready) 0 [] ∷ []
  -- every drive queues the packets that wait, also after earlier ones were acknowledged
  pub queued-again :
      (after
      (write_call aaa
      ∷ write_call bcd
      ∷ drive_call 0
      ∷ take_call 14_000
      ∷ deliver_call (ack_of 1) 5
      ∷ drive_call 5
      ∷ drive_call 1_000_000_005
      ∷ [])
      (fresh 1 2 10 0)).queue.entries
      ≡ packet 1 23 ∷ []
  -- "at most the ceiling of equal-length entries": of 23, 23, 23 and 21 bytes at ceiling 2
  pub batches :
      map count_of
      (lines_of
      (write_call aaa
      ∷ write_call aaa
      ∷ write_call aaa
      ∷ write_call (65 ∷ [])
      ∷ drive_call 0
      ∷ take_call 14_000
      ∷ take_call 14_000
      ∷ take_call 14_000
      ∷ take_call 14_000
      ∷ [])
      (fresh 1 2 2 0))
      ≡ 3 ∷ 3 ∷ 3 ∷ 1 ∷ 0 ∷ 46 ∷ 23 ∷ 21 ∷ 0 ∷ []
  -- look shows the next datagram while it is left to take
  pub looks :
      look (after (write_call aaa ∷ []) (fresh 1 2 10 0))
      ∷ look (after (write_call aaa ∷ drive_call 0 ∷ []) (fresh 1 2 10 0))
      ∷ look (after (taken []) (fresh 1 2 10 0))
      ∷ []
      ≡ [] ∷ datagram ∷ [] ∷ []
  -- END is answered with END; a drive before the delivery's clock is refused; "a read with 14 to 16" meets the error
  pub ended-by-peer :
      lines_of (deliver_call (end_of 2) 5 ∷ read_call 8 ∷ write_call aaa ∷ drive_call 4 ∷ drive_call 5 ∷ take_call 14_000 ∷ []) (fresh 2 1 10 0)
      ≡ line (Ok Ready) 0 []
      ∷ line (Err refusal.UnexpectedEof) 0 []
      ∷ line (Err refusal.UnexpectedEof) 0 []
      ∷ line (Err refusal.BadClock) 0 []
      ∷ line (Ok Ready) 0 []
      ∷ line (Ok Ready) 20 (end_of 1)
      ∷ []
  -- a close, until done and after it
  pub closed-to-done :
      lines_of (close_call ∷ write_call aaa ∷ drive_call 0 ∷ take_call 14_000 ∷ drive_call 0 ∷ drive_call 0 ∷ []) (fresh 1 2 10 0)
      ≡ line (Ok Ready) 0 []
      ∷ line (Err refusal.ConnectionReset) 0 []
      ∷ line (Ok Ready) 0 []
      ∷ line (Ok Ready) 20 (end_of 2)
      ∷ line (Ok Done) 0 []
      ∷ line (Err refusal.AfterDone) 0 []
      ∷ []
  -- "END closes both sides"; a close closes only the local one
  pub sides-closed :
      (after (deliver_call (end_of 2) 5 ∷ []) (fresh 2 1 10 0)).ending.state ∷ (after (close_call ∷ []) (fresh 1 2 10 0)).ending.state ∷ []
      ≡ both_closed ∷ local_closed ∷ []
  -- "END closes both sides" of an end that has closed; a close after END "replaces any earlier error" and reopens no side
  pub closed-and-ended :
      (after (close_call ∷ deliver_call (end_of 1) 5 ∷ []) (fresh 1 2 10 0)).ending
      ∷ (after (deliver_call (end_of 2) 5 ∷ close_call ∷ []) (fresh 2 1 10 0)).ending
      ∷ []
      ≡ record { error = Some error.UnexpectedEof; state = both_closed; ended = false } ∷ record { error = Some error.ConnectionReset; state = both_closed; ended = false } ∷ []
  -- "deadline = now + 2 × rto"
  pub backed-off : (after (taken (drive_call 1_000_000_000 ∷ [])) (fresh 1 2 10 0)).timing.deadline ≡ 3_000_000_000
  -- 'Fresh': "deadline now + rto"
  pub opened_at : (fresh 1 2 10 7).timing.deadline ∷ (fresh 1 2 10 7).clocks.last ∷ (fresh 1 2 10 7).clocks.drive ∷ [] ≡ 1_000_000_007 ∷ 7 ∷ 7 ∷ []
  -- settling comes before the timeouts: an ack that arrives at the deadline prevents one
  pub ack_in_time : (after (taken (deliver_call (ack_of 1) 1_000_000_000 ∷ drive_call 1_000_000_000 ∷ [])) (fresh 1 2 10 0)).sender.cwnd ≡ 4_200
  -- refusals 7 to 10 and 12, and the largest number and payload that are accepted
  pub refused-deliveries :
      map outcome_of
      (lines_of
      (deliver_call (65 ∷ datagram) 5
      ∷ deliver_call (end_of 1) 5
      ∷ deliver_call (datagram_of 0 2 0 0 (replicate 1_381 65)) 5
      ∷ deliver_call (datagram_of 0 2 0 1 []) 5
      ∷ deliver_call (data_of 32 aaa) 5
      ∷ deliver_call (data_of 31 aaa) 5
      ∷ deliver_call (datagram_of 0 2 0 0 (replicate 1_380 65)) 5
      ∷ [])
      (fresh 2 1 10 0))
      ≡ Err refusal.BadHeader
      ∷ Err refusal.OtherStream
      ∷ Err refusal.LongPayload
      ∷ Err refusal.AckPastSeq
      ∷ Err refusal.PastIncoming
      ∷ (Ok Ready)
      ∷ (Ok Ready)
      ∷ []
  -- refusal 5; and the drive that answered done counts as the last clock
  pub after-done :
      map outcome_of
      (lines_of (close_call ∷ drive_call 0 ∷ take_call 14_000 ∷ drive_call 7 ∷ deliver_call (ack_of 0) 7 ∷ close_call ∷ drive_call 6 ∷ []) (fresh 1 2 10 0))
      ≡ Ok Ready ∷ Ok Ready ∷ Ok Ready ∷ Ok Done ∷ Err refusal.AfterDone ∷ Err refusal.AfterDone ∷ Err refusal.BadClock ∷ []
  -- refusal 2 of a take
  pub short_buffer : map outcome_of (lines_of (take_call 13_999 ∷ take_call 14_000 ∷ []) (fresh 1 2 10 0)) ≡ Err refusal.ShortBuffer ∷ Ok Nothing ∷ []
  -- a packet that exactly fits is finished
  pub just_fits : lines_of (deliver_call (data_of 0 aaa) 5 ∷ read_call 3 ∷ []) (fresh 2 1 10 0) ≡ line (Ok Ready) 0 [] ∷ line (Ok Ready) 3 aaa ∷ []
  -- "an empty write with 0"
  pub empty_write : lines_of (write_call [] ∷ []) (fresh 1 2 10 0) ≡ line (Ok Ready) 0 [] ∷ []
  -- look shows the "first entry left to take whose packet is there"
  pub looks_past : look (after (write_call aaa ∷ write_call bcd ∷ deliver_call (ack_of 1) 5 ∷ drive_call 5 ∷ []) (fresh 1 2 10 0)) ≡ data_of 1 bcd
  -- "count; SACK blocks; END; DATA; window": END is answered before its DATA is held
  pub end-before-data :
      lines_of (deliver_call (datagram_of 3 2 0 0 aaa) 5 ∷ drive_call 5 ∷ take_call 14_000 ∷ []) (fresh 2 1 10 0)
      ≡ line (Ok Ready) 0 [] ∷ line (Ok Ready) 0 [] ∷ line (Ok Ready) 40 (datagram_of 2 1 0 0 (datagram_of 2 1 0 1 [])) ∷ []
  -- "with segment size unless it has one entry"
  pub segments :
      (answer (take_call 14_000) (after (write_call aaa ∷ drive_call 0 ∷ []) (fresh 1 2 10 0))).segment
      ∷ (answer (take_call 14_000) (after (write_call aaa ∷ write_call aaa ∷ drive_call 0 ∷ []) (fresh 1 2 10 0))).segment
      ∷ []
      ≡ none ∷ some 23 ∷ []
  -- "The four running totals wrap at 2^64"
  pub totals-wrap :
      (after (deliver_call datagram 5 ∷ []) (with_totals nearly_wrapped (fresh 2 1 10 0))).totals
      ≡ record { tx_packets = 0; tx_bytes = 18_446_744_073_709_551_615; rx_packets = 0; rx_bytes = 2; inflight_packets = 0; inflight_bytes = 0 }
  -- "segment ceiling 1 to 10", and refusal 4 of an open
  pub opens :
      open_refusal 0 0
      ∷ open_refusal 1 0
      ∷ open_refusal 10 0
      ∷ open_refusal 11 0
      ∷ open_refusal 1 1_152_921_504_606_846_975
      ∷ open_refusal 1 1_152_921_504_606_846_976
      ∷ []
      ≡ some refusal.SegmentCeiling ∷ none ∷ none ∷ some refusal.SegmentCeiling ∷ none ∷ some refusal.BadClock ∷ []
  -- 13: "Deliver finds 62 or more state packets queued, or close 63 or more"
  pub state-packets-full :
      map outcome_of
      (lines_of (deliver_call datagram 5 ∷ close_call ∷ close_call ∷ []) (after (replicate 62 (deliver_call datagram 5)) (fresh 2 1 10 0)))
      ≡ Err refusal.StateQueueFull ∷ Ok Ready ∷ Err refusal.StateQueueFull ∷ []
  -- 17: "A write that isn't empty finds seq at 4,294,967,295"
  pub last-number :
      lines_of (write_call aaa ∷ write_call aaa ∷ write_call [] ∷ []) (with_sender before_last (fresh 1 2 10 0))
      ≡ line (Ok Ready) 3 [] ∷ line (Err refusal.SeqExhausted) 0 [] ∷ line (Ok Ready) 0 [] ∷ []
  -- "TimedOut terminates as in terminate": a state packet with END is left to take
  pub failed-with-end :
      (answer (take_call 14_000)
      (after (taken (due_at 1_000_000_000 (due_at 3_000_000_000 (due_at 5_000_000_000 (drive_call 7_000_000_000 ∷ []))))) (fresh 1 2 10 0))).bytes
      ≡ datagram_of 2 2 1 0 []
