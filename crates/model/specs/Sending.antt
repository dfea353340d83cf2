-- Making packets: headers, state packets, ending, and the calls open, write and close.
use Rattle.std.specs.Prelude as rust
use Rattle.std.specs.Prelude.{ℕ, zero, suc, ◌+◌, ◌-◌, ◌%◌, ◌^◌, List, [], ◌∷◌, ◌++◌, Bool, true, false, cond, ◌&&◌, ◌||◌, not, ltb, leb, length, take, drop, Result, Ok, None, Some}
use Rattle.std.proofs.Math.Option.{Option, none}
use Rattle.error.specs.declared.UdxError.{UdxError}
use Rattle.error.specs.declared.UdxError.TheVariants as error
use Rattle.error.specs.declared.Refusal.{Refusal}
use Rattle.error.specs.declared.Refusal.TheVariants as refusal
use Rattle.error.specs.declared.Outcome.{Outcome}
use Rattle.error.specs.declared.Outcome.TheVariants.{Ready, Waiting}
use Rattle.packet.specs.declared.header.Header.{Header}
use Rattle.packet.specs.Header.{header_bytes}
use Rattle.model.specs.Lists.{Bytes, is_empty}
use Rattle.model.specs.Slots.{ceiling, insert}
use Rattle.model.specs.Stream.{Marks, Entry, state, packet, Sender, Queue, CloseState, both_open, local_closed, remote_closed, both_closed, Ending, Totals, End, with_sender, with_queue, with_ending, with_totals}
use Rattle.model.specs.Answers.{Test, first, Answer, answered, gate}
use Rattle.model.specs.Rules.{rules, states}

-- open

-- 01, call 1: "Open: both ids, segment ceiling 1 to 10, clock"; refusals 3 and 4. A fresh stream has no last clock.
abbrev pub open_tests : (segments clock : ℕ) → List Test
open_tests segments clock =
    record { holds = ltb segments 1 || ltb 10 segments; refusal = refusal.SegmentCeiling }
    ∷ record { holds = leb (2 ^ 60) clock; refusal = refusal.BadClock }
    ∷ []

-- on the records refusal 1 comes first: "Open tests the lengths only", whether a lent store has another length than 01's
abbrev pub open_tests_on : (differ : Bool) (segments clock : ℕ) → List Test
open_tests_on differ segments clock = record { holds = differ; refusal = refusal.BrokenRecords } ∷ open_tests segments clock

unfoldable pub open_refusal : (segments clock : ℕ) → Option Refusal
open_refusal segments clock = first (open_tests segments clock)

-- packets

-- create_header. 01: "A packet made here has the remote id, offset 0, window 4,294,967,295, and seq and ack as they are when it
-- is made"
abbrev pub create_header : ℕ → End → Header
create_header typ e =
    record {
      typ = typ;
      data_offset = 0;
      stream_id = e.ids.remote;
      recv_win = 4_294_967_295;
      seq = e.sender.seq;
      ack = e.receiver.ack;
    }

-- create_packet: the header's bytes, then the payload
abbrev pub create_packet : ℕ → Bytes → End → Bytes
create_packet typ payload e = header_bytes (create_header typ e) ++ payload

-- Packet::new: not waiting, transmits 0, no time sent
abbrev pub new_marks : Marks
new_marks = record { waiting = false; transmits = 0; sent = none }

-- send_queue.push_back
abbrev pub pushed : Entry → Queue → Queue
pushed x q = record { entries = q.entries ++ (x ∷ []); left = q.left }

-- totals: the Rust's StreamStats. "The four running totals wrap at 2^64".

abbrev pub wrap : ℕ → ℕ
wrap n = n % 2 ^ 64

-- a data packet is made: "Sent counts every packet and its payload when first queued"
unfoldable pub count_sent : ℕ → Totals → Totals
count_sent payload t =
    record {
      tx_packets = wrap (t.tx_packets + 1);
      tx_bytes = wrap (t.tx_bytes + payload);
      rx_packets = t.rx_packets;
      rx_bytes = t.rx_bytes;
      inflight_packets = t.inflight_packets + 1;
      inflight_bytes = t.inflight_bytes + payload;
    }

-- a state packet is made
unfoldable pub count_state : Totals → Totals
count_state t =
    record {
      tx_packets = wrap (t.tx_packets + 1);
      tx_bytes = t.tx_bytes;
      rx_packets = t.rx_packets;
      rx_bytes = t.rx_bytes;
      inflight_packets = t.inflight_packets;
      inflight_bytes = t.inflight_bytes;
    }

-- state packets and ending

abbrev pub is_set : rust.Option UdxError → Bool
is_set None = false
is_set (Some why) = true

-- 01, call 3: "State packets carry END once an error is set."
abbrev pub state_type : Bool → ℕ
state_type true = 2
state_type false = 0

-- send_state_packet
abbrev pub send_state_packet : End → End
send_state_packet e =
    with_totals (count_state e.totals) (with_queue (pushed (state (create_packet (state_type (is_set e.ending.error)) [] e)) e.queue) e)

-- StreamState::close_local and close_remote
abbrev pub close_local : CloseState → CloseState
close_local both_open = local_closed
close_local local_closed = local_closed
close_local remote_closed = both_closed
close_local both_closed = both_closed

abbrev pub close_remote : CloseState → CloseState
close_remote both_open = remote_closed
close_remote local_closed = both_closed
close_remote remote_closed = remote_closed
close_remote both_closed = both_closed

-- terminate: the error, local side closed, a state packet
abbrev pub failed : UdxError → Ending → Ending
failed why x = record { error = Some why; state = close_local x.state; ended = x.ended }

abbrev pub terminate : UdxError → End → End
terminate why e = send_state_packet (with_ending (failed why e.ending) e)

-- write

-- 01, call 2: "Pieces are up to 1,380 bytes."
abbrev pub piece : Bytes → Bytes
piece bytes = take 1_380 bytes

-- 01, call 2: "A piece goes when inflight + its payload is at most the window, seq − remote acked is below 32 and seq is below
-- 4,294,967,295" (send_data_packet's test, and 01's ceilings)
unfoldable pub goes : Bytes → Sender → Bool
goes p s =
    leb (s.inflight + length p) s.cwnd && (ltb (s.seq - s.remote_acked) ceiling && ltb s.seq 4_294_967_295)

-- send_data_packet. 01: "inflight then grows by payload + 20"
abbrev pub sent : Bytes → End → Sender
sent p e =
    record {
      seq = suc e.sender.seq;
      remote_acked = e.sender.remote_acked;
      largest_ack = e.sender.largest_ack;
      inflight = e.sender.inflight + (20 + length p);
      cwnd = e.sender.cwnd;
      outgoing = insert e.sender.outgoing e.sender.seq (record { bytes = create_packet 1 p e; marks = new_marks });
    }

abbrev pub send_data_packet : Bytes → End → End
send_data_packet p e =
    with_totals (count_sent (length p) e.totals)
    (with_queue (pushed (packet e.sender.seq (20 + length p)) e.queue) (with_sender (sent p e) e))

pub record Written : Type 0 where
  pub count : ℕ
  pub end : End

-- poll_write's loop: pieces go until one does not or no byte is left; each has at least one byte
unfoldable pub write_loop : ℕ → Bytes → End → Written
write_loop zero bytes e = record { count = 0; end = e }
write_loop (suc k) bytes e =
    cond (not (is_empty bytes) && goes (piece bytes) e.sender)
    (let w = write_loop k (drop 1_380 bytes) (send_data_packet (piece bytes) e) in
    record { count = length (piece bytes) + w.count; end = w.end })
    (record { count = 0; end = e })

-- the stream's error is this one (refusals 14, 15, 16)
abbrev pub is_reset : rust.Option UdxError → Bool
is_reset None = false
is_reset (Some error.ConnectionReset) = true
is_reset (Some error.UnexpectedEof) = false
is_reset (Some error.TimedOut) = false

abbrev pub is_eof : rust.Option UdxError → Bool
is_eof None = false
is_eof (Some error.ConnectionReset) = false
is_eof (Some error.UnexpectedEof) = true
is_eof (Some error.TimedOut) = false

abbrev pub is_timed_out : rust.Option UdxError → Bool
is_timed_out None = false
is_timed_out (Some error.ConnectionReset) = false
is_timed_out (Some error.UnexpectedEof) = false
is_timed_out (Some error.TimedOut) = true

-- refusals 1, 6, 14 to 16, 17 of a write
abbrev pub write_tests : Bytes → End → List Test
write_tests bytes e =
    record { holds = not (rules e); refusal = refusal.BrokenRecords }
    ∷ record { holds = ltb 0 e.queue.left; refusal = refusal.BatchesLeft }
    ∷ record { holds = is_reset e.ending.error; refusal = refusal.ConnectionReset }
    ∷ record { holds = is_eof e.ending.error; refusal = refusal.UnexpectedEof }
    ∷ record { holds = is_timed_out e.ending.error; refusal = refusal.TimedOut }
    ∷ record { holds = not (is_empty bytes) && leb 4_294_967_295 e.sender.seq; refusal = refusal.SeqExhausted }
    ∷ []

unfoldable pub write_refusal : Bytes → End → Option Refusal
write_refusal bytes e = first (write_tests bytes e)

-- 01, call 2: "an empty write with 0"; "The answer is the bytes accepted, or waiting when none went."
abbrev pub write_outcome : Bytes → ℕ → Outcome
write_outcome bytes count = cond (is_empty bytes || ltb 0 count) Ready Waiting

abbrev pub written : Bytes → Written → Answer
written bytes w = record { outcome = Ok (write_outcome bytes w.count); count = w.count; bytes = []; segment = none; end = w.end }

-- 01, call 2 (poll_write over send_data_packet)
unfoldable pub write : Bytes → End → Answer
write bytes e = gate (write_refusal bytes e) e (written bytes (write_loop (length bytes) bytes e))

-- close

-- refusals 1, 5, 6, 13 of a close. 01, 13: "close 63 or more"
abbrev pub close_tests : End → List Test
close_tests e =
    record { holds = not (rules e); refusal = refusal.BrokenRecords }
    ∷ record { holds = e.ending.ended; refusal = refusal.AfterDone }
    ∷ record { holds = ltb 0 e.queue.left; refusal = refusal.BatchesLeft }
    ∷ record { holds = leb 63 (states e.queue.entries); refusal = refusal.StateQueueFull }
    ∷ []

unfoldable pub close_refusal : End → Option Refusal
close_refusal e = first (close_tests e)

-- 01, call 7: "Close (terminate with ConnectionReset): it replaces any earlier error and queues a state packet each time."
unfoldable pub close : End → Answer
close e = gate (close_refusal e) e (answered Ready (terminate error.ConnectionReset e))
