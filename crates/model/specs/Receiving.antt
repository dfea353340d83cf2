-- What arrives: acknowledged packets leave, payloads are held and read; the calls deliver and read.
use Rattle.std.specs.Prelude.{ℕ, zero, suc, ◌+◌, ◌-◌, ◌^◌, max, List, [], ◌∷◌, ◌++◌, Bool, true, false, cond, ◌&&◌, ◌||◌, not, ltb, leb, eqb, length, take, drop, Result, Ok}
use Rattle.std.proofs.Math.Option.{Option, none}
use Rattle.error.specs.declared.UdxError.TheVariants as error
use Rattle.error.specs.declared.Refusal.{Refusal}
use Rattle.error.specs.declared.Refusal.TheVariants as refusal
use Rattle.error.specs.declared.Outcome.{Outcome}
use Rattle.error.specs.declared.Outcome.TheVariants.{Ready, Waiting}
use Rattle.error.specs.Answers.{error_or}
use Rattle.packet.specs.declared.header.Header.{Header}
use Rattle.packet.specs.Header.{fields, has_header, has_type}
use Rattle.packet.specs.Blocks.{Span, blocks}
use Rattle.rtt.specs.Estimate.{sampled}
use Rattle.rtt.specs.Window.{grown}
use Rattle.model.specs.Lists.{Bytes, on}
use Rattle.model.specs.Slots.{ceiling, get, insert, remove}
use Rattle.model.specs.Stream.{Packet, Held, Sender, Receiver, Timing, Ending, Clocks, Totals, End, with_sender, with_receiver, with_timing, with_ending, with_clocks, with_totals}
use Rattle.model.specs.Answers.{Test, first, Answer, answered, gate}
use Rattle.model.specs.Rules.{rules, states}
use Rattle.model.specs.Sending.{wrap, send_state_packet, close_remote, terminate}

-- an acknowledged packet: handle_remote_ack_for_packet

-- 01: "An acked packet not waiting leaves inflight." The packet leaves the store.
abbrev pub left : ℕ → Packet → Sender → Sender
left n p s =
    record {
      seq = s.seq;
      remote_acked = s.remote_acked;
      largest_ack = s.largest_ack;
      inflight = cond p.marks.waiting s.inflight (s.inflight - length p.bytes);
      cwnd = s.cwnd;
      outgoing = remove s.outgoing n;
    }

-- 01: "With a time sent and exactly one transmit it gives a sample, the call's clock less the time sent"
unfoldable pub measured : ℕ → Packet → Timing → Timing
measured clock p t =
    cond (eqb p.marks.transmits 1)
    (on p.marks.sent t (λ at. record { rtt = sampled t.rtt (clock - at); deadline = t.deadline }))
    t

-- "the two inflight ones count what is stored"
unfoldable pub count_acked : ℕ → Totals → Totals
count_acked payload t =
    record {
      tx_packets = t.tx_packets;
      tx_bytes = t.tx_bytes;
      rx_packets = t.rx_packets;
      rx_bytes = t.rx_bytes;
      inflight_packets = t.inflight_packets - 1;
      inflight_bytes = t.inflight_bytes - payload;
    }

abbrev pub handle_remote_ack : ℕ → ℕ → Packet → End → End
handle_remote_ack clock n p e =
    with_totals (count_acked (length p.bytes - 20) e.totals)
    (with_timing (measured clock p e.timing) (with_sender (left n p e.sender) e))

-- outgoing.remove(&n), and what follows if it was stored
unfoldable pub ack_number : ℕ → ℕ → End → End
ack_number clock n e = on (get e.sender.outgoing n) e (λ p. handle_remote_ack clock n p e)

-- `count` numbers from n on, ascending
unfoldable pub ack_numbers : (clock count n : ℕ) → End → End
ack_numbers clock zero n e = e
ack_numbers clock (suc k) n e = ack_numbers clock k (suc n) (ack_number clock n e)

-- handle_incoming_sacks: every number of every block, "end excluded"
unfoldable pub ack_blocks : ℕ → List Span → End → End
ack_blocks clock [] e = e
ack_blocks clock (b ∷ bs) e = ack_blocks clock bs (ack_numbers clock (b.end - b.start) b.start e)

-- a delivery: handle_incoming

-- "received counts every delivery and every DATA payload, repeats too"
unfoldable pub count_received : Totals → Totals
count_received t =
    record {
      tx_packets = t.tx_packets;
      tx_bytes = t.tx_bytes;
      rx_packets = wrap (t.rx_packets + 1);
      rx_bytes = t.rx_bytes;
      inflight_packets = t.inflight_packets;
      inflight_bytes = t.inflight_bytes;
    }

unfoldable pub count_data : ℕ → Totals → Totals
count_data payload t =
    record {
      tx_packets = t.tx_packets;
      tx_bytes = t.tx_bytes;
      rx_packets = t.rx_packets;
      rx_bytes = wrap (t.rx_bytes + payload);
      inflight_packets = t.inflight_packets;
      inflight_bytes = t.inflight_bytes;
    }

-- SACK blocks
unfoldable pub on_sack : ℕ → Header → Bytes → End → End
on_sack clock h payload e = cond (has_type 4 h.typ) (ack_blocks clock (blocks payload) e) e

-- the remote side is closed
abbrev pub remote_ended : Ending → Ending
remote_ended x = record { error = x.error; state = close_remote x.state; ended = x.ended }

-- 01, call 3: "END closes both sides, sets UnexpectedEof and queues a state packet."
unfoldable pub on_end : Header → End → End
on_end h e = cond (has_type 2 h.typ) (terminate error.UnexpectedEof (with_ending (remote_ended e.ending) e)) e

-- incoming.insert(seq, packet): a repeat replaces, and is read from its start
abbrev pub held : ℕ → Bytes → Receiver → Receiver
held n payload r = record { ack = r.ack; read_cursor = r.read_cursor; incoming = insert r.incoming n (record { payload = payload; offset = 0 }) }

abbrev pub acked : Receiver → Receiver
acked r = record { ack = suc r.ack; read_cursor = r.read_cursor; incoming = r.incoming }

-- while incoming.contains_key(&ack) { ack += 1 }
unfoldable pub advance : ℕ → Receiver → Receiver
advance zero r = r
advance (suc k) r = on (get r.incoming r.ack) r (λ h. advance k (acked r))

-- 01, call 3: "DATA is stored when seq is at least ack (a repeat replaces), ack moves past all held in order". Held numbers are
-- below read cursor + 32, so that many steps are enough.
unfoldable pub absorb : ℕ → Bytes → Receiver → Receiver
absorb n payload r = advance ((r.read_cursor + ceiling) - r.ack) (cond (leb r.ack n) (held n payload r) r)

unfoldable pub on_data : Header → Bytes → End → End
on_data h payload e =
    cond (has_type 1 h.typ)
    (send_state_packet (with_totals (count_data (length payload) e.totals) (with_receiver (absorb h.seq payload e.receiver) e)))
    e

-- "largest ack since the last drive" (poll_incoming), and 01, call 3: "If the header's ack exceeds remote acked, the window
-- grows"
abbrev pub on_ack_sender : Header → Sender → Sender
on_ack_sender h s =
    record {
      seq = s.seq;
      remote_acked = s.remote_acked;
      largest_ack = max s.largest_ack h.ack;
      inflight = s.inflight;
      cwnd = cond (ltb s.remote_acked h.ack) (grown s.cwnd) s.cwnd;
      outgoing = s.outgoing;
    }

abbrev pub on_ack : Header → End → End
on_ack h e = with_sender (on_ack_sender h e.sender) e

-- the clocks after an accepted call
abbrev pub at_clock : ℕ → Clocks → Clocks
at_clock clock c = record { last = clock; drive = c.drive }

-- 01, call 3: "count; SACK blocks; END; DATA; window."
unfoldable pub handle_incoming : ℕ → Header → Bytes → End → End
handle_incoming clock h payload e =
    on_ack h
    (on_data h payload
    (on_end h (on_sack clock h payload (with_totals (count_received e.totals) (with_clocks (at_clock clock e.clocks) e)))))

-- 01, 4: "A clock is 2^60 or more, or below that of the last accepted call with one."
abbrev pub bad_clock : ℕ → End → Bool
bad_clock clock e = leb (2 ^ 60) clock || ltb clock e.clocks.last

-- refusals 1, 4 to 13 of a delivery, over the datagram's header and payload
abbrev pub deliver_tests : ℕ → Bytes → Header → Bytes → End → List Test
deliver_tests clock datagram h payload e =
    record { holds = not (rules e); refusal = refusal.BrokenRecords }
    ∷ record { holds = bad_clock clock e; refusal = refusal.BadClock }
    ∷ record { holds = e.ending.ended; refusal = refusal.AfterDone }
    ∷ record { holds = ltb 0 e.queue.left; refusal = refusal.BatchesLeft }
    ∷ record { holds = not (has_header datagram); refusal = refusal.BadHeader }
    ∷ record { holds = not (eqb h.stream_id e.ids.local); refusal = refusal.OtherStream }
    ∷ record { holds = ltb 1_380 (length payload); refusal = refusal.LongPayload }
    ∷ record { holds = ltb e.sender.seq h.ack; refusal = refusal.AckPastSeq }
    ∷ record { holds = has_type 1 h.typ && leb 4_294_967_295 h.seq; refusal = refusal.SeqEnd }
    ∷ record { holds = has_type 1 h.typ && leb (e.receiver.read_cursor + ceiling) h.seq; refusal = refusal.PastIncoming }
    ∷ record { holds = leb 62 (states e.queue.entries); refusal = refusal.StateQueueFull }
    ∷ []

unfoldable pub deliver_refusal : Bytes → ℕ → End → Option Refusal
deliver_refusal datagram clock e = first (deliver_tests clock datagram (fields datagram) (drop 20 datagram) e)

-- 01, call 3 (process_packet, then handle_incoming)
unfoldable pub deliver : Bytes → ℕ → End → Answer
deliver datagram clock e =
    gate (deliver_refusal datagram clock e) e (answered Ready (handle_incoming clock (fields datagram) (drop 20 datagram) e))

-- read

-- a packet's read offset moves
abbrev pub read_to : ℕ → Held → Receiver → Receiver
read_to offset h r =
    record { ack = r.ack; read_cursor = r.read_cursor; incoming = insert r.incoming r.read_cursor (record { payload = h.payload; offset = offset }) }

-- a packet is finished: the read cursor moves past it
abbrev pub finished : Receiver → Receiver
finished r = record { ack = r.ack; read_cursor = suc r.read_cursor; incoming = remove r.incoming r.read_cursor }

pub record Got : Type 0 where
  pub bytes : Bytes
  -- a packet was finished
  pub ready : Bool
  pub receiver : Receiver

-- what is left to read of a packet
abbrev pub rest : Held → Bytes
rest h = drop h.offset h.payload

abbrev pub got_none : Receiver → Got
got_none r = record { bytes = []; ready = false; receiver = r }

-- 01, call 6: "a packet longer than what remains of the buffer gives its front part and ends the read"
abbrev pub got_front : ℕ → Held → Receiver → Got
got_front room h r = record { bytes = take room (rest h); ready = false; receiver = read_to (h.offset + room) h r }

abbrev pub got_whole : Held → Got → Got
got_whole h g = record { bytes = rest h ++ g.bytes; ready = true; receiver = g.receiver }

-- read_next's loop over at most k packets, into `room` bytes
unfoldable pub read_loop : (k room : ℕ) → Receiver → Got
read_loop zero room r = got_none r
read_loop (suc k) room r =
    on (get r.incoming r.read_cursor) (got_none r)
    (λ h.
    let g = read_loop k (room - length (rest h)) (finished r) in
    cond (ltb room (length (rest h))) (got_front room h r) (got_whole h g))

-- read_next. Held numbers are below read cursor + 32, so that many packets are enough.
unfoldable pub read_next : ℕ → Receiver → Got
read_next room r = read_loop ceiling room r

-- 01, call 6: "Ready only if a packet was finished, else the error, else waiting, each with the count of bytes put."
abbrev pub read_outcome : Bool → End → Result Outcome Refusal
read_outcome true e = Ok Ready
read_outcome false e = error_or e.ending.error Waiting

abbrev pub read_answer : Got → End → Answer
read_answer g e =
    record { outcome = read_outcome g.ready e; count = length g.bytes; bytes = g.bytes; segment = none; end = with_receiver g.receiver e }

-- refusal 1 of a read; 14 to 16 are outcomes of a read that ran: "a read with 14 to 16 keeps the bytes it put and its new place"
abbrev pub read_tests : End → List Test
read_tests e = record { holds = not (rules e); refusal = refusal.BrokenRecords } ∷ []

unfoldable pub read_refusal : End → Option Refusal
read_refusal e = first (read_tests e)

-- 01, call 6 (read_next, poll_read)
unfoldable pub read : ℕ → End → Answer
read room e = gate (read_refusal e) e (read_answer (read_next room e.receiver) e)
