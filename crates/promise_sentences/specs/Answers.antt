-- Demand 2 in the sentences of 01, 'What the contracts say', 1 and 2, refusal 1 and 'Added by design': after every list of calls from an
-- open the numbers are the model's (`StreamNumbers`), the next call answers as the model's does (`Answering`), refusal 1 does not occur,
-- and look shows the next datagram (`Shows`); on the records, from C, and with the ways mixed. Each sentence follows from the field of the
-- promise that renders it. Statements only: the proofs are in proofs/Answers.antt.
use Rattle.std.specs.Prelude as rust
use Rattle.std.specs.Prelude.{ℕ, ◌+◌, ◌≤◌, ◌<◌, ◌≡◌, List, [], Bool, eqb, length, Result, Err}
use Rattle.std.proofs.Math.Option.{Option}
use Rattle.error.specs.Answers.{number_of}
use Rattle.error.specs.declared.UdxError.{UdxError}
use Rattle.error.specs.declared.Refusal.{Refusal}
use Rattle.error.specs.declared.Outcome.{Outcome}
use Rattle.model.specs.Lists.{Bytes}
use Rattle.model.specs.Slots.{get}
use Rattle.model.specs.Stream.{CloseState, End, fresh}
use Rattle.model.specs.Driving.{first_there}
use Rattle.model.specs.Calls.{Call, answer, after}
use Rattle.records.specs.declared.Stream.{Stream}
use Rattle.records.specs.declared.Totals.{Totals}
use Rattle.records.specs.declared.«open».Opened.{Opened}
use Rattle.records.specs.Seen.{seen_state, Lent}
use Rattle.udx.specs.Agree.{segment_of}
use Rattle.udx.specs.Look.{shown_of}
use Rattle.promise.specs.Runs.{Records, seen_of, call_of, Event, left, Did, put_by, Run, last_of, calls_of, OpenedBy, handed_out}
use Rattle.udx_c_numbers.specs.declared.structs.FlatStream.{FlatStream}
use Rattle.udx_c_numbers.specs.declared.structs.FlatTotals.{FlatTotals}
use Rattle.udx_c_numbers.specs.declared.structs.FlatStep.{FlatStep}
use Rattle.udx_c_numbers.specs.Bytes.{error_of, state_of}
use Rattle.udx_c.specs.declared.look.FlatPart.{FlatPart}
use Rattle.udx_c.specs.Shown.{store_of, bytes_of, Looks}
use Rattle.promise_ways.specs.Calls.{Plain, PlainEvent, PlainDid, PlainRun, plain_left, plain_last, plain_opened, outcome_of, size_of, records_of, events_of, OpenedInC}
use Rattle.promise_ways.specs.Mixed.{StandsFor, Mixed, as_event, as_events, MixedDid, OpenedEither, MixedRun}
use Rattle.promise_sentences.specs.ShutOut.{LiveAnswer}

-- the numbers of a stream and its totals

-- 01, 'Records': "Stream: seq, ack, remote acked, read cursor, inflight, window (cwnd), srtt, rttvar, rto, deadline, error, close state,
-- largest ack since the last drive; also both ids, segment ceiling, clock of the last accepted call, clock of the last drive, how many
-- queue entries that drive left to take, and whether it has ended", and the totals
pub record StreamNumbers : Type 0 where
  pub local : ℕ
  pub remote : ℕ
  pub segments : ℕ
  pub seq : ℕ
  pub remote_acked : ℕ
  pub largest_ack : ℕ
  pub inflight : ℕ
  pub window : ℕ
  pub ack : ℕ
  pub read_cursor : ℕ
  pub srtt : ℕ
  pub rttvar : ℕ
  pub rto : ℕ
  pub deadline : ℕ
  pub left : ℕ
  pub error : rust.Option UdxError
  pub state : CloseState
  pub ended : Bool
  pub last_clock : ℕ
  pub drive_clock : ℕ
  pub tx_packets : ℕ
  pub tx_bytes : ℕ
  pub rx_packets : ℕ
  pub rx_bytes : ℕ
  pub inflight_packets : ℕ
  pub inflight_bytes : ℕ

abbrev pub numbers_of : End → StreamNumbers
numbers_of e =
    record {
      local = e.ids.local;
      remote = e.ids.remote;
      segments = e.ids.segments;
      seq = e.sender.seq;
      remote_acked = e.sender.remote_acked;
      largest_ack = e.sender.largest_ack;
      inflight = e.sender.inflight;
      window = e.sender.cwnd;
      ack = e.receiver.ack;
      read_cursor = e.receiver.read_cursor;
      srtt = e.timing.rtt.srtt.0;
      rttvar = e.timing.rtt.rttvar.0;
      rto = e.timing.rtt.rto.0;
      deadline = e.timing.deadline;
      left = e.queue.left;
      error = e.ending.error;
      state = e.ending.state;
      ended = e.ending.ended;
      last_clock = e.clocks.last;
      drive_clock = e.clocks.drive;
      tx_packets = e.totals.tx_packets;
      tx_bytes = e.totals.tx_bytes;
      rx_packets = e.totals.rx_packets;
      rx_bytes = e.totals.rx_bytes;
      inflight_packets = e.totals.inflight_packets;
      inflight_bytes = e.totals.inflight_bytes;
    }

abbrev pub numbers_on : Stream → Totals → StreamNumbers
numbers_on s t =
    record {
      local = s.ids.local;
      remote = s.ids.remote;
      segments = s.ids.segments;
      seq = s.sender.seq;
      remote_acked = s.sender.remote_acked;
      largest_ack = s.sender.largest_ack;
      inflight = s.sender.inflight;
      window = s.sender.cwnd;
      ack = s.receiver.ack;
      read_cursor = s.receiver.read_cursor;
      srtt = s.timing.rtt.srtt.0;
      rttvar = s.timing.rtt.rttvar.0;
      rto = s.timing.rtt.rto.0;
      deadline = s.timing.deadline.0.0;
      left = s.queue.left;
      error = s.ending.error;
      state = seen_state s.ending.state;
      ended = s.ending.ended;
      last_clock = s.clocks.last.0;
      drive_clock = s.clocks.drive.0;
      tx_packets = t.tx_packets;
      tx_bytes = t.tx_bytes;
      rx_packets = t.rx_packets;
      rx_bytes = t.rx_bytes;
      inflight_packets = t.inflight_packets;
      inflight_bytes = t.inflight_bytes;
    }

abbrev pub numbers_in_c : FlatStream → FlatTotals → StreamNumbers
numbers_in_c s t =
    record {
      local = s.ids.local;
      remote = s.ids.remote;
      segments = s.ids.segments;
      seq = s.sender.seq;
      remote_acked = s.sender.remote_acked;
      largest_ack = s.sender.largest_ack;
      inflight = s.sender.inflight;
      window = s.sender.cwnd;
      ack = s.receiver.ack;
      read_cursor = s.receiver.read_cursor;
      srtt = s.timing.srtt;
      rttvar = s.timing.rttvar;
      rto = s.timing.rto;
      deadline = s.timing.deadline;
      left = s.queue.left;
      error = error_of s.ending.error;
      state = seen_state (state_of s.ending.state);
      ended = eqb s.ending.ended 1;
      last_clock = s.clocks.last;
      drive_clock = s.clocks.drive;
      tx_packets = t.tx_packets;
      tx_bytes = t.tx_bytes;
      rx_packets = t.rx_packets;
      rx_bytes = t.rx_bytes;
      inflight_packets = t.inflight_packets;
      inflight_bytes = t.inflight_bytes;
    }

-- the next call, whichever it is

-- `Next` are the possible next calls, `Known` is what is known of each; `e` is the model's end before the call
pub record Answering (e : End) (Next : Type 0) (Known : Next → Type 0) (call : Next → Call) (outcome : Next → Result Outcome Refusal) (count : Next → ℕ) (bytes : Next → Bytes)
    (segment : Next → Option ℕ) (end : Next → End) : Type 0 where
  -- "Every exported function's result, stream, totals and store bytes are equations in the call's inputs, for refused calls too"
  pub outcomes : (v : Next) → Known v → outcome v ≡ (answer (call v) e).outcome
  pub counts : (v : Next) → Known v → count v ≡ (answer (call v) e).count
  pub puts : (v : Next) → Known v → bytes v ≡ (answer (call v) e).bytes
  pub segments : (v : Next) → Known v → segment v ≡ (answer (call v) e).segment
  pub ends : (v : Next) → Known v → end v ≡ (answer (call v) e).end
  -- and it is none of the answers that demand 2 shuts out
  pub live : (v : Next) → Known v
      → LiveAnswer (call v) e (record { outcome = outcome v; count = count v; bytes = bytes v; segment = segment v; end = end v })

-- look

-- "the next datagram (first entry left to take whose packet is there) is shown .., an empty part when nothing is left to take"
pub record Shows (shown : Bytes) (e : End) : Type 0 where
  pub first : 0 < e.queue.left → shown ≡ first_there e.sender.outgoing e.queue.entries
  pub none_left : e.queue.left ≡ 0 → shown ≡ []

-- on the records

pub record AfterCalls (x : Records) (e : End) : Type 0 where
  -- "inventing inflight or totals" is shut out
  pub numbers : numbers_on x.stream x.totals ≡ numbers_of e
  pub stored : (n : ℕ) → get (seen_of x).sender.outgoing n ≡ get e.sender.outgoing n
  pub held : (n : ℕ) → get (seen_of x).receiver.incoming n ≡ get e.receiver.incoming n
  pub queued : (seen_of x).queue.entries ≡ e.queue.entries
  pub next : Answering e Event (Did x) (λ v. call_of v.request) (λ v. v.step.outcome) (λ v. v.step.count) (λ v. put_by v.request v.step.count v.buf)
      (λ v. segment_of v.step.segment)
      (λ v. seen_of (left v))
  -- 01, refusal 1: "(never so after calls from a fresh stream)"
  pub never_one : (v : Event) → Did x v → (why : Refusal) → v.step.outcome ≡ Err why → number_of why ≡ 1 → ⊥
  pub look : Shows (shown_of x.stream x.totals x.lent) e

abbrev pub DemandTwoOnRecords : Type 0
DemandTwoOnRecords =
    (local remote segments clock : ℕ) (l : Lent) (o : Opened)
    → OpenedBy local remote segments clock l o
    → (events : List Event)
    → Run events (handed_out o l)
    → AfterCalls (last_of events (handed_out o l)) (after (calls_of events) (fresh local remote segments clock))

-- from C: the numbers of outcome and refusal are read as one outcome (`outcome_of`), and a segment size of 0 as none (`size_of`)

-- the part that `udx_look` returns has exactly these bytes and is within its store: the header store if `header` is 1, the outgoing store
-- if it is 0
pub record ShowsInC (x : Plain) (e : End) (p : FlatPart) : Type 0 where
  pub bytes : Shows (bytes_of p x.lent.outgoing x.lent.headers) e
  pub long : p.length ≡ length (bytes_of p x.lent.outgoing x.lent.headers)
  pub flag : p.header ≤ 1
  pub within : p.start + p.length ≤ length (store_of p x.lent.outgoing x.lent.headers)

pub record AfterCallsInC (x : Plain) (e : End) : Type 0 where
  pub numbers : numbers_in_c x.stream x.totals ≡ numbers_of e
  -- and all of it holds for the records that the numbers stand for
  pub records : AfterCalls (records_of x) e
  pub next : Answering e PlainEvent (PlainDid x) (λ v. call_of v.request) (λ v. outcome_of v.step.outcome v.step.refusal) (λ v. v.step.count)
      (λ v. put_by v.request v.step.count v.buf)
      (λ v. segment_of (size_of v.step.segment))
      (λ v. seen_of (records_of (plain_left v)))
  pub never_one : (v : PlainEvent) → PlainDid x v → v.step.refusal ≡ 1 → ⊥
  pub look : (p : FlatPart) → Looks x.stream x.totals x.lent p → ShowsInC x e p

abbrev pub DemandTwoFromC : Type 0
DemandTwoFromC =
    (local remote segments clock : ℕ) (l : Lent) (o : FlatStep)
    → OpenedInC local remote segments clock l o
    → (events : List PlainEvent)
    → PlainRun events (plain_opened o l)
    → AfterCallsInC (plain_last events (plain_opened o l)) (after (calls_of (events_of events)) (fresh local remote segments clock))

-- with the ways mixed

pub record AfterMixedCalls (x : Records) (e : End) : Type 0 where
  pub records : AfterCalls x e
  pub next : Answering e Mixed (MixedDid x) (λ v. call_of (as_event v).request) (λ v. (as_event v).step.outcome) (λ v. (as_event v).step.count)
      (λ v. put_by (as_event v).request (as_event v).step.count (as_event v).buf)
      (λ v. segment_of (as_event v).step.segment)
      (λ v. seen_of (left (as_event v)))
  pub never_one : (v : Mixed) → MixedDid x v → (why : Refusal) → (as_event v).step.outcome ≡ Err why → number_of why ≡ 1 → ⊥
  -- from C, on any numbers that stand for the records
  pub look : (n : Plain) → StandsFor n x → (p : FlatPart) → Looks n.stream n.totals n.lent p → ShowsInC n e p

abbrev pub DemandTwoMixed : Type 0
DemandTwoMixed =
    (local remote segments clock : ℕ) (l : Lent) (o : Opened)
    → OpenedEither local remote segments clock l o
    → (calls : List Mixed)
    → MixedRun calls (handed_out o l)
    → AfterMixedCalls (last_of (as_events calls) (handed_out o l)) (after (calls_of (as_events calls)) (fresh local remote segments clock))
