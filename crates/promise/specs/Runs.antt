-- Demand 2 over any list of calls on the records: every answer, and the end seen after it, is the model's, and refusal 1 never occurs. The
-- statement is `SameAsModel`, at the bottom; its terms come first. A call on the records is exactly what the contract of the exported
-- function says (`Did`). Statements only: the proof is in proofs/Runs.antt.
use Rattle.std.specs.Prelude.{ℕ, ◌≡◌, List, [], ◌∷◌, length, take, Ok, Err}
use Rattle.error.specs.declared.Refusal.TheVariants.{BrokenRecords}
use Rattle.error.specs.declared.Outcome.TheVariants.{Ready}
use Rattle.model.specs.Lists.{Bytes}
use Rattle.model.specs.Stream.{End, fresh}
use Rattle.model.specs.Answers.{Answer}
use Rattle.model.specs.Sending as model
use Rattle.model.specs.Receiving as model_in
use Rattle.model.specs.Driving as model_out
use Rattle.model.specs.Calls.{Call, write_call, deliver_call, drive_call, take_call, read_call, close_call, answer, after}
use Rattle.records.specs.declared.Stream.{Stream}
use Rattle.records.specs.declared.Totals.{Totals}
use Rattle.records.specs.declared.«open».Opened.{Opened}
use Rattle.records.specs.Seen.{Lent, seen}
use Rattle.records.specs.Open.{Opens}
use Rattle.udx_steps.specs.declared.step.Step.{Step}
use Rattle.udx.specs.Agree.{segment_of, Answers}
use Rattle.udx.specs.Look.{shown_of}
use Rattle.udx.specs.Read.{Gives}
use Rattle.udx.specs.Take.{Hands}

-- one end's records: numbers and totals, and the words and stores that its calls are lent. The words have the lengths of their arrays, but
-- nothing here needs that: the contracts hold for any length.
pub record Records : Type 0 where
  pub stream : Stream
  pub totals : Totals
  pub lent : Lent

abbrev pub seen_of : Records → End
seen_of x = seen x.stream x.totals x.lent

-- a call on the records

-- 01, 'Calls', 2 to 7, each with what its caller brings: bytes, a datagram and a clock, a clock, a buffer with its old contents
pub data Request : Type 0 where
  to_write : Bytes → Request
  to_deliver : Bytes → ℕ → Request
  to_drive : ℕ → Request
  to_take : Bytes → Request
  to_read : Bytes → Request
  to_close : Request

-- the model's call
abbrev pub call_of : Request → Call
call_of (to_write bytes) = write_call bytes
call_of (to_deliver datagram clock) = deliver_call datagram clock
call_of (to_drive clock) = drive_call clock
call_of (to_take buf) = take_call (length buf)
call_of (to_read buf) = read_call (length buf)
call_of to_close = close_call

-- a request and what the exported function left: its step, the words and stores, and for take and read the buffer
pub record Event : Type 0 where
  pub request : Request
  pub step : Step
  pub lent : Lent
  pub buf : Bytes

-- the records after it
abbrev pub left : Event → Records
left v = record { stream = v.step.stream; totals = v.step.totals; lent = v.lent }

-- The contracts of the exported functions: udx/src, `write`, `deliver`, `drive`, `take`, `read`, `close`.
abbrev pub DidWith : Records → Request → Step → Lent → Bytes → Type 0
DidWith x (to_write bytes) r after buf' = Answers (model.write bytes) x.stream x.totals x.lent r after
DidWith x (to_deliver datagram clock) r after buf' = Answers (model_in.deliver datagram clock) x.stream x.totals x.lent r after
DidWith x (to_drive clock) r after buf' = Answers (model_out.drive clock) x.stream x.totals x.lent r after
DidWith x (to_take buf) r after buf' = Hands x.stream x.totals x.lent buf r after buf'
DidWith x (to_read buf) r after buf' = Gives x.stream x.totals x.lent buf r after buf'
DidWith x to_close r after buf' = Answers model.close x.stream x.totals x.lent r after

abbrev pub Did : Records → Event → Type 0
Did x v = DidWith x v.request v.step v.lent v.buf

-- what an event shows, as an answer of the model

-- the bytes that a take or a read put: the first `count` of the buffer
abbrev pub put_by : Request → ℕ → Bytes → Bytes
put_by (to_write bytes) count buf' = []
put_by (to_deliver datagram clock) count buf' = []
put_by (to_drive clock) count buf' = []
put_by (to_take buf) count buf' = take count buf'
put_by (to_read buf) count buf' = take count buf'
put_by to_close count buf' = []

abbrev pub answer_of : Event → Answer
answer_of v =
    record {
      outcome = v.step.outcome;
      count = v.step.count;
      bytes = put_by v.request v.step.count v.buf;
      segment = segment_of v.step.segment;
      end = seen_of (left v);
    }

-- a list of calls from an open

abbrev pub Run : List Event → Records → Type 0
Run [] x = Unit {0}
Run (v ∷ vs) x = Did x v × Run vs (left v)

abbrev pub last_of : List Event → Records → Records
last_of [] x = x
last_of (v ∷ vs) x = last_of vs (left v)

abbrev pub calls_of : List Event → List Call
calls_of [] = []
calls_of (v ∷ vs) = call_of v.request ∷ calls_of vs

-- an open that was not refused, over the caller's stores; open is not lent the words, which may hold anything
pub record OpenedBy (local remote segments clock : ℕ) (l : Lent) (o : Opened) : Type 0 where
  pub opens : Opens local remote segments clock l.outgoing l.incoming l.headers o
  pub ready : o.outcome ≡ Ok Ready

abbrev pub handed_out : Opened → Lent → Records
handed_out o l = record { stream = o.stream; totals = o.totals; lent = l }

-- what it means for records x to be the end e of the model
pub record Same (x : Records) (e : End) : Type 0 where
  -- every number, total, packet, held packet and queue entry: so datagrams, window, timeout and totals are the model's
  pub end : seen_of x ≡ e
  -- the next call, whichever it is, returns the model's outcome, count, bytes and segment size and leaves the model's end
  pub next : (v : Event) → Did x v → answer_of v ≡ answer (call_of v.request) e
  -- 01, refusal 1: "(never so after calls from a fresh stream)"
  pub unbroken : (v : Event) → Did x v → v.step.outcome ≡ Err BrokenRecords → ⊥
  -- look shows what the model shows
  pub shown : shown_of x.stream x.totals x.lent ≡ model_out.look e

-- After any list of calls from an open, with any bytes delivered, the records are the model's end after the same calls.
abbrev pub SameAsModel : Type 0
SameAsModel =
    (local remote segments clock : ℕ) (l : Lent) (o : Opened)
    → OpenedBy local remote segments clock l o
    → (events : List Event)
    → Run events (handed_out o l)
    → Same (last_of events (handed_out o l)) (after (calls_of events) (fresh local remote segments clock))
