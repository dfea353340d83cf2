-- Calls on plain numbers, as a caller in C or Rust makes them, and what they are on the records. Such a call is exactly what the contract
-- of the C function says (`PlainDid`; Contracts.antt states that it is that contract word for word).
use Rattle.std.specs.Prelude.{ℕ, ◌-◌, ◌≡◌, true, cond, List, [], ◌∷◌, eqb, get_or, Option, None, Some, Result, Ok, Err}
use Rattle.error.specs.declared.Refusal.{Refusal}
use Rattle.error.specs.declared.Refusal.TheVariants as refusal
use Rattle.error.specs.declared.Outcome.{Outcome}
use Rattle.error.specs.declared.Outcome.TheVariants as outcome
use Rattle.model.specs.Lists.{Bytes}
use Rattle.model.specs.Sending as model
use Rattle.model.specs.Receiving as model_in
use Rattle.model.specs.Driving as model_out
use Rattle.records.specs.declared.«open».Opened.{Opened}
use Rattle.records.specs.Seen.{Lent}
use Rattle.udx_steps.specs.declared.step.Step.{Step}
use Rattle.udx.specs.Agree.{Answers}
use Rattle.udx.specs.Read.{Gives}
use Rattle.udx.specs.Take.{Hands}
use Rattle.promise.specs.Runs.{Records, Request, to_write, to_deliver, to_drive, to_take, to_read, to_close, Event}
use Rattle.udx_c_numbers.specs.declared.structs.FlatStream.{FlatStream}
use Rattle.udx_c_numbers.specs.declared.structs.FlatTotals.{FlatTotals}
use Rattle.udx_c_numbers.specs.declared.structs.FlatStep.{FlatStep}
use Rattle.udx_c_numbers.specs.Bytes.{is_strange}
use Rattle.udx_c_numbers.specs.Flat.{stream_of, totals_of}
use Rattle.udx_c.specs.Crosses.{Crosses, FlatOpens}

-- one end as such a caller has it: numbers and totals, and the words and stores
pub record Plain : Type 0 where
  pub stream : FlatStream
  pub totals : FlatTotals
  pub lent : Lent

-- a request and what the C function left: the numbers it handed back, the words and stores, and the buffer
pub record PlainEvent : Type 0 where
  pub request : Request
  pub step : FlatStep
  pub lent : Lent
  pub buf : Bytes

-- the next call is handed the numbers that this one handed back
abbrev pub plain_left : PlainEvent → Plain
plain_left v = record { stream = v.step.stream; totals = v.step.totals; lent = v.lent }

-- The contracts of the C functions: udx_c/src, `udx_write`, `udx_deliver`, `udx_drive`, `udx_take`, `udx_read`, `udx_close`.
abbrev pub PlainDidWith : Plain → Request → FlatStep → Lent → Bytes → Type 0
PlainDidWith x (to_write bytes) r after buf' = Crosses (Answers (model.write bytes)) x.stream x.totals x.lent r after
PlainDidWith x (to_deliver datagram clock) r after buf' = Crosses (Answers (model_in.deliver datagram clock)) x.stream x.totals x.lent r after
PlainDidWith x (to_drive clock) r after buf' = Crosses (Answers (model_out.drive clock)) x.stream x.totals x.lent r after
PlainDidWith x (to_take buf) r after buf' =
    Crosses (λ s t l q m. Hands s t l buf q m buf') x.stream x.totals x.lent r after
    × (is_strange x.stream.ending ≡ true → buf' ≡ buf)
PlainDidWith x (to_read buf) r after buf' =
    Crosses (λ s t l q m. Gives s t l buf q m buf') x.stream x.totals x.lent r after
    × (is_strange x.stream.ending ≡ true → buf' ≡ buf)
PlainDidWith x to_close r after buf' = Crosses (Answers model.close) x.stream x.totals x.lent r after

abbrev pub PlainDid : Plain → PlainEvent → Type 0
PlainDid x v = PlainDidWith x v.request v.step v.lent v.buf

-- what the numbers of an answer mean; include/udx.h has the same list

-- 01, 'Seventeen refusals, in checking order'
abbrev pub refusals : List Refusal
refusals =
    refusal.BrokenRecords
    ∷ refusal.ShortBuffer
    ∷ refusal.SegmentCeiling
    ∷ refusal.BadClock
    ∷ refusal.AfterDone
    ∷ refusal.BatchesLeft
    ∷ refusal.BadHeader
    ∷ refusal.OtherStream
    ∷ refusal.LongPayload
    ∷ refusal.AckPastSeq
    ∷ refusal.SeqEnd
    ∷ refusal.PastIncoming
    ∷ refusal.StateQueueFull
    ∷ refusal.ConnectionReset
    ∷ refusal.UnexpectedEof
    ∷ refusal.TimedOut
    ∷ refusal.SeqExhausted
    ∷ []

abbrev pub refusal_of : ℕ → Refusal
refusal_of n = get_or refusals (n - 1) refusal.BrokenRecords

abbrev pub outcome_of : (outcome refusal : ℕ) → Result Outcome Refusal
outcome_of n why =
    cond (eqb n 0) (Ok outcome.Ready) (cond (eqb n 1) (Ok outcome.Waiting) (cond (eqb n 2) (Ok outcome.Done) (cond (eqb n 3) (Ok outcome.Nothing) (Err (refusal_of why)))))

-- a segment size, where 0 says that there is none
abbrev pub size_of : ℕ → Option ℕ
size_of n = cond (eqb n 0) None (Some n)

abbrev pub step_of : FlatStep → Step
step_of r =
    record {
      stream = stream_of r.stream;
      totals = totals_of r.totals;
      outcome = outcome_of r.outcome r.refusal;
      count = r.count;
      segment = size_of r.segment;
    }

abbrev pub opened_of : FlatStep → Opened
opened_of r = record { outcome = outcome_of r.outcome r.refusal; stream = stream_of r.stream; totals = totals_of r.totals }

-- an end and a call on it in the form that the theorems over lists of calls use

abbrev pub records_of : Plain → Records
records_of x = record { stream = stream_of x.stream; totals = totals_of x.totals; lent = x.lent }

abbrev pub event_of : PlainEvent → Event
event_of v = record { request = v.request; step = step_of v.step; lent = v.lent; buf = v.buf }

abbrev pub events_of : List PlainEvent → List Event
events_of [] = []
events_of (v ∷ vs) = event_of v ∷ events_of vs

-- a list of calls from an open

abbrev pub PlainRun : List PlainEvent → Plain → Type 0
PlainRun [] x = Unit {0}
PlainRun (v ∷ vs) x = PlainDid x v × PlainRun vs (plain_left v)

abbrev pub plain_last : List PlainEvent → Plain → Plain
plain_last [] x = x
plain_last (v ∷ vs) x = plain_last vs (plain_left v)

-- a `udx_open` that returned ok, over the caller's stores
pub record OpenedInC (local remote segments clock : ℕ) (l : Lent) (o : FlatStep) : Type 0 where
  pub opens : FlatOpens local remote segments clock l.outgoing l.incoming l.headers o
  pub ready : o.outcome ≡ 0

abbrev pub plain_opened : FlatStep → Lent → Plain
plain_opened o l = record { stream = o.stream; totals = o.totals; lent = l }
