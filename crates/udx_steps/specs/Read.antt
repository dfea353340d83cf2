-- What a read answers, and its step.
use Rattle.error.specs.declared.Refusal.{Refusal}
use Rattle.std.specs.Prelude.{Bool, cond, Result, Ok, Option, None}
use Rattle.error.specs.Answers.{error_or}
use Rattle.error.specs.declared.UdxError.{UdxError}
use Rattle.error.specs.declared.Outcome.{Outcome}
use Rattle.error.specs.declared.Outcome.TheVariants.{Ready, Waiting}
use Rattle.records.specs.declared.Receiver.{Receiver}
use Rattle.records.specs.declared.Stream.{Stream}
use Rattle.records.specs.declared.Totals.{Totals}
use Rattle.read_bytes.specs.declared.Read.{Read}
use Rattle.udx_steps.specs.declared.step.Step.{Step}

-- 01, call 6: "Ready only if a packet was finished, else the error, else waiting"
abbrev pub outcome_of : (finished : Bool) → Option UdxError → Result Outcome Refusal
outcome_of finished error = cond finished (Ok Ready) (error_or error Waiting)

-- the stream with another receiver
abbrev pub read_stream : Receiver → Stream → Stream
read_stream r s =
    record {
      ids = s.ids;
      sender = s.sender;
      receiver = r;
      queue = s.queue;
      timing = s.timing;
      ending = s.ending;
      clocks = s.clocks;
    }

-- the step of a read
abbrev pub read_step : Stream → Totals → Read → Step
read_step s t a =
    record { stream = read_stream a.receiver s; totals = t; outcome = outcome_of a.finished s.ending.error; count = a.count; segment = None }
