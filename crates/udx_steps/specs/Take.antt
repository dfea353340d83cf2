-- The steps of a take.
use Rattle.std.specs.Prelude.{Ok, None}
use Rattle.error.specs.declared.Outcome.TheVariants.{Ready, Nothing}
use Rattle.records.specs.declared.Stream.{Stream}
use Rattle.records.specs.declared.Totals.{Totals}
use Rattle.take_next.specs.declared.Handed.{Handed}
use Rattle.take_next.specs.Take.{taken_stream}
use Rattle.udx_steps.specs.declared.step.Step.{Step}

abbrev pub nothing_step : Stream → Totals → Step
nothing_step s t = record { stream = s; totals = t; outcome = Ok Nothing; count = 0; segment = None }

-- the step of a batch that was handed out
abbrev pub taken_step : Stream → Totals → Handed → Step
taken_step s t h = record { stream = taken_stream h.queue s; totals = t; outcome = Ok Ready; count = h.count; segment = h.segment }
