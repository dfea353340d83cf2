-- The step of an accepted call that answers ok and no number, and that of a refused call.
use Rattle.std.specs.Prelude.{Ok, Err, None}
use Rattle.error.specs.declared.Outcome.TheVariants.{Ready}
use Rattle.error.specs.declared.Refusal.{Refusal}
use Rattle.records.specs.declared.Stream.{Stream}
use Rattle.records.specs.declared.Totals.{Totals}
use Rattle.records.specs.declared.StreamAndTotals.{StreamAndTotals}
use Rattle.udx_steps.specs.declared.step.Step.{Step}

-- an accepted delivery, a drive that is not done, and a close
abbrev pub ready_step : StreamAndTotals → Step
ready_step x = record { stream = x.stream; totals = x.totals; outcome = Ok Ready; count = 0; segment = None }

abbrev pub refused_step : Stream → Totals → Refusal → Step
refused_step s t why = record { stream = s; totals = t; outcome = Err why; count = 0; segment = None }
