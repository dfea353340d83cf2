-- A drive that is done, on the records.
use Rattle.std.specs.Prelude.{ℕ, true, Ok, None}
use Rattle.error.specs.declared.Outcome.TheVariants.{Done}
use Rattle.records.specs.declared.Stream.{Stream}
use Rattle.records.specs.declared.Totals.{Totals}
use Rattle.close_state.specs.State.{with_ending}
use Rattle.drive_all.specs.Poll.{driven_at}
use Rattle.udx_steps.specs.declared.step.Step.{Step}

-- 01, call 4: "the answer is done and the stream has ended"
abbrev pub done_step : ℕ → Stream → Totals → Step
done_step clock s t =
    record {
      stream = with_ending (record { error = s.ending.error; state = s.ending.state; ended = true }) (driven_at clock s);
      totals = t;
      outcome = Ok Done;
      count = 0;
      segment = None;
    }
