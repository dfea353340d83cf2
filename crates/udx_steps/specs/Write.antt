-- A write that is not refused, on the records.
use Rattle.std.specs.Prelude.{ℕ, Bool, cond, ◌||◌, ltb, Ok, None}
use Rattle.error.specs.declared.Outcome.{Outcome}
use Rattle.error.specs.declared.Outcome.TheVariants.{Ready, Waiting}
use Rattle.records.specs.declared.Stream.{Stream}
use Rattle.records.specs.declared.Totals.{Totals}
use Rattle.write_piece.specs.declared.Outbox.{Outbox}
use Rattle.write_all.specs.declared.Written.{Written}
use Rattle.write_piece.specs.Piece.{with_outbox}
use Rattle.udx_steps.specs.declared.step.Step.{Step}

abbrev pub outbox_of : Stream → Totals → Outbox
outbox_of s t = record { sender = s.sender; queue = s.queue; totals = t }

-- "an empty write with 0"; "The answer is the bytes accepted, or waiting when none went."
abbrev pub outcome_of : (empty : Bool) → (count : ℕ) → Outcome
outcome_of empty count = cond (empty || ltb 0 count) Ready Waiting

-- the step of a write, after its pieces went
abbrev pub written_step : Stream → Written → (empty : Bool) → Step
written_step s w empty =
    record { stream = with_outbox w.outbox s; totals = w.outbox.totals; outcome = Ok (outcome_of empty w.count); count = w.count; segment = None }
