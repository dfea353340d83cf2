-- A take on the records.
use Rattle.std.specs.Prelude.{◌≡◌, length}
use Rattle.model.specs.Lists.{Bytes}
use Rattle.model.specs.Driving as model
use Rattle.records.specs.declared.Stream.{Stream}
use Rattle.records.specs.declared.Totals.{Totals}
use Rattle.records.specs.Put.{put}
use Rattle.records.specs.Seen.{Lent}
use Rattle.udx_steps.specs.declared.step.Step.{Step}
use Rattle.udx.specs.Agree.{on_records, Answers}

-- a take answers as the model's does; its bytes are at the front of the buffer, the rest of which is unchanged
pub record Hands (s : Stream) (t : Totals) (before : Lent) (buf : Bytes) (r : Step) (after : Lent) (buf' : Bytes) : Type 0 where
  pub answers : Answers (model.take (length buf)) s t before r after
  pub bytes : buf' ≡ put buf 0 (on_records (model.take (length buf)) s t before).bytes
