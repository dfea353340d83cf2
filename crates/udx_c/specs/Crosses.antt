-- A call that crosses the C boundary is the call on the records that its numbers represent, and returns that call's answer as numbers.
use Rattle.std.specs.Prelude.{ℕ, ◌≡◌, true, false}
use Rattle.records.specs.declared.Stream.{Stream}
use Rattle.records.specs.declared.Totals.{Totals}
use Rattle.records.specs.Seen.{Lent}
use Rattle.model.specs.Lists.{Bytes}
use Rattle.records.specs.declared.«open».Opened.{Opened}
use Rattle.records.specs.Open.{Opens}
use Rattle.udx_steps.specs.declared.step.Step.{Step}
use Rattle.udx_c_numbers.specs.declared.structs.FlatStream.{FlatStream}
use Rattle.udx_c_numbers.specs.declared.structs.FlatTotals.{FlatTotals}
use Rattle.udx_c_numbers.specs.declared.structs.FlatStep.{FlatStep}
use Rattle.udx_c_numbers.specs.Bytes.{is_strange}
use Rattle.udx_c_numbers.specs.Flat.{stream_of, totals_of, flat_step, flat_opened, broken_step}

-- the call's step, returned as numbers
pub record Called (call : Stream → Totals → Lent → Step → Lent → Type 0) (s : FlatStream) (t : FlatTotals) (before : Lent) (r : FlatStep)
    (after : Lent) : Type 0 where
  pub step : Step
  pub does : call (stream_of s) (totals_of t) before step after
  pub flat : r ≡ flat_step step

-- refusal 1: stream and totals are returned as received, and no word or byte has changed
pub record Refuses (s : FlatStream) (t : FlatTotals) (before : Lent) (r : FlatStep) (after : Lent) : Type 0 where
  pub answer : r ≡ broken_step s t
  pub lent : after ≡ before

pub record Crosses (call : Stream → Totals → Lent → Step → Lent → Type 0) (s : FlatStream) (t : FlatTotals) (before : Lent) (r : FlatStep)
    (after : Lent) : Type 0 where
  pub known : is_strange s.ending ≡ false → Called call s t before r after
  pub strange : is_strange s.ending ≡ true → Refuses s t before r after

pub record FlatOpens (local remote segments clock : ℕ) (outgoing incoming headers : Bytes) (r : FlatStep) : Type 0 where
  pub opened : Opened
  pub does : Opens local remote segments clock outgoing incoming headers opened
  pub flat : r ≡ flat_opened opened
