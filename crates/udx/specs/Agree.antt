-- What it means that a call on the records agrees with the model: it answers refusal 1 if the records are not laid out, else the model's
-- answer on what is seen of them. A refused call changes nothing.
use Rattle.std.specs.Prelude as rust
use Rattle.std.specs.Prelude.{ℕ, ◌≡◌, ◌≢◌, Bool, true, cond, ◌&&◌, not, Err, None, Some}
use Rattle.std.proofs.Math.Option.{Option, none, some}
use Rattle.error.specs.declared.Refusal.{Refusal}
use Rattle.error.specs.declared.Refusal.TheVariants.{BrokenRecords}
use Rattle.model.specs.Stream.{End}
use Rattle.model.specs.Answers.{Answer, refused}
use Rattle.records.specs.declared.Stream.{Stream}
use Rattle.records.specs.declared.Totals.{Totals}
use Rattle.records.specs.Seen.{Lent, seen, formed}
use Rattle.records.specs.Beside.{Beside}
use Rattle.records.specs.Open.{stores_test}
use Rattle.udx_steps.specs.declared.step.Step.{Step}

-- the stores have the right lengths and the records are laid out
unfoldable pub laid_out : Stream → Lent → Bool
laid_out s l = not (stores_test l.outgoing l.incoming l.headers) && formed s l.queue

-- a call of the model, on the records
unfoldable pub on_records : (End → Answer) → Stream → Totals → Lent → Answer
on_records call s t l = cond (laid_out s l) (call (seen s t l)) (refused BrokenRecords (seen s t l))

-- a step's segment size, as the model's
abbrev pub segment_of : rust.Option ℕ → Option ℕ
segment_of None = none
segment_of (Some n) = some n

-- an answer on the records, with the words and stores after the call, agrees with the model's answer a
pub record Agrees (a : Answer) (r : Step) (after : Lent) : Type 0 where
  pub outcome : r.outcome ≡ a.outcome
  pub count : r.count ≡ a.count
  pub segment : segment_of r.segment ≡ a.segment
  -- so 0 can stand for no segment size in the numbers that C gets (`FlatStep.segment`)
  pub not_zero : r.segment ≢ Some 0
  pub end : seen r.stream r.totals after ≡ a.end

-- "Each returns its number and changes nothing": no number, total, word or byte
pub record Unchanged (s : Stream) (t : Totals) (before : Lent) (r : Step) (after : Lent) : Type 0 where
  pub stream : r.stream ≡ s
  pub totals : r.totals ≡ t
  pub lent : after ≡ before

-- a call on the records answers as the model's call does
pub record Answers (call : End → Answer) (s : Stream) (t : Totals) (before : Lent) (r : Step) (after : Lent) : Type 0 where
  pub agrees : Agrees (on_records call s t before) r after
  -- records that are laid out stay so
  pub stays : laid_out s before ≡ true → laid_out r.stream after ≡ true
  pub changes_nothing : (why : Refusal) → r.outcome ≡ Err why → Unchanged s t before r after
  -- the bytes of each slot past its packet are unchanged
  pub beside : Beside before after
