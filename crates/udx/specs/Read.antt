-- A read on the records.
use Rattle.std.specs.Prelude.{ℕ, ◌≡◌, List, true, length, Err}
use Rattle.error.specs.declared.Refusal.{Refusal}
use Rattle.error.specs.declared.Refusal.TheVariants.{BrokenRecords}
use Rattle.model.specs.Lists.{Bytes}
use Rattle.model.specs.Receiving.{read}
use Rattle.records.specs.declared.Stream.{Stream}
use Rattle.records.specs.declared.Totals.{Totals}
use Rattle.records.specs.Put.{put}
use Rattle.records.specs.Seen.{Lent}
use Rattle.udx_steps.specs.declared.step.Step.{Step}
use Rattle.udx.specs.Agree.{laid_out, on_records, Agrees, Unchanged}

abbrev pub read_lent : List ℕ → Lent → Lent
read_lent held l = record { sent = l.sent; held = held; queue = l.queue; outgoing = l.outgoing; incoming = l.incoming; headers = l.headers }

-- a read answers as the model's does; its bytes are at the front of the buffer, the rest of which is unchanged. Refusal 1 changes nothing,
-- and no refusal changes a number: "a read with 14 to 16 keeps the bytes it put and its new place", which is in the held packet's word
pub record Gives (s : Stream) (t : Totals) (before : Lent) (buf : Bytes) (r : Step) (after : Lent) (buf' : Bytes) : Type 0 where
  pub agrees : Agrees (on_records (read (length buf)) s t before) r after
  pub stays : laid_out s before ≡ true → laid_out r.stream after ≡ true
  pub changes_nothing : r.outcome ≡ Err BrokenRecords → Unchanged s t before r after
  pub same_numbers : (why : Refusal) → r.outcome ≡ Err why → (r.stream ≡ s) × (r.totals ≡ t)
  pub bytes : buf' ≡ put buf 0 (on_records (read (length buf)) s t before).bytes
