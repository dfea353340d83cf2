-- A command on an end does what the session says: on records that are laid out its call answers as the model's does, and its line has
-- the model's outcome, count and bytes.
use Prim.Native.Nat.{ℕ, zero, suc, ◌+◌, min}
use native.Mathlib.Omega.{arith}
use mathlib.Core.Path.{◌≡◌, refl, sym, ap, ◌∙◌}
use mathlib.Core.Bool.{Bool, true, false}
use mathlib.Core.List.{List}
use mathlib.Core.Option.{some}
use Rattle.std.specs.Prelude.{◌≢◌, Option, None, Some}
use lib.Dec.{leb}
use lib.ListN.{length, take, drop}
use lib.Seq.{take-append_seam, take_all}
use borrow.Author.Tests.{leb-true, leb-false}
use Rattle.model.specs.Lists.{Bytes}
use Rattle.model.specs.Stream as model
use Rattle.model.specs.Answers.{Answer}
use Rattle.model.specs.Driving as model_out
use Rattle.model.specs.Receiving as model_in
use Rattle.promise.specs.Runs.{Records}
use Rattle.promise.proofs.Runs.{agreed, puts, take_counts, read_counts}
use Rattle.udx.specs.Agree.{segment_of}
use Rattle.session_kept.specs.Kept as kept_spec
use Rattle.session_kept.specs.Kept.{kept_of}
use Rattle.session_ends.specs.declared.SessionEnd.{SessionEnd}
use Rattle.session_ends.specs.declared.calls.Called.{Called}
use Rattle.session_ends.specs.Calls.{Stores, lent_of, step_of, Calls, CallsTake, CallsRead}
use Rattle.session_text.specs.declared.lines.Name.{Name}
use Rattle.session_text.specs.declared.lines.Name.TheVariants as name
use Rattle.session_text.specs.Put.{Wrote}
use Rattle.session_text.specs.Text.{line_of, bytes_line_of}
use Rattle.session_commands.specs.Acting.{lined, lined_read, kept_after}
use Rattle.session_commands.specs.Acts.{side_of, LaidEnd, Acts, Keeps, KeepsBatch}

-- a text put at the start of a buffer is its front
pub first_of : (d d' t : List ℕ) (r most : ℕ) → Wrote d d' 0 r most t → take r d' ≡ t
first_of d d' t r most w =
    let k : r ≡ length t = omega (arith, w.past) in
    rw (k, w.bytes) (take-append_seam t (drop (0 + length t) d))

-- the part of a buffer up to a count, or all of it
pub at_most : (buf : Bytes) (count n : ℕ) → n ≡ min count (length buf) → take n buf ≡ take count buf
at_most buf count n e = go (leb count (length buf)) refl
  where
    go : (t : Bool) → leb count (length buf) ≡ t → take n buf ≡ take count buf
    go true h = let k = leb-true count (length buf) h in let same : n ≡ count = omega arith in ap (λ (m : ℕ). take m buf) same
    go false h = let k = leb-false count (length buf) h in take_all n buf (omega arith) ∙ sym (take_all count buf (omega arith))

-- a segment size cuts a batch into the datagrams that the model has
same_size : (size : Option ℕ) → size ≢ Some 0 → kept_spec.kept_segment size ≡ segment_of size
same_size None h = refl
same_size (Some zero) h = absurd (h refl)
same_size (Some (suc n)) h = ap some (omega arith)

module _ (e : SessionEnd) (b : Stores) (laid : LaidEnd e b) where
  -- its records in the form that the theorems over lists of calls use
  abbrev x : Records
  x = record { stream = e.stream; totals = e.totals; lent = lent_of e b }

  -- a command that is a call and its line
  pub called : (call : model.End → Answer) (n : Name) (number : ℕ) (c : Called) (b' : Stores) (kept : Bytes) (end : SessionEnd) (len most : ℕ) (d d' : Bytes)
      → Calls call e b c b' → end ≡ c.end → Wrote d d' 0 len most (line_of n number c.outcome c.count)
      → Acts (lined n number (call (side_of e b kept).end) (kept_of e.kept kept)) end b' kept len d'
  called call n number c b' kept end len most d d' g same w =
      let a = agreed x laid call (step_of c) (lent_of c.end b') g.answers.agrees in
      rw same
      (record {
        side = rw (g.keeps, a.end) refl;
        line = first_of d d' _ len most w ∙ rw (a.outcome, a.count) refl;
        laid = g.answers.stays laid;
      })

  -- a take whose batch is kept
  pub taken : (buf buf' : Bytes) (c r : Called) (kept kept' : Bytes) → CallsTake e b buf c buf' → KeepsBatch c kept buf' r kept'
      → kept_of r.end.kept kept' ≡ kept_after (model_out.take (length buf) (side_of e b kept).end) (kept_of e.kept kept)
  taken buf buf' c r kept kept' g k =
      let call = model_out.take (length buf) in
      let a = agreed x laid call (step_of c) (lent_of c.end b) g.hands.answers.agrees in
      let p = puts x laid call buf buf' (step_of c) (lent_of c.end b) g.hands.answers.agrees g.hands.bytes (take_counts (length buf) (side_of e b kept).end) in
      k.keeps ∙ rw (g.keeps, p, same_size c.segment a.not_zero, a.segment) refl

  -- a read's line has the bytes that it put
  pub was_read : (number size : ℕ) (buf buf' : Bytes) (c : Called) (kept : Bytes) (len most : ℕ) (d d' shown : Bytes) → size ≡ length buf → CallsRead e b buf c buf'
      → shown ≡ take c.count buf' → Wrote d d' 0 len most (bytes_line_of name.Read number c.outcome c.count shown)
      → Acts (lined_read number (model_in.read size (side_of e b kept).end) (kept_of e.kept kept)) c.end b kept len d'
  was_read number size buf buf' c kept len most d d' shown is g front w =
      let call = model_in.read (length buf) in
      let a = agreed x laid call (step_of c) (lent_of c.end b) g.gives.agrees in
      let p = puts x laid call buf buf' (step_of c) (lent_of c.end b) g.gives.agrees g.gives.bytes (read_counts (length buf) (side_of e b kept).end) in
      rw is
      (record {
        side = rw (g.keeps, a.end) refl;
        line =
            first_of d d' _ len most w
            ∙ (ap (λ (t : Bytes). bytes_line_of name.Read number c.outcome c.count t) (front ∙ p) ∙ rw (a.outcome, a.count) refl);
        laid = g.gives.stays laid;
      })

-- a take whose batch was kept
pub kept_take : (e : SessionEnd) (b : Stores) (room : ℕ) (buf buf' : Bytes) (c r : Called) (kept kept' : Bytes) → room ≡ length buf → CallsTake e b buf c buf'
    → KeepsBatch c kept buf' r kept' → Keeps e b room kept r kept'
kept_take e b room buf buf' c r kept kept' is g k =
    rw is
    (record {
      answers = rw k.rest g.hands.answers;
      keeps = λ laid. taken e b laid buf buf' c r kept kept' g k;
    })

-- a take and its line
pub take_lined : (e : SessionEnd) (b : Stores) (number room : ℕ) (c : Called) (kept kept' : Bytes) (end : SessionEnd) (len most : ℕ) (d d' : Bytes) → LaidEnd e b
    → room ≡ 14_000 → Keeps e b room kept c kept' → end ≡ c.end → Wrote d d' 0 len most (line_of name.Take number c.outcome c.count)
    → Acts (lined name.Take number (model_out.take 14_000 (side_of e b kept).end) (kept_after (model_out.take 14_000 (side_of e b kept).end) (kept_of e.kept kept))) end b kept' len d'
take_lined e b number room c kept kept' end len most d d' laid is g same w =
    let call = model_out.take room in
    let a = agreed (x e b laid) laid call (step_of c) (lent_of c.end b) g.answers.agrees in
    rw (sym is, same)
    (record {
      side = rw (g.keeps laid, a.end) refl;
      line = first_of d d' _ len most w ∙ rw (a.outcome, a.count) refl;
      laid = g.answers.stays laid;
    })
