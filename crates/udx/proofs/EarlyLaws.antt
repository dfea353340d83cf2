-- The refusals that a drive and a delivery share are the model's list for a drive.
use Prim.Native.Nat.{ℕ, ◌^◌, ◌<◌}
use mathlib.Core.Path.{◌≡◌, refl, sym, ap, ◌∙◌}
use mathlib.Core.Option.{none}
use mathlib.Core.Bool.{Bool, true, false, ◌||◌}
use native.Mathlib.Omega.{arith}
use lib.Dec.{ltb, leb}
use lib.ListN.{length}
use borrow.Author.Tests.{ltb-false, leb-false}
use Rattle.error.specs.declared.Refusal.{Refusal}
use Rattle.std.specs.Prelude.{⊤, Result, Ok}
use Rattle.error.specs.declared.Refusal.TheVariants as refusal
use Rattle.model.specs.Driving.{drive_refusal}
use Rattle.records.specs.declared.Stream.{Stream}
use Rattle.records.specs.declared.Totals.{Totals}
use Rattle.records.specs.Seen.{Lent, seen, seen_queue}
use Rattle.rules_lent.specs.Broken.{broken_records}
use Rattle.udx_refusals.specs.Verdicts.{verdict_of, early_verdict}
use Rattle.udx.proofs.RefusalLaws.{line, clear_line, refusal_one, why_of}

or_left : (a b : Bool) → (a || b) ≡ false → a ≡ false
or_left false b e = refl
or_left true b e = e

module _ (s : Stream) (t : Totals) (l : Lent) (len : length l.queue ≡ 128) (clock : ℕ) where
  early_list : early_verdict (broken_records s t l) s clock ≡ verdict_of (why_of (drive_refusal clock) s t l)
  unfolding early_verdict drive_refusal seen seen_queue
  early_list =
      refusal_one s t l _ _ len
      (line (leb (2 ^ 60) clock || ltb clock s.clocks.last.0) refusal.BadClock _ _
      (line s.ending.ended refusal.AfterDone _ _ (line (ltb 0 s.queue.left) refusal.BatchesLeft (Ok tt) none refl)))

  module _ (b : Bool) (v : Result ⊤ Refusal) (is : b ≡ broken_records s t l) (says : v ≡ early_verdict b s clock) where
    -- the verdict
    pub early_says : v ≡ verdict_of (why_of (drive_refusal clock) s t l)
    early_says = says ∙ ap (λ (x : Bool). early_verdict x s clock) is ∙ early_list

    -- what a clear verdict implies: no refusal 1, a good clock, nothing left to take
    pub early_clear : v ≡ Ok tt
        → (broken_records s t l ≡ false) × ((leb (2 ^ 60) clock || ltb clock s.clocks.last.0) ≡ false) × (s.queue.left ≡ 0)
    unfolding early_verdict
    early_clear clear =
        let (one, a) = clear_line b refusal.BrokenRecords _ (sym says ∙ clear) in
        let (four, c) = clear_line (leb (2 ^ 60) clock || ltb clock s.clocks.last.0) refusal.BadClock _ a in
        let (_, d) = clear_line s.ending.ended refusal.AfterDone _ c in
        let (six, _) = clear_line (ltb 0 s.queue.left) refusal.BatchesLeft _ d in
        let z = ltb-false 0 s.queue.left six in
        (sym is ∙ one, four, omega arith)

    pub early_clock : v ≡ Ok tt → clock < 2 ^ 60
    early_clock clear = leb-false (2 ^ 60) clock (or_left (leb (2 ^ 60) clock) (ltb clock s.clocks.last.0) (early_clear clear).1)
