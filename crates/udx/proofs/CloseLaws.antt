-- A close on the records answers as the model's. Its refusals are the same: the number of state packets queued is the number of places
-- used, since none is gone while nothing is left to take. A close that is not refused has a place for its state packet, and is the model's
-- `terminate` on what is seen.
use Prim.Native.Nat.{ℕ, ◌<◌}
use native.Mathlib.Omega.{arith}
use mathlib.Core.Path.{◌≡◌, refl, sym, ap, ◌∙◌, subst}
use mathlib.Core.List.{List}
use mathlib.Core.Option.{Option, none, some}
use mathlib.Core.Bool.{Bool, true, false, cond}
use lib.Dec.{ltb, leb}
use lib.ListN.{length}
use borrow.Author.Tests.{ltb-false, leb-false}
use Rattle.std.specs.Prelude.{⊤, Result, Ok, Err}
use Rattle.error.specs.declared.UdxError.TheVariants.{ConnectionReset}
use Rattle.error.specs.declared.Refusal.{Refusal}
use Rattle.error.specs.declared.Refusal.TheVariants as refusal
use Rattle.error.specs.declared.Outcome.TheVariants.{Ready}
use Rattle.model.specs.Lists.{Bytes}
use Rattle.model.specs.Stream.{End}
use Rattle.model.specs.Answers.{Answer, answered}
use Rattle.model.specs.Rules.{states}
use Rattle.model.specs.Sending.{terminate, close, close_refusal}
use Rattle.records.specs.declared.Receiver.{Receiver}
use Rattle.records.specs.declared.Stream.{Stream}
use Rattle.records.specs.declared.StreamAndTotals.{StreamAndTotals}
use Rattle.records.specs.declared.Totals.{Totals}
use Rattle.records.specs.Seen.{Lent, seen, seen_queue, formed_receiver}
use Rattle.close_state.specs.State.{Pushable, Terminates, with_state}
use Rattle.udx_steps.specs.declared.step.Step.{Step}
use Rattle.udx_steps.specs.Steps.{ready_step}
use Rattle.udx_steps.specs.Steps.{refused_step}
use Rattle.udx.specs.Agree.{on_records, Agrees, Answers}
use Rattle.rules_lent.specs.Broken.{broken_records}
use Rattle.udx_refusals.specs.Verdicts.{verdict_of, close_verdict}
use Rattle.udx.proofs.RefusalLaws.{line, clear_line, refusal_one, why_of, is-refused, is_clear, acts_on, refused_answers, none_not_zero}
use Rattle.udx.proofs.Resting.{ready}
use Rattle.udx.proofs.Unbroken.{Whole, unbroken, still_laid, places_used}

-- refusals 6 and 13 test two numbers of the queue; the second matters only if the first is 0
last_lines : (left k n : ℕ) → (left ≡ 0 → k ≡ n)
    → cond (ltb 0 left) (Err refusal.BatchesLeft) (cond (leb 63 k) (Err refusal.StateQueueFull) (Ok tt))
    ≡ verdict_of (cond (ltb 0 left) (some refusal.BatchesLeft) (cond (leb 63 n) (some refusal.StateQueueFull) none))
last_lines left k n same = go (ltb 0 left) refl
  where
    go : (b : Bool) → ltb 0 left ≡ b
        → cond b (Err refusal.BatchesLeft) (cond (leb 63 k) (Err refusal.StateQueueFull) (Ok tt))
        ≡ verdict_of (cond b (some refusal.BatchesLeft) (cond (leb 63 n) (some refusal.StateQueueFull) none))
    go true e = refl
    go false e =
        let h = ltb-false 0 left e in
        rw (same (omega arith)) (line (leb 63 n) refusal.StateQueueFull (Ok tt) none refl)

module _ (s : Stream) (t : Totals) (l : Lent) (len : length l.queue ≡ 128) where
  -- the state packets queued
  abbrev queued : ℕ
  queued = states (seen_queue s.queue l.queue l.headers).entries

  -- the refusals after the first
  abbrev later_why : Option Refusal
  later_why =
      cond s.ending.ended (some refusal.AfterDone)
      (cond (ltb 0 s.queue.left) (some refusal.BatchesLeft) (cond (leb 63 queued) (some refusal.StateQueueFull) none))

  -- they matter only if refusal 1 does not apply
  later : (b : Bool) → broken_records s t l ≡ b → close_verdict b s ≡ cond b (Err refusal.BrokenRecords) (verdict_of later_why)
  unfolding close_verdict
  later true e = refl
  later false e = line s.ending.ended refusal.AfterDone _ _ (last_lines s.queue.left s.queue.states queued (places_used (unbroken s t l len e)))

  pub close_list : close_verdict (broken_records s t l) s ≡ verdict_of (why_of close_refusal s t l)
  unfolding close_refusal seen seen_queue
  close_list = later (broken_records s t l) refl ∙ refusal_one s t l (verdict_of later_why) later_why len refl

  -- b is the result of refusal 1's test, v the verdict
  module _ (b : Bool) (is : b ≡ broken_records s t l) (v : Result ⊤ Refusal) (h : v ≡ close_verdict b s) where
    acts : End → Answer
    acts e = answered Ready (terminate ConnectionReset e)

    says : v ≡ verdict_of (why_of close_refusal s t l)
    says = h ∙ ap (λ (x : Bool). close_verdict x s) is ∙ close_list

    pub close_refused : (why : Refusal) → v ≡ Err why → (r : Step) → r ≡ refused_step s t why → Answers close s t l r l
    unfolding close acts
    close_refused why e r is_step =
        rw is_step (refused_answers close s t l why (is-refused close close_refusal acts s t l why (λ e. refl) (sym e ∙ says)))

    module _ (clear : v ≡ Ok tt) where
      tests : (b ≡ false) × (s.queue.left ≡ 0) × (s.queue.states < 63)
      unfolding close_verdict
      tests =
          let (one, x) = clear_line b refusal.BrokenRecords _ (sym h ∙ clear) in
          let (_, y) = clear_line s.ending.ended refusal.AfterDone _ x in
          let (six, z) = clear_line (ltb 0 s.queue.left) refusal.BatchesLeft _ y in
          let (thirteen, _) = clear_line (leb 63 s.queue.states) refusal.StateQueueFull _ z in
          let none_left = ltb-false 0 s.queue.left six in
          (one, omega arith, leb-false 63 s.queue.states thirteen)

      whole : Whole s t l
      whole = unbroken s t l len (sym is ∙ tests.0)

      -- there is room for the state packet: a queue at rest has at most 32 packets besides its state packets
      pub closable : (headers : Bytes) → headers ≡ l.headers → Pushable s.queue (length headers)
      closable headers is_headers =
          let (_, rest, few) = tests in
          let r = ready s t l len whole rest in
          rw is_headers (record { whole = whole.headers; rest = rest; queued = omega (arith, r.queued, r.near); places = omega arith })

      acting : on_records close s t l ≡ acts (seen s t l)
      unfolding close acts
      acting =
          let (laid, nothing) = is_clear close_refusal s t l (sym clear ∙ says) in
          acts_on close close_refusal acts s t l (λ e. refl) laid nothing

      module _ (c : StreamAndTotals) (queue' : List ℕ) (headers' : Bytes) (y : Terminates s t ConnectionReset l.queue l.headers c queue' headers') where
        abbrev after : Lent
        after = with_state queue' headers' l

        agreed : Agrees (acts (seen s t l)) (ready_step c) after
        unfolding acts
        agreed = record { outcome = refl; count = refl; segment = refl; not_zero = none_not_zero; end = y.seen_after whole.words l }

        pub close_answers : (r : Step) → r ≡ ready_step c → Answers close s t l r after
        close_answers r is_step =
            let same : length headers' ≡ length l.headers = y.pushed.whole ∙ sym whole.headers in
            let receiver = ap (λ (x : Stream). x.receiver) y.others in
            rw is_step (record {
              agrees = subst (λ (a : Answer). Agrees a (ready_step c) after) (sym acting) agreed;
              stays = λ z.
                  still_laid c.stream after (rw same whole.stores) (subst (λ (r : Receiver). formed_receiver r ≡ true) (sym receiver) whole.receiver)
                  (y.pushed.formed whole.words);
              changes_nothing = λ why z. absurd (let z' : ◌≡◌ {A = ℕ} 0 1 = cc in omega arith);
              beside = record { outgoing = λ i l. refl; incoming = λ i l. refl };
            })
