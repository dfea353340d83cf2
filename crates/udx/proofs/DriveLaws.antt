-- A drive on the records answers as the model's. Its refusals are the model's list. If none applies, it answers done if the stream is
-- drained, else it is `poll_drive` on what is seen; the rules leave enough room in the queue.
use Prim.Native.Nat.{ℕ}
use native.Mathlib.Omega.{arith}
use mathlib.Core.Path.{◌≡◌, refl, sym, ap, ◌∙◌, subst}
use mathlib.Core.List.{List}
use mathlib.Core.Bool.{Bool, true, false, cond}
use lib.ListN.{length}
use Rattle.std.specs.Prelude.{⊤, Result, Ok, Err}
use Rattle.error.specs.declared.Refusal.{Refusal}
use Rattle.error.specs.declared.Outcome.TheVariants.{Ready, Done}
use Rattle.model.specs.Lists.{Bytes}
use Rattle.model.specs.Stream.{End}
use Rattle.model.specs.Answers.{Answer, answered}
use Rattle.model.specs.Driving.{drained, drive_refusal, drive_clock, ended, poll_drive, drive}
use Rattle.model.proofs.RulesKept.{rules_say}
use Rattle.records.specs.declared.Receiver.{Receiver}
use Rattle.records.specs.declared.Stream.{Stream}
use Rattle.records.specs.declared.Totals.{Totals}
use Rattle.records.specs.Seen.{Lent, seen, seen_queue, formed_receiver}
use Rattle.records.specs.Open.{stores_test}
use Rattle.drive_drain.specs.Draining.{Drains}
use Rattle.drive_lost.proofs.RulesDrive.{rules_stored}
use Rattle.records.specs.declared.StreamAndTotals.{StreamAndTotals}
use Rattle.drive_timeouts.specs.Timeouts.{with_polled}
use Rattle.drive_all.specs.Poll.{CanDrive, Polls}
use Rattle.udx_steps.specs.declared.step.Step.{Step}
use Rattle.udx_steps.specs.Steps.{refused_step}
use Rattle.udx.specs.Agree.{on_records, Agrees, Answers}
use Rattle.udx_steps.specs.Drive.{done_step}
use Rattle.udx_steps.specs.Steps.{ready_step}
use Rattle.rules_lent.specs.Broken.{broken_records}
use Rattle.udx_refusals.specs.Verdicts.{early_verdict}
use Rattle.udx.proofs.EarlyLaws.{early_says, early_clear, early_clock}
use Rattle.udx.proofs.RefusalLaws.{is-refused, is_clear, acts_on, refused_answers, none_not_zero}
use Rattle.udx.proofs.Resting.{ready}
use Rattle.udx.proofs.Unbroken.{Whole, unbroken, still_laid, places_used}

-- what a drive does if it is not refused
abbrev acts : ℕ → End → Answer
acts clock e = cond (drained e) (answered Done (ended (drive_clock clock e))) (answered Ready (poll_drive clock e))

module _ (s : Stream) (t : Totals) (l : Lent) (len : length l.queue ≡ 128) (clock : ℕ) (b : Bool) (v : Result ⊤ Refusal) (is : b ≡ broken_records s t l)
    (says : v ≡ early_verdict b s clock) where
  pub drive_refused : (why : Refusal) → v ≡ Err why → (r : Step) → r ≡ refused_step s t why → Answers (drive clock) s t l r l
  unfolding drive
  drive_refused why e r is_step =
      rw is_step (refused_answers (drive clock) s t l why
      (is-refused (drive clock) (drive_refusal clock) (acts clock) s t l why (λ x. refl) (sym e ∙ early_says s t l len clock b v is says)))

  module _ (clear : v ≡ Ok tt) where
    whole : Whole s t l
    whole = unbroken s t l len (early_clear s t l len clock b v is says clear).0

    pub at_rest : s.queue.left ≡ 0
    at_rest = (early_clear s t l len clock b v is says clear).2

    acting : on_records (drive clock) s t l ≡ acts clock (seen s t l)
    unfolding drive
    acting =
        let (laid, nothing) = is_clear (drive_refusal clock) s t l (sym clear ∙ early_says s t l len clock b v is says) in
        acts_on (drive clock) (drive_refusal clock) (acts clock) s t l (λ e. refl) laid nothing

    module _ (done : Bool) (x : Drains s.ending.error s.queue s.sender l.sent done) where
      drains : done ≡ drained (seen s t l)
      drains = x.test s t l refl refl refl refl len

      -- done
      pub drive_done : done ≡ true → (r : Step) → r ≡ done_step clock s t → Answers (drive clock) s t l r l
      unfolding seen
      drive_done e r is_step =
          rw is_step (record {
            agrees =
                subst (λ (a : Answer). Agrees a (done_step clock s t) l)
                (sym (acting ∙ ap (λ (d : Bool). cond d (answered Done (ended (drive_clock clock (seen s t l)))) (answered Ready (poll_drive clock (seen s t l)))) (sym drains ∙ e)))
                (record { outcome = refl; count = refl; segment = refl; not_zero = none_not_zero; end = refl });
            stays = λ h. still_laid (done_step clock s t).stream l whole.stores whole.receiver whole.words;
            changes_nothing = λ why z. absurd (let z' : ◌≡◌ {A = ℕ} 0 1 = cc in omega arith);
            beside = record { outgoing = λ i l. refl; incoming = λ i l. refl };
          })

      -- polled
      module _ (p : StreamAndTotals) (sent' queue' : List ℕ) (headers' : Bytes) (y : Polls s t clock l.sent l.queue l.headers p sent' queue' headers') where
        abbrev after : Lent
        after = with_polled sent' queue' headers' l

        stores_same : stores_test l.outgoing l.incoming headers' ≡ false
        stores_same = let same : length headers' ≡ length l.headers = y.whole ∙ sym whole.headers in rw same whole.stores

        pub drive_answers : done ≡ false → (r : Step) → r ≡ ready_step p → Answers (drive clock) s t l r after
        drive_answers e r is_step =
            rw is_step (record {
              agrees =
                  subst (λ (a : Answer). Agrees a (ready_step p) after)
                  (sym (acting ∙ ap (λ (d : Bool). cond d (answered Done (ended (drive_clock clock (seen s t l)))) (answered Ready (poll_drive clock (seen s t l)))) (sym drains ∙ e)))
                  (record { outcome = refl; count = refl; segment = refl; not_zero = none_not_zero; end = y.seen_after l });
              stays = λ h.
                  still_laid p.stream after stores_same (subst (λ (r : Receiver). formed_receiver r ≡ true) (sym y.receiver) whole.receiver) y.formed;
              changes_nothing = λ why z. absurd (let z' : ◌≡◌ {A = ℕ} 0 1 = cc in omega arith);
              beside = record { outgoing = λ i l. refl; incoming = λ i l. refl };
            })

    -- a queue at rest has at most 63 state packets and an entry for each of 32 numbers
    pub drivable : (sent queue : List ℕ) (headers : Bytes) → sent ≡ l.sent → queue ≡ l.queue → headers ≡ l.headers → CanDrive s clock sent queue headers
    unfolding seen seen_queue
    drivable sent queue headers is_sent is_queue is_headers =
        let k = rules_say (seen s t l) whole.kept in
        let r = ready s t l len whole at_rest in
        let used = places_used whole at_rest in
        let states = (k.rest at_rest).states in
        rw (is_sent, is_queue, is_headers) (record {
          acked = record { range = k.estimate; early = early_clock s t l len clock b v is says clear; largest = k.largest_seq; width = k.seq_near };
          stored = rules_stored s t l whole.kept;
          whole = whole.headers;
          rest = at_rest;
          queued = omega (arith, r.queued, r.near);
          places = omega arith;
          formed = whole.words;
        })
