-- A write on the records answers as the model's: if refused, because the lists of refusals are the same; else piece by piece.
use Prim.Native.Nat.{ℕ}
use native.Mathlib.Omega.{arith}
use mathlib.Core.Path.{◌≡◌, refl, sym, ap, ◌∙◌, subst}
use mathlib.Core.List.{List, [], ◌∷◌}
use mathlib.Core.Bool.{Bool, false}
use lib.Dec.{ltb, eqb}
use lib.ListN.{length}
use borrow.Author.Tests.{ltb-false, ne_eqb}
use Rattle.std.specs.Prelude.{⊤, Result, Ok, Err}
use Rattle.error.specs.declared.Refusal.{Refusal}
use Rattle.error.specs.declared.Refusal.TheVariants as refusal
use Rattle.error.specs.declared.Outcome.{Outcome}
use Rattle.model.specs.Lists.{Bytes, is_empty}
use Rattle.model.specs.Stream.{End}
use Rattle.model.specs.Answers.{Answer}
use Rattle.model.specs.Sending.{write, write_refusal, write_loop, written}
use Rattle.records.specs.declared.Stream.{Stream}
use Rattle.records.specs.declared.Totals.{Totals}
use Rattle.records.specs.Seen.{Lent, seen}
use Rattle.records.specs.Open.{stores_test}
use Rattle.write_all.specs.declared.Written.{Written}
use Rattle.write_piece.specs.declared.Outbox.{Outbox}
use Rattle.write_piece.specs.Piece.{with_outbox_lent}
use Rattle.write_all.specs.Write as sending
use Rattle.udx_steps.specs.declared.step.Step.{Step}
use Rattle.udx_steps.specs.Steps.{refused_step}
use Rattle.udx.specs.Agree.{on_records, Agrees, Answers}
use Rattle.rules_lent.specs.Broken.{broken_records}
use Rattle.udx_refusals.specs.Verdicts.{verdict_of, write_verdict}
use Rattle.udx_steps.specs.Write.{outbox_of, outcome_of, written_step}
use Rattle.udx.proofs.RefusalLaws.{write_list, is-refused, is_clear, acts_on, why_of, clear_line, refused_answers, none_not_zero}
use Rattle.udx.proofs.Resting.{ready}
use Rattle.udx.proofs.Unbroken.{Whole, unbroken, still_laid}

empty_is : (bytes : Bytes) → eqb (length bytes) 0 ≡ is_empty bytes
empty_is [] = refl
empty_is (b ∷ bs) = ne_eqb (length (b ∷ bs)) 0 (λ z. (omega arith))

not_refused : (o : Outcome) (why : Refusal) → Ok o ≡ Err why → ⊥
not_refused o why e = let z : ◌≡◌ {A = ℕ} 0 1 = cc in omega arith

-- b is the result of refusal 1's test, v the verdict
module _ (s : Stream) (t : Totals) (l : Lent) (bytes : Bytes) (len : length l.queue ≡ 128) (b : Bool) (is : b ≡ broken_records s t l) (empty : Bool)
    (none : empty ≡ eqb (length bytes) 0) (v : Result ⊤ Refusal) (h : v ≡ write_verdict b s empty) where
  is_empty_is : empty ≡ is_empty bytes
  is_empty_is = none ∙ empty_is bytes

  abbrev acts : End → Answer
  acts e = written bytes (write_loop (length bytes) bytes e)

  says : v ≡ verdict_of (why_of (write_refusal bytes) s t l)
  says = h ∙ (rw (is, is_empty_is) (write_list s t l bytes len))

  pub write_refused : (why : Refusal) → v ≡ Err why → (r : Step) → r ≡ refused_step s t why → Answers (write bytes) s t l r l
  unfolding write
  write_refused why e r is_step =
      rw is_step (refused_answers (write bytes) s t l why (is-refused (write bytes) (write_refusal bytes) acts s t l why (λ e. refl) (sym e ∙ says)))

  module _ (clear : v ≡ Ok tt) where
    kept_resting : (b ≡ false) × (ltb 0 s.queue.left ≡ false)
    unfolding write_verdict
    kept_resting =
        let (one, later) = clear_line b refusal.BrokenRecords _ (sym h ∙ clear) in
        let (six, _) = clear_line (ltb 0 s.queue.left) refusal.BatchesLeft _ later in
        (one, six)

    whole : Whole s t l
    whole = unbroken s t l len (sym is ∙ kept_resting.0)

    pub write_ready : (o : Outbox) → o ≡ outbox_of s t → (outgoing : Bytes) → outgoing ≡ l.outgoing → sending.Ready o (length outgoing)
    write_ready o is_o outgoing is_outgoing = rw (is_o, is_outgoing) (ready s t l len whole (let z = ltb-false 0 s.queue.left kept_resting.1 in omega arith))

    acting : on_records (write bytes) s t l ≡ acts (seen s t l)
    unfolding write
    acting =
        let (laid, nothing) = is_clear (write_refusal bytes) s t l (sym clear ∙ says) in
        acts_on (write bytes) (write_refusal bytes) acts s t l (λ e. refl) laid nothing

    module _ (o : Outbox) (is_o : o ≡ outbox_of s t) (w : Written) (sent' queue' outgoing' : List ℕ)
        (y : sending.Writes o s.ids.remote s.receiver.ack bytes l.sent l.queue l.outgoing w sent' queue' outgoing')
        (same : length outgoing' ≡ length l.outgoing) where
      x : sending.Writes (outbox_of s t) s.ids.remote s.receiver.ack bytes l.sent l.queue l.outgoing w sent' queue' outgoing'
      x = rw is_o at y

      abbrev after : Lent
      after = with_outbox_lent sent' queue' outgoing' l

      abbrev step : Step
      step = written_step s w empty

      agreed : Agrees (acts (seen s t l)) step after
      agreed =
          let count = x.count s l refl refl in
          record {
            outcome = ap (λ (o : Outcome). Ok o) (ap (λ (b : Bool). outcome_of b w.count) is_empty_is ∙ ap (outcome_of (is_empty bytes)) count);
            count = count;
            segment = refl;
            not_zero = none_not_zero;
            end = x.end s l refl refl;
          }

      stores_same : stores_test outgoing' l.incoming l.headers ≡ false
      stores_same = rw same whole.stores

      pub write_answers : (r : Step) → r ≡ step → Answers (write bytes) s t l r after
      write_answers r is_step =
          rw is_step (record {
            agrees = subst (λ (a : Answer). Agrees a step after) (sym acting) agreed;
            stays = λ z. still_laid step.stream after stores_same whole.receiver (x.formed whole.words);
            changes_nothing = λ why z. absurd (not_refused (outcome_of empty w.count) why z);
            beside = record { outgoing = x.beside; incoming = λ i l. refl };
          })
