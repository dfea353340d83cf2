-- A take on the records answers as the model's: refused, with nothing left, or the next batch.
use Prim.Native.Nat.{ℕ, ◌≤◌, ◌<◌}
use native.Mathlib.Omega.{arith}
use mathlib.Core.Path.{◌≡◌, refl, sym, ap, ◌∙◌, subst}
use mathlib.Core.List.{List, [], ◌∷◌}
use mathlib.Core.Option.{none, some}
use mathlib.Core.Bool.{Bool, true, false, cond}
use lib.Dec.{ltb, eqb}
use lib.ListN.{length}
use borrow.Author.Tests.{ltb-false, lt-ltb}
use Rattle.std.specs.Prelude.{⊤, Result, Ok, Err, None, Some, ◌≢◌}
use Rattle.error.specs.declared.Refusal.{Refusal}
use Rattle.error.specs.declared.Refusal.TheVariants as refusal
use Rattle.error.specs.declared.Outcome.TheVariants.{Ready, Nothing}
use Rattle.model.specs.Lists.{Bytes}
use Rattle.model.specs.Stream.{Entry, state, packet, End}
use Rattle.model.specs.Slots.{Slots}
use Rattle.model.specs.Stream as model
use Rattle.model.specs.Answers.{Answer, answered}
use Rattle.model.specs.RulesKept.{Every, EntryKept}
use Rattle.model.proofs.RulesKept.{rules_say}
use Rattle.model.specs.Driving.{take, take_refusal, take_answer, take_loop, batch, head_length, segment_of}
use Rattle.records.specs.declared.Stream.{Stream}
use Rattle.records.specs.declared.Totals.{Totals}
use Rattle.records.specs.Put.{put}
use Rattle.records.specs.Seen.{Lent, seen, seen_queue}
use Rattle.records.proofs.FormedQueue.{queue_said}
use Rattle.take_next.specs.declared.Handed.{Handed}
use Rattle.take_next.specs.Take.{taken_stream, taken_lent, Sendable, segment_size, HandedOut, HandsOut}
use Rattle.take_next.proofs.RulesTake.{own_lends, rules_take}
use Rattle.udx.specs.Agree as agree
use Rattle.udx_steps.specs.declared.step.Step.{Step}
use Rattle.udx_steps.specs.Steps.{refused_step}
use Rattle.udx.specs.Agree.{on_records, Agrees}
use Rattle.rules_lent.specs.Broken.{broken_records}
use Rattle.udx_refusals.specs.Verdicts.{verdict_of, take_verdict}
use Rattle.udx_steps.specs.Take.{nothing_step, taken_step}
use Rattle.udx.specs.Take.{Hands}
use Rattle.udx.proofs.RefusalLaws.{line, refusal_one, why_of, is-refused, is_clear, acts_on, clear_line, refused_answers, puts_nothing, none_not_zero}
use Rattle.udx.proofs.Unbroken.{Whole, unbroken, still_laid}

-- a batch's segment size is that of its first entry, which has 20 bytes or more

segment_is : (k m : ℕ) → agree.segment_of (segment_size k m) ≡ segment_of k m
segment_is k m = go (eqb k 1)
  where
    go : (b : Bool) → agree.segment_of (cond b None (Some m)) ≡ cond b none (some m)
    go true = refl
    go false = refl

size_not_zero : (k m : ℕ) → 20 ≤ m → segment_size k m ≢ Some 0
size_not_zero k m h = go (eqb k 1)
  where
    go : (b : Bool) → cond b None (Some m) ≢ Some 0
    go true e = none_not_zero e
    go false e = let z : m ≡ 0 = cc in omega arith

head_some : (outgoing : Slots model.Packet) (q : List Entry) → Every (EntryKept outgoing) q → 0 < length q → 20 ≤ head_length q
head_some outgoing [] k h = absurd (omega arith)
head_some outgoing (state b ∷ q) k h = let z = k.0 in omega arith
head_some outgoing (packet n l ∷ q) k h = let (a, b, c) = k.0 in omega arith

ready_other : (why : Refusal) → (Ok Ready) ≡ Err why → ⊥
ready_other why q = let z : ◌≡◌ {A = ℕ} 0 1 = cc in omega arith

-- b is the result of refusal 1's test, v the verdict
module _ (s : Stream) (t : Totals) (l : Lent) (buf : Bytes) (len : length l.queue ≡ 128) (b : Bool) (is : b ≡ broken_records s t l)
    (v : Result ⊤ Refusal) (h : v ≡ take_verdict b (length buf)) where
  abbrev acts : End → Answer
  acts e = cond (ltb 0 e.queue.left) (take_answer (take_loop (batch e) e.queue.entries e) e) (answered Nothing e)

  says : v ≡ verdict_of (why_of (take_refusal (length buf)) s t l)
  unfolding take_verdict take_refusal
  says = h ∙ (rw is (refusal_one s t l _ _ len (line (ltb (length buf) 14_000) refusal.ShortBuffer (Ok tt) none refl)))

  pub take_refused : (why : Refusal) → v ≡ Err why → (step : Step) → step ≡ refused_step s t why → Hands s t l buf step l buf
  unfolding take
  take_refused why e step is_step =
      let a = is-refused (take (length buf)) (take_refusal (length buf)) acts s t l why (λ e. refl) (sym e ∙ says) in
      rw is_step (record { answers = refused_answers (take (length buf)) s t l why a; bytes = puts_nothing buf (on_records (take (length buf)) s t l) (ap (λ (z : Answer). z.bytes) a) })

  module _ (clear : v ≡ Ok tt) where
    acting : on_records (take (length buf)) s t l ≡ acts (seen s t l)
    unfolding take
    acting =
        let (laid, nothing) = is_clear (take_refusal (length buf)) s t l (sym clear ∙ says) in
        acts_on (take (length buf)) (take_refusal (length buf)) acts s t l (λ e. refl) laid nothing

    -- nothing is left to take
    pub take_nothing : s.queue.left ≡ 0 → (step : Step) → step ≡ nothing_step s t → Hands s t l buf step l buf
    unfolding seen seen_queue
    take_nothing z step is_step =
        let e : on_records (take (length buf)) s t l ≡ answered Nothing (seen s t l) = acting ∙ rw z refl in
        rw is_step (record {
          answers =
              record {
                agrees = subst (λ (a : Answer). Agrees a (nothing_step s t) l) (sym e) (record { outcome = refl; count = refl; segment = refl; not_zero = none_not_zero; end = refl });
                stays = λ z. z;
                changes_nothing = λ why z. record { stream = refl; totals = refl; lent = refl };
                beside = record { outgoing = λ i l. refl; incoming = λ i l. refl };
              };
          bytes = puts_nothing buf (on_records (take (length buf)) s t l) (ap (λ (a : Answer). a.bytes) e);
        })

    kept_room : (b ≡ false) × (14_000 ≤ length buf)
    unfolding take_verdict
    kept_room =
        let (one, later) = clear_line b refusal.BrokenRecords _ (sym h ∙ clear) in
        let (two, _) = clear_line (ltb (length buf) 14_000) refusal.ShortBuffer _ later in
        (one, ltb-false (length buf) 14_000 two)

    whole : Whole s t l
    whole = unbroken s t l len (sym is ∙ kept_room.0)

    module _ (some_left : s.queue.left ≢ 0) where
      here : 0 < s.queue.left
      here = omega arith

      pub take_sendable : (sent queue : List ℕ) (outgoing headers : Bytes) → sent ≡ l.sent → queue ≡ l.queue → outgoing ≡ l.outgoing → headers ≡ l.headers
          → Sendable s.queue s.sender s.ids.segments s.clocks.drive.0 sent queue outgoing headers buf
      take_sendable sent queue outgoing headers is_sent is_queue is_outgoing is_headers =
          rw (is_sent, is_queue, is_outgoing, is_headers) (rules_take s t l whole.kept whole.queue whole.outgoing whole.headers buf here kept_room.1)

      head_least : 20 ≤ head_length (seen s t l).queue.entries
      unfolding seen seen_queue
      head_least =
          let k = rules_say (seen s t l) whole.kept in
          let all = (k.to_take (λ z. (omega arith))).whole in
          head_some (seen s t l).sender.outgoing (seen s t l).queue.entries k.entries (subst (λ (n : ℕ). 0 < n) all here)

      batch_answer : on_records (take (length buf)) s t l ≡ take_answer (take_loop (batch (seen s t l)) (seen s t l).queue.entries (seen s t l)) (seen s t l)
      unfolding seen seen_queue
      batch_answer = acting ∙ rw (lt-ltb 0 s.queue.left here) refl

      module _ (r : Handed) (sent' : List ℕ) (buf' : Bytes)
          (x : HandsOut s.queue s.sender s.ids.segments s.clocks.drive.0 l.sent l.queue l.outgoing l.headers buf r sent' buf') where
        abbrev after : Lent
        after = taken_lent sent' l

        handed : HandedOut (seen s t l) (seen (taken_stream r.queue s) t after) buf r.count r.segment buf'
        handed = x.hands s t l (own_lends s l) refl refl

        agreed : Agrees (take_answer (take_loop (batch (seen s t l)) (seen s t l).queue.entries (seen s t l)) (seen s t l)) (taken_step s t r) after
        agreed =
            let e = seen s t l in
            record {
              outcome = refl;
              count = handed.took.count;
              segment = ap agree.segment_of handed.size ∙ segment_is (batch e) (head_length e.queue.entries);
              not_zero = λ z. size_not_zero (batch e) (head_length e.queue.entries) head_least (sym handed.size ∙ z);
              end = handed.took.end;
            }

        pub take_batch : (step : Step) → step ≡ taken_step s t r → Hands s t l buf step after buf'
        take_batch step is_step =
            rw is_step (record {
              answers =
                  record {
                    agrees = subst (λ (a : Answer). Agrees a (taken_step s t r) after) (sym batch_answer) agreed;
                    stays = λ z. still_laid (taken_stream r.queue s) after whole.stores whole.receiver (queue_said r.queue l.queue x.formed);
                    changes_nothing = λ why z. absurd (ready_other why z);
                    beside = record { outgoing = λ i l. refl; incoming = λ i l. refl };
                  };
              bytes = handed.took.bytes ∙ ap (λ (a : Answer). put buf 0 a.bytes) (sym batch_answer);
            })
