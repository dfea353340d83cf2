-- Demand 2 in 01's sentences: each from the field of the promise that renders it. What follows from an answer that is the model's is
-- derived once, for every way to make a call.
use native.Mathlib.Omega.{arith}
use mathlib.Core.Path.{◌≡◌, refl, sym, ap, ◌∙◌, subst}
use mathlib.Core.Option.{none}
use mathlib.Core.Bool.{true}
use lib.ListN.{length}
use borrow.Author.Tests.{lt-ltb, le-ltb}
use Rattle.std.specs.Prelude.{Err}
use Rattle.model.specs.Lists.{Bytes}
use Rattle.model.specs.Slots.{ceiling, get}
use Rattle.model.specs.Stream.{End}
use Rattle.model.specs.Answers.{Answer}
use Rattle.model.specs.Rules.{rules}
use Rattle.model.specs.Driving.{look}
use Rattle.model.specs.Calls.{Call, answer}
use Rattle.model_rules.proofs.NeverBroken.{never_broken}
use Rattle.records.specs.Seen.{seen_queue, seen}
use Rattle.records.proofs.SeenOutgoing.{outgoing_length}
use Rattle.promise.specs.Runs.{Records, seen_of, call_of, calls_of, Event, Did, answer_of, Same}
use Rattle.promise.proofs.Runs.{open_clear, same_as_model}
use Rattle.udx_c_numbers.specs.Flat.{stream_of, totals_of}
use Rattle.udx_c.specs.declared.look.FlatPart.{FlatPart}
use Rattle.udx_c.specs.Shown.{ShownBy}
use Rattle.promise_ways.specs.Calls.{Plain, PlainEvent, PlainDid, opened_of, records_of, event_of, events_of}
use Rattle.promise_ways.specs.FromC.{SameInC}
use Rattle.promise_ways.specs.Mixed.{Mixed, as_event, as_events, MixedDid, SameEitherWay}
use Rattle.promise_ways.proofs.FromC.{one_is, opened_in_c, same_from_c}
use Rattle.promise_ways.proofs.Mixed.{opened_either, same_mixed}
use Rattle.promise_sentences.specs.ShutOut.{LiveAnswer}
use Rattle.promise_sentences.specs.Answers.{numbers_of, Answering, Shows, AfterCalls, DemandTwoOnRecords, ShowsInC, AfterCallsInC, DemandTwoFromC, AfterMixedCalls, DemandTwoMixed}
use Rattle.promise_sentences.proofs.ShutOut.{live_answer}

-- calls that answer as the model does

module _ (e : End) (slots : length e.sender.outgoing ≡ ceiling) (Next : Type 0) (Known : Next → Type 0) (call : Next → Call) (result : Next → Answer) (is : (v : Next) → Known v → result v ≡ answer (call v) e) where
  answering : Answering e Next Known call (λ v. (result v).outcome) (λ v. (result v).count) (λ v. (result v).bytes) (λ v. (result v).segment) (λ v. (result v).end)
  answering =
      record {
        outcomes = λ v k. ap (λ (a : Answer). a.outcome) (is v k);
        counts = λ v k. ap (λ (a : Answer). a.count) (is v k);
        puts = λ v k. ap (λ (a : Answer). a.bytes) (is v k);
        segments = λ v k. ap (λ (a : Answer). a.segment) (is v k);
        ends = λ v k. ap (λ (a : Answer). a.end) (is v k);
        live = λ v k. subst (LiveAnswer (call v) e) (sym (is v k)) (live_answer (call v) e slots);
      }

-- what look shows

pub shows : (shown : Bytes) (e : End) → rules e ≡ true → shown ≡ look e → Shows shown e
unfolding look
shows shown e ok is =
    record {
      first = λ more. is ∙ rw (ok, lt-ltb 0 e.queue.left more) refl;
      none_left = λ none. is ∙ rw (ok, le-ltb 0 e.queue.left (omega arith)) refl;
    }

-- on the records

slots_of : (x : Records) (e : End) → seen_of x ≡ e → length e.sender.outgoing ≡ ceiling
unfolding seen
slots_of x e is = ap (λ (z : End). length z.sender.outgoing) (sym is) ∙ outgoing_length _ _ _ _

after_calls : (x : Records) (e : End) → rules e ≡ true → Same x e → AfterCalls x e
unfolding seen seen_queue
after_calls x e ok same =
    let slots = slots_of x e same.end in
    record {
      numbers = ap numbers_of same.end;
      stored = λ n. ap (λ (z : End). get z.sender.outgoing n) same.end;
      held = λ n. ap (λ (z : End). get z.receiver.incoming n) same.end;
      queued = ap (λ (z : End). z.queue.entries) same.end;
      next = answering e slots Event (Did x) (λ v. call_of v.request) answer_of same.next;
      never_one = λ v d why o one. same.unbroken v d (o ∙ ap Err (one_is why one));
      look = shows _ e ok same.shown;
    }

pub demand_two_on_records : DemandTwoOnRecords
demand_two_on_records local remote segments clock l o h events run =
    after_calls _ _ (never_broken local remote segments clock (open_clear local remote segments clock l o h) (calls_of events)).0
    (same_as_model local remote segments clock l o h events run)

-- from C

shows_in_c : (x : Plain) (e : End) (p : FlatPart) → rules e ≡ true → ShownBy (look e) x.lent.outgoing x.lent.headers p → ShowsInC x e p
shows_in_c x e p ok s =
    record { bytes = shows _ e ok s.bytes; long = s.long ∙ ap length (sym s.bytes); flag = s.flag; within = s.within }

after_calls_in_c : (x : Plain) (e : End) → SameInC x e → rules e ≡ true → AfterCallsInC x e
unfolding stream_of totals_of seen seen_queue
after_calls_in_c x e same ok =
    let slots = slots_of (records_of x) e same.records.end in
    record {
      numbers = ap numbers_of same.records.end;
      records = after_calls (records_of x) e ok same.records;
      next = answering e slots PlainEvent (PlainDid x) (λ v. call_of v.request) (λ v. answer_of (event_of v)) same.next;
      never_one = same.unbroken;
      look = λ p h. shows_in_c x e p ok (same.shown p h);
    }

pub demand_two_from_c : DemandTwoFromC
demand_two_from_c local remote segments clock l o h events run =
    let clear = open_clear local remote segments clock l (opened_of o) (opened_in_c local remote segments clock l o h) in
    after_calls_in_c _ _ (same_from_c local remote segments clock l o h events run)
    (never_broken local remote segments clock clear (calls_of (events_of events))).0

-- with the ways mixed

after_mixed : (x : Records) (e : End) → rules e ≡ true → SameEitherWay x e → AfterMixedCalls x e
after_mixed x e ok same =
    let slots = slots_of x e same.records.end in
    record {
      records = after_calls x e ok same.records;
      next = answering e slots Mixed (MixedDid x) (λ v. call_of (as_event v).request) (λ v. answer_of (as_event v)) same.next;
      never_one = λ v d why o one. same.unbroken v d (o ∙ ap Err (one_is why one));
      look = λ n h p looks. shows_in_c n e p ok (same.shown n h p looks);
    }

pub demand_two_mixed : DemandTwoMixed
demand_two_mixed local remote segments clock l o h calls run =
    let clear = open_clear local remote segments clock l o (opened_either local remote segments clock l o h) in
    after_mixed _ _ (never_broken local remote segments clock clear (calls_of (as_events calls))).0 (same_mixed local remote segments clock l o h calls run)
