-- The proof of demand 2 over any list of calls. An open hands out records that are laid out and seen as the model's fresh end; on records
-- that are laid out, each contract gives the model's answer and keeps them laid out. That refusal 1 never occurs is then the model's
-- `never_broken`.
use Prim.Native.Nat.{ℕ, ◌+◌, ◌<◌, ◌^◌}
use native.Mathlib.Omega.{arith}
use mathlib.Core.Path.{◌≡◌, refl, sym, ap, ◌∙◌, subst}
use mathlib.Core.List.{List, [], ◌∷◌}
use mathlib.Core.Option.{Option, none, some}
use mathlib.Core.Bool.{true, false, cond}
use lib.Dec.{ltb}
use lib.ListN.{length, take, drop}
use lib.Seq.{take-append_seam}
use borrow.Author.Tests.{leb-false}
use Rattle.std.specs.Prelude.{Ok}
use Rattle.error.specs.declared.Refusal.{Refusal}
use Rattle.error.specs.declared.Outcome.TheVariants.{Ready, Nothing}
use Rattle.model.specs.Lists.{Bytes}
use Rattle.model.specs.Stream.{End, fresh}
use Rattle.model.specs.Answers.{Test, Answer, answered}
use Rattle.model.specs.Sending as model
use Rattle.model.specs.Receiving as model_in
use Rattle.model.specs.Driving as model_out
use Rattle.model.specs.Calls.{answer, after}
use Rattle.model.proofs.Lists.{by-test}
use Rattle.model.proofs.Gate.{by_gate, clear}
use Rattle.model_rules.proofs.Invariant.{Invariant}
use Rattle.model_rules.proofs.InvariantCalls.{open_keeps, call_keeps}
use Rattle.model_rules.proofs.NeverBroken.{never_broken}
use Rattle.records.specs.declared.«open».Opened.{Opened}
use Rattle.records.specs.Put.{put}
use Rattle.records.specs.Seen.{Lent, seen}
use Rattle.records.specs.Open.{fresh_stream, stores_test, open_why, opened_outcome}
use Rattle.records.proofs.SeenFresh.{seen_fresh, fresh_formed}
use Rattle.udx_steps.specs.declared.step.Step.{Step}
use Rattle.udx.specs.Agree.{laid_out, on_records, segment_of, Agrees, Answers}
use Rattle.udx.specs.Look.{shown_of}
use Rattle.promise.specs.Runs.{Records, seen_of, Request, to_write, to_deliver, to_drive, to_take, to_read, to_close, call_of, Event, left, DidWith, Did, answer_of, Run, last_of, calls_of, OpenedBy, handed_out, SameAsModel}

-- which calls of the model put bytes, and how many

write_none : (bytes : Bytes) (e : End) → (model.write bytes e).bytes ≡ []
unfolding model.write
write_none bytes e =
    by_gate (λ a. a.bytes ≡ []) (model.write_refusal bytes e) e (model.written bytes (model.write_loop (length bytes) bytes e)) (λ why. refl) (λ z. refl)

close_none : (e : End) → (model.close e).bytes ≡ []
unfolding model.close
close_none e = by_gate (λ a. a.bytes ≡ []) (model.close_refusal e) e _ (λ why. refl) (λ z. refl)

deliver_none : (datagram : Bytes) (clock : ℕ) (e : End) → (model_in.deliver datagram clock e).bytes ≡ []
unfolding model_in.deliver
deliver_none datagram clock e = by_gate (λ a. a.bytes ≡ []) (model_in.deliver_refusal datagram clock e) e _ (λ why. refl) (λ z. refl)

drive_none : (clock : ℕ) (e : End) → (model_out.drive clock e).bytes ≡ []
unfolding model_out.drive
drive_none clock e =
    by_gate (λ a. a.bytes ≡ []) (model_out.drive_refusal clock e) e _ (λ why. refl)
    (λ z. by-test (λ (a : Answer). a.bytes ≡ []) (model_out.drained e) _ _ (λ z. refl) (λ z. refl))

pub take_counts : (room : ℕ) (e : End) → (model_out.take room e).count ≡ length (model_out.take room e).bytes
unfolding model_out.take
take_counts room e =
    let batch = model_out.take_answer (model_out.take_loop (model_out.batch e) e.queue.entries e) e in
    by_gate (λ a. a.count ≡ length a.bytes) (model_out.take_refusal room e) e (cond (ltb 0 e.queue.left) batch (answered Nothing e)) (λ why. refl)
    (λ z. by-test (λ (a : Answer). a.count ≡ length a.bytes) (ltb 0 e.queue.left) batch (answered Nothing e) (λ z. refl) (λ z. refl))

pub read_counts : (room : ℕ) (e : End) → (model_in.read room e).count ≡ length (model_in.read room e).bytes
unfolding model_in.read
read_counts room e =
    by_gate (λ a. a.count ≡ length a.bytes) (model_in.read_refusal e) e (model_in.read_answer (model_in.read_next room e.receiver) e) (λ why. refl) (λ z. refl)

-- one call

-- bytes put at the front are the first of the buffer
pub front : (buf bytes : Bytes) → take (length bytes) (put buf 0 bytes) ≡ bytes
unfolding put
front buf bytes = take-append_seam bytes (drop (0 + length bytes) buf)

-- a step that agrees with the model's answer, with the same bytes, is that answer
same_answer : (a : Answer) (r : Step) (after : Lent) (bytes : Bytes) → Agrees a r after → bytes ≡ a.bytes
    → record { outcome = r.outcome; count = r.count; bytes = bytes; segment = segment_of r.segment; end = seen r.stream r.totals after } ≡ a
same_answer a r after bytes g e = rw (g.outcome, g.count, e, g.segment, g.end) refl

module _ (x : Records) (laid : laid_out x.stream x.lent ≡ true) where
  pub on_laid : (call : End → Answer) → on_records call x.stream x.totals x.lent ≡ call (seen_of x)
  unfolding on_records
  on_laid call = rw laid refl

  pub agreed : (call : End → Answer) (r : Step) (after : Lent) → Agrees (on_records call x.stream x.totals x.lent) r after → Agrees (call (seen_of x)) r after
  agreed call r after g = subst (λ (a : Answer). Agrees a r after) (on_laid call) g

  -- the first `count` bytes of the buffer are those that the model's call puts
  pub puts : (call : End → Answer) (buf buf' : Bytes) (r : Step) (after : Lent) → Agrees (on_records call x.stream x.totals x.lent) r after
      → buf' ≡ put buf 0 (on_records call x.stream x.totals x.lent).bytes → (call (seen_of x)).count ≡ length (call (seen_of x)).bytes
      → take r.count buf' ≡ (call (seen_of x)).bytes
  puts call buf buf' r after g e n =
      let a = call (seen_of x) in
      let k : r.count ≡ length a.bytes = (agreed call r after g).count ∙ n in
      let b : buf' ≡ put buf 0 a.bytes = e ∙ ap (λ (z : Answer). put buf 0 z.bytes) (on_laid call) in
      rw (k, b) (front buf a.bytes)

  answers : (call : End → Answer) (r : Step) (after : Lent) → Answers call x.stream x.totals x.lent r after → (call (seen_of x)).bytes ≡ []
      → record { outcome = r.outcome; count = r.count; bytes = []; segment = segment_of r.segment; end = seen r.stream r.totals after } ≡ call (seen_of x)
  answers call r after g e = same_answer (call (seen_of x)) r after [] (agreed call r after g.agrees) (sym e)

  did_answers : (q : Request) (r : Step) (after : Lent) (buf' : Bytes) → DidWith x q r after buf'
      → answer_of (record { request = q; step = r; lent = after; buf = buf' }) ≡ answer (call_of q) (seen_of x)
  did_answers (to_write bytes) r after buf' d = answers (model.write bytes) r after d (write_none bytes (seen_of x))
  did_answers (to_deliver datagram clock) r after buf' d = answers (model_in.deliver datagram clock) r after d (deliver_none datagram clock (seen_of x))
  did_answers (to_drive clock) r after buf' d = answers (model_out.drive clock) r after d (drive_none clock (seen_of x))
  did_answers (to_take buf) r after buf' d =
      let call = model_out.take (length buf) in
      same_answer (call (seen_of x)) r after (take r.count buf') (agreed call r after d.answers.agrees)
      (puts call buf buf' r after d.answers.agrees d.bytes (take_counts (length buf) (seen_of x)))
  did_answers (to_read buf) r after buf' d =
      let call = model_in.read (length buf) in
      same_answer (call (seen_of x)) r after (take r.count buf') (agreed call r after d.agrees)
      (puts call buf buf' r after d.agrees d.bytes (read_counts (length buf) (seen_of x)))
  did_answers to_close r after buf' d = answers model.close r after d (close_none (seen_of x))

  did_stays : (q : Request) (r : Step) (after : Lent) (buf' : Bytes) → DidWith x q r after buf' → laid_out r.stream after ≡ true
  did_stays (to_write bytes) r after buf' d = d.stays laid
  did_stays (to_deliver datagram clock) r after buf' d = d.stays laid
  did_stays (to_drive clock) r after buf' d = d.stays laid
  did_stays (to_take buf) r after buf' d = d.answers.stays laid
  did_stays (to_read buf) r after buf' d = d.stays laid
  did_stays to_close r after buf' d = d.stays laid

-- records that are this end of the model

pub record Stands (x : Records) (e : End) : Type 0 where
  pub laid : laid_out x.stream x.lent ≡ true
  pub end : seen_of x ≡ e
  pub keeps : Invariant e

pub stands_answer : (x : Records) (e : End) (v : Event) → Stands x e → Did x v → answer_of v ≡ answer (call_of v.request) e
stands_answer x e v h d = did_answers x h.laid v.request v.step v.lent v.buf d ∙ ap (answer (call_of v.request)) h.end

pub stands_next : (x : Records) (e : End) (v : Event) → Stands x e → Did x v → Stands (left v) (answer (call_of v.request) e).end
stands_next x e v h d =
    record {
      laid = did_stays x h.laid v.request v.step v.lent v.buf d;
      end = ap (λ (a : Answer). a.end) (stands_answer x e v h d);
      keeps = call_keeps (call_of v.request) e h.keeps;
    }

pub stands_run : (events : List Event) (x : Records) (e : End) → Stands x e → Run events x → Stands (last_of events x) (after (calls_of events) e)
stands_run [] x e h r = h
stands_run (v ∷ vs) x e h r = stands_run vs (left v) (answer (call_of v.request) e).end (stands_next x e v h r.0) r.1

-- an open that was not refused

ready_none : (why : Option Refusal) → opened_outcome why ≡ Ok Ready → why ≡ none
ready_none none e = refl
ready_none (some why) e = let z : ◌≡◌ {A = ℕ} 0 1 = cc in absurd (omega arith)

module _ (local remote segments clock : ℕ) (l : Lent) (o : Opened) (h : OpenedBy local remote segments clock l o) where
  abbrev tests : List Test
  tests = model.open_tests_on (stores_test l.outgoing l.incoming l.headers) segments clock

  why_none : open_why segments clock l.outgoing l.incoming l.headers ≡ none
  why_none = ready_none _ (sym h.opens.outcome ∙ h.ready)

  stores_fit : stores_test l.outgoing l.incoming l.headers ≡ false
  unfolding open_why
  stores_fit = clear tests why_none 0

  pub open_clear : model.open_refusal segments clock ≡ none
  unfolding open_why model.open_refusal
  open_clear = rw stores_fit at why_none

  clock_fits : clock < 2 ^ 60
  unfolding open_why
  clock_fits = leb-false (2 ^ 60) clock (clear tests why_none 2)

  pub open_stands : Stands (handed_out o l) (fresh local remote segments clock)
  unfolding laid_out
  open_stands =
      let s : o.stream ≡ fresh_stream local remote segments clock = h.opens.stream ∙ rw why_none refl in
      record {
        laid = rw (s, stores_fit, fresh_formed local remote segments clock l.queue) refl;
        end = rw (s, h.opens.totals) (seen_fresh local remote segments clock l clock_fits);
        keeps = open_keeps local remote segments clock open_clear;
      }

pub same_as_model : SameAsModel
unfolding shown_of
same_as_model local remote segments clock l o h events r =
    let x = last_of events (handed_out o l) in
    let e = after (calls_of events) (fresh local remote segments clock) in
    let s : Stands x e = stands_run events (handed_out o l) (fresh local remote segments clock) (open_stands local remote segments clock l o h) r in
    record {
      end = s.end;
      next = λ v d. stands_answer x e v s d;
      unbroken = λ v d z.
          (never_broken local remote segments clock (open_clear local remote segments clock l o h) (calls_of events)).1 (call_of v.request)
          (sym (ap (λ (a : Answer). a.outcome) (stands_answer x e v s d)) ∙ z);
      shown = rw s.laid (ap model_out.look s.end);
    }
