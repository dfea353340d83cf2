-- Demands 2 and 3 from C: a call on numbers that stand for records is the call on those records (`one`), and what it hands back stands for
-- the records after it and has no invalid byte (`is_strange`). So a list of calls from C is a list of calls on the records, and their
-- theorems hold for it.
use Prim.Native.Nat.{ℕ}
use native.Mathlib.Omega.{arith}
use mathlib.Core.Path.{◌≡◌, refl, ap, sym, ◌∙◌}
use mathlib.Core.Bool.{false}
use mathlib.Core.List.{List, [], ◌∷◌}
use borrow.Author.Tests.{ne_eqb}
use Rattle.std.specs.Prelude.{◌≢◌, Option, None, Some, Result, Ok, Err}
use Rattle.error.specs.Answers.{number_of}
use Rattle.error.specs.declared.Refusal.{Refusal}
use Rattle.error.specs.declared.Refusal.TheVariants as refusal
use Rattle.error.specs.declared.Outcome.{Outcome}
use Rattle.error.specs.declared.Outcome.TheVariants as outcome
use Rattle.model.specs.Lists.{Bytes}
use Rattle.model.specs.Stream.{fresh}
use Rattle.model.specs.Calls.{after}
use Rattle.records.specs.declared.Stream.{Stream}
use Rattle.records.specs.declared.Totals.{Totals}
use Rattle.records.specs.declared.«open».Opened.{Opened}
use Rattle.records.specs.Seen.{Lent}
use Rattle.udx_steps.specs.declared.step.Step.{Step}
use Rattle.promise.specs.Runs.{Request, to_write, to_deliver, to_drive, to_take, to_read, to_close, DidWith, Run, last_of, calls_of, OpenedBy, Same}
use Rattle.promise.specs.TwoEndsOnRecords as records
use Rattle.promise.proofs.Runs.{same_as_model}
use Rattle.promise.proofs.TwoEndsOnRecords.{two_ends_on_records}
use Rattle.udx_c_numbers.specs.declared.structs.FlatStream.{FlatStream}
use Rattle.udx_c_numbers.specs.declared.structs.FlatTotals.{FlatTotals}
use Rattle.udx_c_numbers.specs.declared.structs.FlatStep.{FlatStep}
use Rattle.udx_c_numbers.specs.Bytes.{is_strange, outcome_byte, refusal_byte}
use Rattle.udx_c_numbers.specs.Flat.{stream_of, totals_of, segment_number, flat_step, flat_opened}
use Rattle.udx_c_numbers.proofs.RoundTrip.{comes_back}
use Rattle.udx_c.specs.Crosses.{Called}
use Rattle.udx_c.proofs.ShownLaws.{looks_shown}
use Rattle.promise_ways.specs.Calls.{
  Plain,
  PlainEvent,
  PlainDidWith,
  PlainRun,
  plain_left,
  plain_last,
  plain_opened,
  refusal_of,
  outcome_of,
  size_of,
  step_of,
  opened_of,
  records_of,
  event_of,
  events_of,
  OpenedInC,
}
use Rattle.promise_ways.specs.FromC.{SameFromC, PlainSide, side_of, PlainEnds, PlainTurn, on_a, on_b, plain_turned, plain_last_of, PlainOverALine, both_opened_in_c, PlainReadsAlone, CarriedInC, TwoEndsFromC}

-- turning an answer into numbers and back gives the same answer

refusal_back : (why : Refusal) → refusal_of (number_of why) ≡ why
refusal_back refusal.BrokenRecords = refl
refusal_back refusal.ShortBuffer = refl
refusal_back refusal.SegmentCeiling = refl
refusal_back refusal.BadClock = refl
refusal_back refusal.AfterDone = refl
refusal_back refusal.BatchesLeft = refl
refusal_back refusal.BadHeader = refl
refusal_back refusal.OtherStream = refl
refusal_back refusal.LongPayload = refl
refusal_back refusal.AckPastSeq = refl
refusal_back refusal.SeqEnd = refl
refusal_back refusal.PastIncoming = refl
refusal_back refusal.StateQueueFull = refl
refusal_back refusal.ConnectionReset = refl
refusal_back refusal.UnexpectedEof = refl
refusal_back refusal.TimedOut = refl
refusal_back refusal.SeqExhausted = refl

outcome_back : (o : Result Outcome Refusal) → outcome_of (outcome_byte o) (refusal_byte o) ≡ o
outcome_back (Ok outcome.Ready) = refl
outcome_back (Ok outcome.Waiting) = refl
outcome_back (Ok outcome.Done) = refl
outcome_back (Ok outcome.Nothing) = refl
outcome_back (Err why) = ap Err (refusal_back why)

pub size_back : (size : Option ℕ) → size ≢ Some 0 → size_of (segment_number size) ≡ size
size_back None h = refl
size_back (Some n) h = rw (ne_eqb n 0 (λ e. h (ap Some e))) refl

pub step_back : (r : Step) → r.segment ≢ Some 0 → step_of (flat_step r) ≡ r
unfolding flat_step
step_back r h = rw (comes_back.stream r.stream, comes_back.totals r.totals, outcome_back r.outcome, size_back r.segment h) refl

pub opened_back : (o : Opened) → opened_of (flat_opened o) ≡ o
unfolding flat_opened
opened_back o = rw (comes_back.stream o.stream, comes_back.totals o.totals, outcome_back o.outcome) refl

pub step_known : (r : Step) → is_strange (flat_step r).stream.ending ≡ false
unfolding flat_step
step_known r = comes_back.known r.stream

pub opened_known : (o : Opened) → is_strange (flat_opened o).stream.ending ≡ false
unfolding flat_opened
opened_known o = comes_back.known o.stream

-- only refusal 1 has the number 1
pub one_is : (why : Refusal) → number_of why ≡ 1 → why ≡ refusal.BrokenRecords
one_is why e = sym (refusal_back why) ∙ ap refusal_of e

pub broken_is : (o : Result Outcome Refusal) → refusal_byte o ≡ 1 → o ≡ Err refusal.BrokenRecords
broken_is (Ok outcome.Ready) e = absurd (omega arith)
broken_is (Ok outcome.Waiting) e = absurd (omega arith)
broken_is (Ok outcome.Done) e = absurd (omega arith)
broken_is (Ok outcome.Nothing) e = absurd (omega arith)
broken_is (Err why) e = ap Err (one_is why e)

step_broken : (r : Step) → (flat_step r).refusal ≡ 1 → r.outcome ≡ Err refusal.BrokenRecords
unfolding flat_step
step_broken r e = broken_is r.outcome e

-- one call: what it is on the records; what it hands back has no invalid byte; and its refusal number 1 is refusal 1

pub record Done (r : FlatStep) (did : Type 0) : Type 0 where
  pub does : did
  pub known : is_strange r.stream.ending ≡ false
  pub broken : r.refusal ≡ 1 → (step_of r).outcome ≡ Err refusal.BrokenRecords

module _
    (call : Stream → Totals → Lent → Step → Lent → Type 0) (s : FlatStream) (t : FlatTotals) (l : Lent) (r : FlatStep) (m : Lent)
    (not_zero : (q : Step) → call (stream_of s) (totals_of t) l q m → q.segment ≢ Some 0) (c : Called call s t l r m) where
  called : Done r (call (stream_of s) (totals_of t) l (step_of r) m)
  called =
      let back = ap step_of c.flat ∙ step_back c.step (not_zero c.step c.does) in
      record {
        does = rw back c.does;
        known = rw c.flat (step_known c.step);
        broken = λ e. ap (λ (q : Step). q.outcome) back ∙ step_broken c.step (rw c.flat at e);
      }

pub one : (x : Plain) (q : Request) (r : FlatStep) (m : Lent) (buf' : Bytes) → is_strange x.stream.ending ≡ false → PlainDidWith x q r m buf'
    → Done r (DidWith (records_of x) q (step_of r) m buf')
one x (to_write bytes) r m buf' k d = called _ x.stream x.totals x.lent r m (λ q did. did.agrees.not_zero) (d.known k)
one x (to_deliver datagram clock) r m buf' k d = called _ x.stream x.totals x.lent r m (λ q did. did.agrees.not_zero) (d.known k)
one x (to_drive clock) r m buf' k d = called _ x.stream x.totals x.lent r m (λ q did. did.agrees.not_zero) (d.known k)
one x (to_take buf) r m buf' k d = called _ x.stream x.totals x.lent r m (λ q did. did.answers.agrees.not_zero) (d.0.known k)
one x (to_read buf) r m buf' k d = called _ x.stream x.totals x.lent r m (λ q did. did.agrees.not_zero) (d.0.known k)
one x to_close r m buf' k d = called _ x.stream x.totals x.lent r m (λ q did. did.agrees.not_zero) (d.known k)

-- an open

module _ (local remote segments clock : ℕ) (l : Lent) (o : FlatStep) (h : OpenedInC local remote segments clock l o) where
  pub opened_in_c : OpenedBy local remote segments clock l (opened_of o)
  opened_in_c =
      let back = ap opened_of h.opens.flat ∙ opened_back h.opens.opened in
      record { opens = rw back h.opens.does; ready = rw h.ready refl }

  known_in_c : is_strange o.stream.ending ≡ false
  known_in_c = rw h.opens.flat (opened_known h.opens.opened)

-- lists of calls on one end

run : (vs : List PlainEvent) (x : Plain) → is_strange x.stream.ending ≡ false → PlainRun vs x
    → Run (events_of vs) (records_of x)
    × (last_of (events_of vs) (records_of x) ≡ records_of (plain_last vs x))
    × (is_strange (plain_last vs x).stream.ending ≡ false)
run [] x k d = (tt, refl, k)
run (v ∷ vs) x k d =
    let o = one x v.request v.step v.lent v.buf k d.0 in
    let rest = run vs (plain_left v) o.known d.1 in
    ((o.does, rest.0), rest.1, rest.2)

pub same_from_c : SameFromC
same_from_c local remote segments clock l o h events d =
    let x = plain_opened o l in
    let r = run events x (known_in_c local remote segments clock l o h) d in
    let e = after (calls_of (events_of events)) (fresh local remote segments clock) in
    let same : Same (records_of (plain_last events x)) e =
    rw (← r.1) (same_as_model local remote segments clock l (opened_of o) (opened_in_c local remote segments clock l o h) (events_of events) r.0) in
    let last = plain_last events x in
    record {
      records = same;
      next = λ v did. same.next (event_of v) (one last v.request v.step v.lent v.buf r.2 did).does;
      unbroken =
          λ v did e.
          (let q = one last v.request v.step v.lent v.buf r.2 did in
          same.unbroken (event_of v) q.does (q.broken e));
      shown = λ part looks. rw same.shown at (looks_shown last.stream last.totals last.lent part looks r.2);
    }

-- lists of calls on two ends

abbrev pub ends_of : PlainEnds → records.Ends
ends_of w = record { a = side_of w.a; b = side_of w.b }

abbrev turn_of : PlainTurn → records.Turn
turn_of (on_a v) = records.on_a (event_of v)
turn_of (on_b v) = records.on_b (event_of v)

abbrev turns_of : List PlainTurn → List records.Turn
turns_of [] = []
turns_of (c ∷ cs) = turn_of c ∷ turns_of cs

-- neither end has an invalid byte
abbrev pub Known : PlainEnds → Type 0
Known w = (is_strange w.a.plain.stream.ending ≡ false) × (is_strange w.b.plain.stream.ending ≡ false)

line : (cs : List PlainTurn) (w : PlainEnds) → Known w → PlainOverALine cs w
    → records.OverALine (turns_of cs) (ends_of w) × (records.last_of (turns_of cs) (ends_of w) ≡ ends_of (plain_last_of cs w)) × Known (plain_last_of cs w)
line [] w k d = (tt, refl, k)
line (on_a v ∷ cs) w k d =
    let o = one w.a.plain v.request v.step v.lent v.buf k.0 d.0.0 in
    let rest = line cs (plain_turned (on_a v) w) (o.known, k.1) d.1 in
    (((o.does, d.0.1), rest.0), rest.1, rest.2)
line (on_b v ∷ cs) w k d =
    let o = one w.b.plain v.request v.step v.lent v.buf k.1 d.0.0 in
    let rest = line cs (plain_turned (on_b v) w) (k.0, o.known) d.1 in
    (((o.does, d.0.1), rest.0), rest.1, rest.2)

-- reads from C are reads on the records
reads : (vs : List PlainEvent) (last : PlainEvent) (x : Plain) → is_strange x.stream.ending ≡ false → PlainReadsAlone vs last x
    → records.ReadsAlone (events_of vs) (event_of last) (records_of x)
reads [] last x k d = (d.0, (one x last.request last.step last.lent last.buf k d.1).does, d.2)
reads (v ∷ vs) last x k d =
    let o = one x v.request v.step v.lent v.buf k d.1 in (d.0, o.does, reads vs last (plain_left v) o.known d.2)

in_c : (s r : PlainSide) → is_strange r.plain.stream.ending ≡ false → records.Carried (side_of s) (side_of r) → CarriedInC s r
in_c s r k c = record { carried = c; unread = λ vs last d. c.unread (events_of vs) (event_of last) (reads vs last r.plain k d) }

pub two_ends_from_c : TwoEndsFromC
two_ends_from_c i j segmentsA segmentsB clockA clockB idI idJ lentA lentB a b openA openB turns d =
    let w = both_opened_in_c a b lentA lentB in
    let l = line turns w (known_in_c i j segmentsA clockA lentA a openA, known_in_c j i segmentsB clockB lentB b openB) d in
    let carried =
    two_ends_on_records i j segmentsA segmentsB clockA clockB idI idJ lentA lentB (opened_of a) (opened_of b) (opened_in_c i j segmentsA clockA lentA a openA)
    (opened_in_c j i segmentsB clockB lentB b openB)
    (turns_of turns)
    l.0 in
    let (out, back) = rw l.1 at carried in
    let last = plain_last_of turns w in
    (in_c last.a last.b l.2.1 out, in_c last.b last.a l.2.0 back)
