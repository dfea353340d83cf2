-- Every call can be made on records that are an end of the model satisfying the invariant (`make`), and so every list of requests from an
-- open (`every_run`). A refused call changes nothing; otherwise the answer is the model's, and the end after it is laid out anew over the
-- stores. Reads are in EveryRead.antt.
use Prim.Native.Nat.{ℕ, ◌<◌}
use native.Mathlib.Omega.{arith}
use mathlib.Core.Path.{◌≡◌, refl, sym, ap, ◌∙◌, subst}
use mathlib.Core.List.{List, [], ◌∷◌}
use mathlib.Core.Logic.{◌≢◌, ◌⊎◌, inl, inr}
use mathlib.Core.Option.{none, some}
use mathlib.Core.Bool.{Bool, true, false, cond, ◌&&◌, not, true≢false}
use lib.Dec.{ltb, eqb}
use lib.ListN.{length}
use borrow.Author.Tests.{ltb-true}
use Rattle.std.specs.Prelude as rust
use Rattle.std.specs.Prelude.{Result, Ok, Err, None, Some}
use Rattle.error.specs.declared.Refusal.{Refusal}
use Rattle.error.specs.declared.Outcome.{Outcome}
use Rattle.error.specs.declared.Outcome.TheVariants.{Ready, Waiting, Done, Nothing}
use Rattle.model.specs.Lists.{Bytes}
use Rattle.model.specs.Slots.{Slots}
use Rattle.model.specs.RulesKept.{EntryKept}
use Rattle.model.specs.Stream as stream
use Rattle.model.specs.Stream.{End}
use Rattle.model.specs.Answers.{Answer, refused, answered}
use Rattle.model.specs.Sending as model
use Rattle.model.specs.Sending.{open_refusal}
use Rattle.model.specs.Receiving as model_in
use Rattle.model.specs.Driving as model_out
use Rattle.model.specs.Calls.{write_call, deliver_call, drive_call, take_call, close_call}
use Rattle.model.proofs.Lists.{All, by-test}
use Rattle.model.proofs.Gate.{by_gate}
use Rattle.model_rules.proofs.Invariant.{Left, at_rest, to_take, Invariant}
use Rattle.model_rules.proofs.InvariantCalls.{call_keeps}
use Rattle.records.specs.declared.«open».Opened.{Opened}
use Rattle.records.specs.Put.{put}
use Rattle.records.specs.Seen.{Lent}
use Rattle.records.specs.Open.{fresh_stream, fresh_totals, stores_test, open_why}
use Rattle.udx_steps.specs.declared.step.Step.{Step}
use Rattle.udx_steps.specs.Steps.{refused_step}
use Rattle.udx.specs.Agree.{laid_out, on_records, segment_of, Agrees, Answers}
use Rattle.udx.proofs.RefusalLaws.{none_not_zero, refused_answers}
use Rattle.promise.specs.Runs.{Records, seen_of, Request, to_write, to_deliver, to_drive, to_take, to_read, to_close, Event, left, Did, OpenedBy, handed_out}
use Rattle.promise.specs.Possible.{WordLengths, Openable, Makes, EveryRun}
use Rattle.promise.proofs.LaidOut.{laid, LaidAs, laid_as}
use Rattle.promise.proofs.Runs.{on_laid, stands_next, open_stands}
use Rattle.promise.proofs.EveryRead.{ready_acts, give}

-- a refused call changes nothing

abbrev Quiet : End → Answer → Type 0
Quiet e a = (why : Refusal) → a.outcome ≡ Err why → a ≡ refused why e

same_refusal : (e : End) (w : Refusal) → Quiet e (refused w e)
same_refusal e w why h = let z : w ≡ why = cc in ap (λ x. refused x e) z

acts_quiet : (e : End) (a : Answer) → ((why : Refusal) → a.outcome ≡ Err why → ⊥) → Quiet e a
acts_quiet e a h why z = absurd (h why z)

waiting_acts : (why : Refusal) → (Ok Waiting) ≡ Err why → ⊥
waiting_acts why z = let y : ◌≡◌ {A = ℕ} 0 1 = cc in omega arith

done_acts : (why : Refusal) → (Ok Done) ≡ Err why → ⊥
done_acts why z = let y : ◌≡◌ {A = ℕ} 0 1 = cc in omega arith

nothing_acts : (why : Refusal) → (Ok Nothing) ≡ Err why → ⊥
nothing_acts why z = let y : ◌≡◌ {A = ℕ} 0 1 = cc in omega arith

write_acts : (o : Outcome) (why : Refusal) → Ok o ≡ Err why → ⊥
write_acts o why z = let y : ◌≡◌ {A = ℕ} 0 1 = cc in omega arith

write_quiet : (bytes : Bytes) (e : End) → Quiet e (model.write bytes e)
unfolding model.write
write_quiet bytes e =
    let w = model.write_loop (length bytes) bytes e in
    by_gate (Quiet e) (model.write_refusal bytes e) e (model.written bytes w) (same_refusal e)
    (λ z. acts_quiet e (model.written bytes w) (write_acts (model.write_outcome bytes w.count)))

deliver_quiet : (datagram : Bytes) (clock : ℕ) (e : End) → Quiet e (model_in.deliver datagram clock e)
unfolding model_in.deliver
deliver_quiet datagram clock e = by_gate (Quiet e) (model_in.deliver_refusal datagram clock e) e _ (same_refusal e) (λ z. acts_quiet e _ ready_acts)

drive_quiet : (clock : ℕ) (e : End) → Quiet e (model_out.drive clock e)
unfolding model_out.drive
drive_quiet clock e =
    by_gate (Quiet e) (model_out.drive_refusal clock e) e _ (same_refusal e)
    (λ z.
    by-test (Quiet e) (model_out.drained e) (answered Done (model_out.ended (model_out.drive_clock clock e))) (answered Ready (model_out.poll_drive clock e))
    (λ z. acts_quiet e (answered Done (model_out.ended (model_out.drive_clock clock e))) done_acts)
    (λ z. acts_quiet e (answered Ready (model_out.poll_drive clock e)) ready_acts))

take_quiet : (room : ℕ) (e : End) → Quiet e (model_out.take room e)
unfolding model_out.take
take_quiet room e =
    let t = model_out.take_answer (model_out.take_loop (model_out.batch e) e.queue.entries e) e in
    by_gate (Quiet e) (model_out.take_refusal room e) e (cond (ltb 0 e.queue.left) t (answered Nothing e)) (same_refusal e)
    (λ z. by-test (Quiet e) (ltb 0 e.queue.left) t (answered Nothing e) (λ z. acts_quiet e t ready_acts) (λ z. acts_quiet e (answered Nothing e) nothing_acts))

close_quiet : (e : End) → Quiet e (model.close e)
unfolding model.close
close_quiet e = by_gate (Quiet e) (model.close_refusal e) e _ (same_refusal e) (λ z. acts_quiet e _ ready_acts)

-- a batch's segment size as a step has it

abbrev Segment : Answer → Type 0
Segment a = (size : rust.Option ℕ) × (segment_of size ≡ a.segment) × (size ≢ Some 0)

no_segment : (a : Answer) → a.segment ≡ none → Segment a
no_segment a e = (None, sym e, none_not_zero)

write_segment : (bytes : Bytes) (e : End) → Segment (model.write bytes e)
unfolding model.write
write_segment bytes e =
    no_segment (model.write bytes e)
    (by_gate (λ a. a.segment ≡ none) (model.write_refusal bytes e) e (model.written bytes (model.write_loop (length bytes) bytes e)) (λ why. refl) (λ z. refl))

deliver_segment : (datagram : Bytes) (clock : ℕ) (e : End) → Segment (model_in.deliver datagram clock e)
unfolding model_in.deliver
deliver_segment datagram clock e =
    no_segment (model_in.deliver datagram clock e) (by_gate (λ a. a.segment ≡ none) (model_in.deliver_refusal datagram clock e) e _ (λ why. refl) (λ z. refl))

drive_segment : (clock : ℕ) (e : End) → Segment (model_out.drive clock e)
unfolding model_out.drive
drive_segment clock e =
    no_segment (model_out.drive clock e)
    (by_gate (λ a. a.segment ≡ none) (model_out.drive_refusal clock e) e _ (λ why. refl)
    (λ z. by-test (λ (a : Answer). a.segment ≡ none) (model_out.drained e) _ _ (λ z. refl) (λ z. refl)))

close_segment : (e : End) → Segment (model.close e)
unfolding model.close
close_segment e = no_segment (model.close e) (by_gate (λ a. a.segment ≡ none) (model.close_refusal e) e _ (λ why. refl) (λ z. refl))

-- the first entry has bytes
head_some : (outgoing : Slots stream.Packet) (q : List stream.Entry) → All (EntryKept outgoing) q → 0 < length q → 0 < model_out.head_length q
head_some outgoing [] h l = absurd (omega arith)
head_some outgoing (stream.state b ∷ q) h l = let z = h.0 in omega arith
head_some outgoing (stream.packet n m ∷ q) h l = let z = h.0.0 in omega arith

segment_size : (k m : ℕ) → 0 < m → (size : rust.Option ℕ) × (segment_of size ≡ model_out.segment_of k m) × (size ≢ Some 0)
segment_size k m l = go (eqb k 1)
  where
    go : (b : Bool) → (size : rust.Option ℕ) × (segment_of size ≡ cond b none (some m)) × (size ≢ Some 0)
    go true = (None, refl, none_not_zero)
    go false = (Some m, refl, λ e. let z : m ≡ 0 = cc in omega arith)

left_some : (e : End) → Left true e → ltb 0 e.queue.left ≡ true → 0 < length e.queue.entries
left_some e (at_rest z h) t = let l = ltb-true 0 e.queue.left t in absurd (omega arith)
left_some e (to_take p z h) t = omega arith

take_segment : (room : ℕ) (e : End) → Invariant e → Segment (model_out.take room e)
unfolding model_out.take
take_segment room e g =
    let t = model_out.take_answer (model_out.take_loop (model_out.batch e) e.queue.entries e) e in
    by_gate Segment (model_out.take_refusal room e) e (cond (ltb 0 e.queue.left) t (answered Nothing e)) (λ why. (None, refl, none_not_zero))
    (λ z.
    by-test Segment (ltb 0 e.queue.left) t (answered Nothing e)
    (λ l. segment_size (model_out.batch e) (model_out.head_length e.queue.entries) (head_some e.sender.outgoing e.queue.entries g.facts.entries (left_some e g.left l)))
    (λ l. (None, refl, none_not_zero)))

-- refused or not
refusal-of : (o : Result Outcome Refusal) → ((why : Refusal) × (o ≡ Err why)) ⊎ ((why : Refusal) → o ≡ Err why → ⊥)
refusal-of (Ok Ready) = inr ready_acts
refusal-of (Ok Waiting) = inr waiting_acts
refusal-of (Ok Done) = inr done_acts
refusal-of (Ok Nothing) = inr nothing_acts
refusal-of (Err why) = inl (why, refl)

stores_fit : (differ formed : Bool) → (not differ && formed) ≡ true → differ ≡ false
stores_fit true formed e = absurd (true≢false (sym e))
stores_fit false formed e = refl

pub stores : (x : Records) → laid_out x.stream x.lent ≡ true → stores_test x.lent.outgoing x.lent.incoming x.lent.headers ≡ false
unfolding laid_out
stores x out = stores_fit (stores_test x.lent.outgoing x.lent.incoming x.lent.headers) _ out

-- a step and what is lent after it
record Answered (x : Records) (call : End → Answer) : Type 0 where
  step : Step
  after : Lent
  answers : Answers call x.stream x.totals x.lent step after
  sized : WordLengths after

module _ (x : Records) (out : laid_out x.stream x.lent ≡ true) (keeps : Invariant (seen_of x)) (sized : WordLengths x.lent) where
  answer_call : (call : End → Answer) → Quiet (seen_of x) (call (seen_of x)) → Segment (call (seen_of x)) → Invariant (call (seen_of x)).end → Answered x call
  answer_call call quiet segment next = go (refusal-of a.outcome)
    where
      a : Answer
      a = call (seen_of x)

      y : Records
      y = laid a.end next x.lent (stores x out)

      new : LaidAs a.end x.lent y
      new = laid_as a.end next x.lent (stores x out)

      r : Step
      r = record { stream = y.stream; totals = y.totals; outcome = a.outcome; count = a.count; segment = segment.0 }

      go : ((why : Refusal) × (a.outcome ≡ Err why)) ⊎ ((why : Refusal) → a.outcome ≡ Err why → ⊥) → Answered x call
      go (inl (why, e)) =
          record {
            step = refused_step x.stream x.totals why;
            after = x.lent;
            answers = refused_answers call x.stream x.totals x.lent why (on_laid x out call ∙ quiet why e);
            sized = sized;
          }
      go (inr acts) =
          record {
            step = r;
            after = y.lent;
            answers =
                record {
                  agrees =
                      subst (λ (z : Answer). Agrees z r y.lent) (sym (on_laid x out call))
                      (record { outcome = refl; count = refl; segment = segment.1; not_zero = segment.2; end = new.seen });
                  stays = λ z. new.out;
                  changes_nothing = λ why z. absurd (acts why z);
                  beside = new.beside;
                };
            sized = new.sized;
          }

-- records that are an end of the model, with words of the right lengths
pub record Stand (x : Records) : Type 0 where
  pub laid : laid_out x.stream x.lent ≡ true
  pub keeps : Invariant (seen_of x)
  pub sized : WordLengths x.lent

pub record MadeCall (x : Records) (q : Request) : Type 0 where
  pub event : Event
  pub request : event.request ≡ q
  pub did : Did x event
  pub next : Stand (left event)

stand_next : (x : Records) (v : Event) → Stand x → Did x v → WordLengths v.lent → Stand (left v)
stand_next x v h d n =
    let s = stands_next x (seen_of x) v (record { laid = h.laid; end = refl; keeps = h.keeps }) d in
    record { laid = s.laid; keeps = subst Invariant (sym s.end) s.keeps; sized = n }

module _ (x : Records) (h : Stand x) where
  abbrev e : End
  e = seen_of x

  by_answer : (call : End → Answer) → Quiet e (call e) → Segment (call e) → Invariant (call e).end → Answered x call
  by_answer call quiet segment next = answer_call x h.laid h.keeps h.sized call quiet segment next

  pub make : (q : Request) → MadeCall x q
  make (to_write bytes) =
      let a = by_answer (model.write bytes) (write_quiet bytes e) (write_segment bytes e) (call_keeps (write_call bytes) e h.keeps) in
      let v : Event = record { request = to_write bytes; step = a.step; lent = a.after; buf = [] } in
      record { event = v; request = refl; did = a.answers; next = stand_next x v h a.answers a.sized }
  make (to_deliver datagram clock) =
      let a =
      by_answer (model_in.deliver datagram clock) (deliver_quiet datagram clock e) (deliver_segment datagram clock e) (call_keeps (deliver_call datagram clock) e h.keeps) in
      let v : Event = record { request = to_deliver datagram clock; step = a.step; lent = a.after; buf = [] } in
      record { event = v; request = refl; did = a.answers; next = stand_next x v h a.answers a.sized }
  make (to_drive clock) =
      let a = by_answer (model_out.drive clock) (drive_quiet clock e) (drive_segment clock e) (call_keeps (drive_call clock) e h.keeps) in
      let v : Event = record { request = to_drive clock; step = a.step; lent = a.after; buf = [] } in
      record { event = v; request = refl; did = a.answers; next = stand_next x v h a.answers a.sized }
  make (to_take buf) =
      let room = length buf in
      let a = by_answer (model_out.take room) (take_quiet room e) (take_segment room e h.keeps) (call_keeps (take_call room) e h.keeps) in
      let buf' = put buf 0 (on_records (model_out.take room) x.stream x.totals x.lent).bytes in
      let v : Event = record { request = to_take buf; step = a.step; lent = a.after; buf = buf' } in
      let d : Did x v = record { answers = a.answers; bytes = refl } in
      record { event = v; request = refl; did = d; next = stand_next x v h d a.sized }
  make (to_read buf) =
      let a = give x h.laid (stores x h.laid) h.keeps buf h.sized in
      let v : Event = record { request = to_read buf; step = a.step; lent = a.after; buf = a.buf' } in
      record { event = v; request = refl; did = a.gives; next = stand_next x v h a.gives (a.sized h.sized) }
  make to_close =
      let a = by_answer model.close (close_quiet e) (close_segment e) (call_keeps close_call e h.keeps) in
      let v : Event = record { request = to_close; step = a.step; lent = a.after; buf = [] } in
      record { event = v; request = refl; did = a.answers; next = stand_next x v h a.answers a.sized }

make_all : (qs : List Request) (x : Records) → Stand x → (events : List Event) × Makes qs events x
make_all [] x h = ([], tt)
make_all (q ∷ qs) x h =
    let m = make x h q in
    let (vs, rest) = make_all qs (left m.event) m.next in
    (m.event ∷ vs, (m.request, m.did, m.next.sized, rest))

-- an open that is not refused
module _ (local remote segments clock : ℕ) (l : Lent) (h : Openable segments clock l) where
  abbrev pub fresh_opened : Opened
  fresh_opened = record { outcome = Ok Ready; stream = fresh_stream local remote segments clock; totals = fresh_totals }

  why_none : open_why segments clock l.outgoing l.incoming l.headers ≡ none
  unfolding open_why open_refusal
  why_none = rw h.stores h.accepted

  pub can_open : OpenedBy local remote segments clock l fresh_opened
  can_open = record { opens = record { outcome = rw why_none refl; stream = rw why_none refl; totals = refl }; ready = refl }

  pub open_stand : Stand (handed_out fresh_opened l)
  open_stand =
      let s = open_stands local remote segments clock l fresh_opened can_open in
      record { laid = s.laid; keeps = subst Invariant (sym s.end) s.keeps; sized = h.words }

pub every_run : EveryRun
every_run local remote segments clock l h = (
  fresh_opened local remote segments clock l h,
  can_open local remote segments clock l h,
  λ requests. make_all requests (handed_out (fresh_opened local remote segments clock l h) l) (open_stand local remote segments clock l h),
)
