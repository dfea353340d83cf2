-- Calls on the records are calls from C (`did_plain`): numbers without an invalid byte stand for records, and the step of a call on these,
-- turned into numbers, satisfies the contract of the C function and stands for the same step. So calls that exist on the records exist from
-- C, reads alone among them (`every_read_out_from_c`).
use Prim.Native.Nat.{ℕ}
use mathlib.Core.Path.{◌≡◌, refl, sym, ap, ap₂, ◌∙◌, subst}
use mathlib.Core.Bool.{true, false, true≢false}
use mathlib.Core.List.{List, [], ◌∷◌, ◌++◌}
use lib.ListN.{drop}
use Rattle.std.specs.Prelude.{◌≢◌, Some}
use Rattle.model.specs.Lists.{Bytes, joined}
use Rattle.model_ends.specs.TwoEnds.{no_history}
use Rattle.records.specs.declared.Stream.{Stream}
use Rattle.records.specs.declared.Totals.{Totals}
use Rattle.records.specs.declared.«open».Opened.{Opened}
use Rattle.records.specs.Seen.{Lent}
use Rattle.udx_steps.specs.declared.step.Step.{Step}
use Rattle.promise.specs.Runs.{Records, Request, to_write, to_deliver, to_drive, to_take, to_read, to_close, Event, left, DidWith, Did, OpenedBy, handed_out}
use Rattle.promise.specs.TwoEndsOnRecords as records
use Rattle.promise.specs.Possible.{Makes, Asked, of_a, of_b, asked_by, Traffic}
use Rattle.promise.proofs.EveryCall.{every_run}
use Rattle.promise.proofs.Line.{LaidSide, BothLaid, call_laid}
use Rattle.promise.proofs.Runs.{open_stands}
use Rattle.promise.proofs.Possible.{every_line, possible}
use Rattle.promise.proofs.ReadOut.{reads_at, stands_laid}
use Rattle.udx_c_numbers.specs.declared.structs.FlatStep.{FlatStep}
use Rattle.udx_c_numbers.specs.Bytes.{is_strange}
use Rattle.udx_c_numbers.specs.Flat.{stream_of, totals_of, flat_step, flat_opened}
use Rattle.udx_c.specs.Crosses.{Crosses}
use Rattle.promise_ways.specs.Calls.{Plain, PlainEvent, PlainDidWith, PlainDid, plain_left, plain_opened, step_of, opened_of, records_of, event_of, OpenedInC}
use Rattle.promise_ways.specs.FromC.{PlainSide, side_of, PlainEnds, PlainTurn, on_a, on_b, plain_turned, plain_last_of, PlainOverALine, opened_side, both_opened_in_c, PlainReadsAlone, CarriedInC}
use Rattle.promise_ways.specs.Possible.{MakesInC, EveryRunFromC, asked_in_c, EveryLineFromC, TrafficInC, PossibleFromC, ReadOutInC, EveryReadOutFromC}
use Rattle.promise_ways.proofs.FromC.{step_back, opened_back, step_known, opened_known, one, opened_in_c, ends_of, Known, two_ends_from_c}

-- one call

-- a call on the records as a call from C
abbrev plain_of : Event → PlainEvent
plain_of v = record { request = v.request; step = flat_step v.step; lent = v.lent; buf = v.buf }

not_zero_with : (x : Records) (q : Request) (r : Step) (m : Lent) (buf' : Bytes) → DidWith x q r m buf' → r.segment ≢ Some 0
not_zero_with x (to_write bytes) r m buf' d = d.agrees.not_zero
not_zero_with x (to_deliver datagram clock) r m buf' d = d.agrees.not_zero
not_zero_with x (to_drive clock) r m buf' d = d.agrees.not_zero
not_zero_with x (to_take buf) r m buf' d = d.answers.agrees.not_zero
not_zero_with x (to_read buf) r m buf' d = d.agrees.not_zero
not_zero_with x to_close r m buf' d = d.agrees.not_zero

module _ (x : Records) (v : Event) (d : Did x v) where
  comes_back : step_of (flat_step v.step) ≡ v.step
  comes_back = step_back v.step (not_zero_with x v.request v.step v.lent v.buf d)

  stands_for : event_of (plain_of v) ≡ v
  stands_for = ap (λ (r : Step). record { request = v.request; step = r; lent = v.lent; buf = v.buf }) comes_back

  -- the numbers left stand for the records left
  left_for : records_of (plain_left (plain_of v)) ≡ left v
  left_for = ap left stands_for

  -- the numbers preserve the outcome, and so `Brings`
  brings : (y : PlainSide) → records.Brings v.request v.step.outcome (side_of y) → records.Brings v.request (step_of (flat_step v.step)).outcome (side_of y)
  brings y b = subst (λ (r : Step). records.Brings v.request r.outcome (side_of y)) (sym comes_back) b

module _ (x : Plain) (k : is_strange x.stream.ending ≡ false) where
  never : {A : Type 0} → is_strange x.stream.ending ≡ true → A
  never z = absurd (true≢false (sym z ∙ k))

  crosses : (call : Stream → Totals → Lent → Step → Lent → Type 0) (r : Step) (m : Lent) → call (stream_of x.stream) (totals_of x.totals) x.lent r m
      → Crosses call x.stream x.totals x.lent (flat_step r) m
  crosses call r m d = record { known = λ z. record { step = r; does = d; flat = refl }; strange = never }

  did_with : (q : Request) (r : Step) (m : Lent) (buf' : Bytes) → DidWith (records_of x) q r m buf' → PlainDidWith x q (flat_step r) m buf'
  did_with (to_write bytes) r m buf' d = crosses _ r m d
  did_with (to_deliver datagram clock) r m buf' d = crosses _ r m d
  did_with (to_drive clock) r m buf' d = crosses _ r m d
  did_with (to_take buf) r m buf' d = (crosses _ r m d, never)
  did_with (to_read buf) r m buf' d = (crosses _ r m d, never)
  did_with to_close r m buf' d = crosses _ r m d

  did_plain : (v : Event) → Did (records_of x) v → PlainDid x (plain_of v)
  did_plain v d = did_with v.request v.step v.lent v.buf d

-- lists of calls on one end

run_plain : (qs : List Request) (vs : List Event) (x : Plain) → is_strange x.stream.ending ≡ false → Makes qs vs (records_of x)
    → (events : List PlainEvent) × MakesInC qs events x
run_plain [] [] x k m = ([], tt)
run_plain [] (v ∷ vs) x k m = absurd m
run_plain (q ∷ qs) [] x k m = absurd m
run_plain (q ∷ qs) (v ∷ vs) x k m =
    let (e, d, n, rest) = m in
    let (events, made) = run_plain qs vs (plain_left (plain_of v)) (step_known v.step) (subst (Makes qs vs) (sym (left_for (records_of x) v d)) rest) in
    (plain_of v ∷ events, (e, did_plain x k v d, n, made))

-- an open

module _ (local remote segments clock : ℕ) (l : Lent) (o : Opened) (h : OpenedBy local remote segments clock l o) where
  opens_plain : OpenedInC local remote segments clock l (flat_opened o)
  unfolding flat_opened
  opens_plain = record { opens = record { opened = o; does = h.opens; flat = refl }; ready = rw h.ready refl }

-- the numbers that open hands out stand for its records
opened_for : (o : Opened) (l : Lent) → records_of (plain_opened (flat_opened o) l) ≡ handed_out o l
opened_for o l = ap (λ (r : Opened). handed_out r l) (opened_back o)

pub every_run_from_c : EveryRunFromC
every_run_from_c local remote segments clock l h =
    let (o, by, runs) = every_run local remote segments clock l h in (
      flat_opened o,
      opens_plain local remote segments clock l o by,
      λ requests.
          (let (vs, m) = runs requests in
          run_plain requests vs (plain_opened (flat_opened o) l) (opened_known o) (subst (Makes requests vs) (sym (opened_for o l)) m)),
    )

-- lists of calls on two ends

record InC (turns : List records.Turn) (p : PlainEnds) : Type 0 where
  plain : List PlainTurn
  asked : asked_in_c plain ≡ asked_by turns
  line : PlainOverALine plain p
  last : ends_of (plain_last_of plain p) ≡ records.last_of turns (ends_of p)

line_plain : (turns : List records.Turn) (p : PlainEnds) → Known p → records.OverALine turns (ends_of p) → InC turns p
line_plain [] p k f = record { plain = []; asked = refl; line = tt; last = refl }
line_plain (records.on_a v ∷ cs) p k f =
    let next = ap (λ (u : Event). records.turned (records.on_a u) (ends_of p)) (stands_for (records_of p.a.plain) v f.0.0) in
    let p' = plain_turned (on_a (plain_of v)) p in
    let rest = line_plain cs p' (step_known v.step, k.1) (subst (records.OverALine cs) (sym next) f.1) in
    record {
      plain = on_a (plain_of v) ∷ rest.plain;
      asked = ap (λ (a : List Asked). of_a v.request ∷ a) rest.asked;
      line = ((did_plain p.a.plain k.0 v f.0.0, brings (records_of p.a.plain) v f.0.0 p.b f.0.1), rest.line);
      last = rest.last ∙ ap (records.last_of cs) next;
    }
line_plain (records.on_b v ∷ cs) p k f =
    let next = ap (λ (u : Event). records.turned (records.on_b u) (ends_of p)) (stands_for (records_of p.b.plain) v f.0.0) in
    let p' = plain_turned (on_b (plain_of v)) p in
    let rest = line_plain cs p' (k.0, step_known v.step) (subst (records.OverALine cs) (sym next) f.1) in
    record {
      plain = on_b (plain_of v) ∷ rest.plain;
      asked = ap (λ (a : List Asked). of_b v.request ∷ a) rest.asked;
      line = ((did_plain p.b.plain k.1 v f.0.0, brings (records_of p.b.plain) v f.0.0 p.a f.0.1), rest.line);
      last = rest.last ∙ ap (records.last_of cs) next;
    }

module _ (a b : Opened) (lentA lentB : Lent) where
  abbrev start : PlainEnds
  start = both_opened_in_c (flat_opened a) (flat_opened b) lentA lentB

  start_for : ends_of start ≡ records.both_opened a b lentA lentB
  start_for =
      ap₂ (λ (x : Records) (y : Records). record { a = record { records = x; past = no_history }; b = record { records = y; past = no_history } })
      (opened_for a lentA) (opened_for b lentB)

  from_open : (turns : List records.Turn) → records.OverALine turns (records.both_opened a b lentA lentB) → InC turns start
  from_open turns f = line_plain turns start (opened_known a, opened_known b) (subst (records.OverALine turns) (sym start_for) f)

pub every_line_from_c : EveryLineFromC
every_line_from_c i j segmentsA segmentsB clockA clockB lentA lentB hA hB =
    let (a, b, openA, openB, lines) = every_line i j segmentsA segmentsB clockA clockB lentA lentB hA hB in (
      flat_opened a,
      flat_opened b,
      opens_plain i j segmentsA clockA lentA a openA,
      opens_plain j i segmentsB clockB lentB b openB,
      λ asked f.
          (let (turns, are, line) = lines asked f in
          let c = from_open a b lentA lentB turns line in
          (c.plain, c.asked ∙ are, c.line)),
    )

traffic : (clockA clockB : ℕ) (bytes batch room : Bytes) (a b : Opened) (lentA lentB : Lent)
    → Traffic clockA clockB bytes batch room (records.both_opened a b lentA lentB) → TrafficInC clockA clockB bytes batch room (start a b lentA lentB)
traffic clockA clockB bytes batch room a b lentA lentB t =
    let c = from_open a b lentA lentB t.turns t.line in
    let last = c.last ∙ ap (records.last_of t.turns) (start_for a b lentA lentB) in
    record {
      turns = c.plain;
      datagram = t.datagram;
      asked = c.asked ∙ t.asked;
      line = c.line;
      accepted = ap (λ (w : records.Ends). w.a.past.accepted) last ∙ t.accepted;
      taken = ap (λ (w : records.Ends). w.a.past.taken) last ∙ t.taken;
      reads = ap (λ (w : records.Ends). w.b.past.reads) last ∙ t.reads;
    }

pub possible_from_c : PossibleFromC
possible_from_c i j segmentsA segmentsB clockA clockB lentA lentB idI idJ hA hB bytes batch room some_bytes one_piece large size =
    let (a, b, openA, openB, t) = possible i j segmentsA segmentsB clockA clockB lentA lentB idI idJ hA hB bytes batch room some_bytes one_piece large size in (
      flat_opened a,
      flat_opened b,
      opens_plain i j segmentsA clockA lentA a openA,
      opens_plain j i segmentsB clockB lentB b openB,
      traffic clockA clockB bytes batch room a b lentA lentB t,
    )

-- what is unread

record ReadsInC (x : Plain) : Type 0 where
  reads : List PlainEvent
  last : PlainEvent
  alone : PlainReadsAlone reads last x

reads_plain : (vs : List Event) (last : Event) (x : Plain) → is_strange x.stream.ending ≡ false → records.ReadsAlone vs last (records_of x) → ReadsInC x
unfolding flat_step
reads_plain [] last x k h = record { reads = []; last = plain_of last; alone = (h.0, did_plain x k last h.1, h.2) }
reads_plain (v ∷ vs) last x k h =
    let t = reads_plain vs last (plain_left (plain_of v)) (step_known v.step) (subst (records.ReadsAlone vs last) (sym (left_for (records_of x) v h.1)) h.2) in
    record { reads = plain_of v ∷ t.reads; last = t.last; alone = (h.0, did_plain x k v h.1, t.alone) }

-- after calls from C the numbers still stand for records that are laid out
reached : (cs : List PlainTurn) (w : PlainEnds) → Known w → BothLaid (ends_of w) → PlainOverALine cs w → Known (plain_last_of cs w) × BothLaid (ends_of (plain_last_of cs w))
reached [] w k laid f = (k, laid)
reached (on_a v ∷ cs) w k laid f =
    let o = one w.a.plain v.request v.step v.lent v.buf k.0 f.0.0 in
    reached cs (plain_turned (on_a v) w) (o.known, k.1) (call_laid (event_of v) (side_of w.a) laid.0 o.does, laid.1) f.1
reached (on_b v ∷ cs) w k laid f =
    let o = one w.b.plain v.request v.step v.lent v.buf k.1 f.0.0 in
    reached cs (plain_turned (on_b v) w) (k.0, o.known) (laid.0, call_laid (event_of v) (side_of w.b) laid.1 o.does) f.1

read_out : (s r : PlainSide) → CarriedInC s r → is_strange r.plain.stream.ending ≡ false → LaidSide (side_of r) → ReadOutInC s r
read_out s r c k laid =
    let on = reads_at (side_of r) laid in
    let t = reads_plain on.reads on.last r.plain k on.alone in
    record {
      reads = t.reads;
      last = t.last;
      alone = t.alone;
      accepted =
          c.carried.accepted
          ∙ ap (λ (z : Bytes). r.past.reads ++ (z ++ joined (drop (records.ack_of (side_of r)) s.past.pieces))) (c.unread t.reads t.last t.alone);
    }

module _ (local remote segments clock : ℕ) (l : Lent) (o : FlatStep) (h : OpenedInC local remote segments clock l o) where
  open_known : is_strange o.stream.ending ≡ false
  open_known = rw h.opens.flat (opened_known h.opens.opened)

  open_laid : LaidSide (side_of (opened_side o l))
  open_laid = stands_laid (side_of (opened_side o l)) _ (open_stands local remote segments clock l (opened_of o) (opened_in_c local remote segments clock l o h))

pub every_read_out_from_c : EveryReadOutFromC
every_read_out_from_c i j segmentsA segmentsB clockA clockB idI idJ lentA lentB a b openA openB turns line =
    let start = both_opened_in_c a b lentA lentB in
    let w = plain_last_of turns start in
    let ((knownA, knownB), (laid_a, laidB)) =
    reached turns start (open_known i j segmentsA clockA lentA a openA, open_known j i segmentsB clockB lentB b openB)
    (open_laid i j segmentsA clockA lentA a openA, open_laid j i segmentsB clockB lentB b openB) line in
    let (out, back) = two_ends_from_c i j segmentsA segmentsB clockA clockB idI idJ lentA lentB a b openA openB turns line in
    (read_out w.a w.b out knownB laidB, read_out w.b w.a back knownA laid_a)
