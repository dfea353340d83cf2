-- What demand 3 is about, in the sentences of 01, 'What the contracts say', 4, and of call 5: which bytes, packets and numbers a history
-- has after a call (`HistoryCounts` on the records and from C, `HistoryCountsInModel`), how a list of calls continues (`GoesOn`), and which
-- lists are over a line (`AnyLine`, `AnyLineFromC`, `AnyMixedLine`, `AnyLineInModel`): all that 01 allows, so the two-end theorems leave
-- none out. Statements only: the proofs are in proofs/Histories.antt.
use Rattle.std.specs.Prelude.{ℕ, ◌<◌, ◌≡◌, true, false, length, take, None, Some, Result, Ok, Err}
use mathlib.Core.List.{List, [], ◌∷◌, ◌++◌, Memᴰ}
use Rattle.std.proofs.Math.Option.{none, some}
use Rattle.error.specs.declared.Refusal.{Refusal}
use Rattle.error.specs.declared.Outcome.{Outcome}
use Rattle.error.specs.declared.Outcome.TheVariants.{Ready}
use Rattle.packet.specs.Header.{fields, has_type}
use Rattle.model.specs.Lists.{Bytes, cut}
use Rattle.model.specs.Answers.{Answer}
use Rattle.model.specs.Stream.{End}
use Rattle.model.specs.Receiving.{read}
use Rattle.model.specs.Calls.{Call, write_call, deliver_call, drive_call, take_call, read_call, close_call, answer, after}
use Rattle.model_ends.specs.TwoEnds as model
use Rattle.model_ends.specs.TwoEnds.{History, unread_in_order, Id}
use Rattle.records.specs.declared.«open».Opened.{Opened}
use Rattle.records.specs.Seen.{Lent}
use Rattle.records.specs.Open.{Opens}
use Rattle.udx_steps.specs.declared.step.Step.{Step}
use Rattle.promise.specs.Runs as runs
use Rattle.promise.specs.Runs.{Records, Request, to_write, to_deliver, to_drive, to_take, to_read, to_close, call_of, Event, left, Did, put_by, Run, calls_of, OpenedBy}
use Rattle.promise.specs.TwoEndsOnRecords.{noted, Ends, Turn, on_a, on_b, turned, last_of, OverALine, ReadsAlone}
use Rattle.udx_c_numbers.specs.declared.structs.FlatStep.{FlatStep}
use Rattle.udx_c.specs.Crosses.{FlatOpens}
use Rattle.promise_ways.specs.Calls.{Plain, PlainEvent, PlainDid, PlainRun, plain_left, plain_last, step_of, opened_of, event_of, events_of, OpenedInC}
use Rattle.promise_ways.specs.FromC as c
use Rattle.promise_ways.specs.FromC.{PlainEnds, PlainTurn, plain_turned, plain_last_of, PlainOverALine, PlainReadsAlone}
use Rattle.promise_ways.specs.Mixed as mixed
use Rattle.promise_ways.specs.Mixed.{Mixed, in_c, as_event, MixedDid, plain_of, OpenedEither, MixedRun, MixedTurn, MixedOverALine, MixedReadsAlone}

-- what a history counts

-- a call that leaves a step and, for a take or a read, a buffer; from C the step is the one that the numbers stand for
pub record HistoryCounts : Type 0 where
  -- "Each write brings its own bytes": the first `count` are accepted, and went in pieces of up to 1,380
  pub write_accepts : (bytes buf : Bytes) (r : Step) (h : History) → (noted (to_write bytes) r buf h).accepted ≡ h.accepted ++ take r.count bytes
  pub write_sends : (bytes buf : Bytes) (r : Step) (h : History) → (noted (to_write bytes) r buf h).pieces ≡ h.pieces ++ cut (length bytes) 1_380 (take r.count bytes)
  -- "Bytes that a refused read put are read."
  pub read_reads : (buf buf' : Bytes) (r : Step) (h : History) → (noted (to_read buf) r buf' h).reads ≡ h.reads ++ take r.count buf'
  pub refused_read_reads : (buf buf' : Bytes) (r : Step) (h : History) (why : Refusal) → r.outcome ≡ Err why
      → (noted (to_read buf) r buf' h).reads ≡ h.reads ++ take r.count buf'
  -- a refused delivery adds nothing; an accepted one "brought as DATA" exactly its number
  pub refused_delivery : (datagram : Bytes) (clock : ℕ) (r : Step) (buf : Bytes) (h : History) (why : Refusal) → r.outcome ≡ Err why
      → noted (to_deliver datagram clock) r buf h ≡ h
  pub data_delivery : (datagram : Bytes) (clock : ℕ) (r : Step) (buf : Bytes) (h : History) → r.outcome ≡ Ok Ready → has_type 1 (fields datagram).typ ≡ true
      → (noted (to_deliver datagram clock) r buf h).brought ≡ h.brought ++ ((fields datagram).seq ∷ [])
  pub other_delivery : (datagram : Bytes) (clock : ℕ) (r : Step) (buf : Bytes) (h : History) → has_type 1 (fields datagram).typ ≡ false
      → noted (to_deliver datagram clock) r buf h ≡ h
  -- "A batch's datagrams are its pieces of segment size, or all of it where it has none; an empty batch has no datagram, and only these
  -- datagrams count as taken"
  pub takes_pieces : (buf buf' : Bytes) (r : Step) (h : History) (size : ℕ) → r.segment ≡ Some size
      → (noted (to_take buf) r buf' h).taken ≡ h.taken ++ cut (length (take r.count buf')) size (take r.count buf')
  pub takes_all : (buf buf' : Bytes) (r : Step) (h : History) (b : ℕ) (bytes : Bytes) → r.segment ≡ None → take r.count buf' ≡ b ∷ bytes
      → (noted (to_take buf) r buf' h).taken ≡ h.taken ++ ((b ∷ bytes) ∷ [])
  pub takes_none : (buf buf' : Bytes) (r : Step) (h : History) → r.count ≡ 0 → (noted (to_take buf) r buf' h).taken ≡ h.taken

-- the same for an answer of the model
pub record HistoryCountsInModel : Type 0 where
  pub write_accepts : (bytes : Bytes) (a : Answer) (h : History) → (model.noted (write_call bytes) a h).accepted ≡ h.accepted ++ take a.count bytes
  pub write_sends : (bytes : Bytes) (a : Answer) (h : History) → (model.noted (write_call bytes) a h).pieces ≡ h.pieces ++ cut (length bytes) 1_380 (take a.count bytes)
  pub read_reads : (room : ℕ) (a : Answer) (h : History) → (model.noted (read_call room) a h).reads ≡ h.reads ++ a.bytes
  pub refused_delivery : (datagram : Bytes) (clock : ℕ) (a : Answer) (h : History) (why : Refusal) → a.outcome ≡ Err why
      → model.noted (deliver_call datagram clock) a h ≡ h
  pub data_delivery : (datagram : Bytes) (clock : ℕ) (a : Answer) (h : History) → a.outcome ≡ Ok Ready → has_type 1 (fields datagram).typ ≡ true
      → (model.noted (deliver_call datagram clock) a h).brought ≡ h.brought ++ ((fields datagram).seq ∷ [])
  pub other_delivery : (datagram : Bytes) (clock : ℕ) (a : Answer) (h : History) → has_type 1 (fields datagram).typ ≡ false
      → model.noted (deliver_call datagram clock) a h ≡ h
  pub takes_pieces : (room : ℕ) (a : Answer) (h : History) (size : ℕ) → a.segment ≡ some size
      → (model.noted (take_call room) a h).taken ≡ h.taken ++ cut (length a.bytes) size a.bytes
  pub takes_all : (room : ℕ) (a : Answer) (h : History) (b : ℕ) (bytes : Bytes) → a.segment ≡ none → a.bytes ≡ b ∷ bytes
      → (model.noted (take_call room) a h).taken ≡ h.taken ++ ((b ∷ bytes) ∷ [])
  -- "up to the first that puts none"
  pub unread_none : (e : End) → (read 1_380 e).bytes ≡ [] → unread_in_order e ≡ []

-- how a list of calls continues

-- each call starts from what the one before it left, and is the model's call with what its caller brought
pub record GoesOn : Type 0 where
  pub after_call : (v : Event) (vs : List Event) (x : Records)
      → runs.last_of (v ∷ vs) x ≡ runs.last_of vs (record { stream = v.step.stream; totals = v.step.totals; lent = v.lent })
  pub after_call_on_a : (v : Event) (cs : List Turn) (w : Ends)
      → last_of (on_a v ∷ cs) w
      ≡ last_of cs
      (record {
        a = record { records = record { stream = v.step.stream; totals = v.step.totals; lent = v.lent }; past = noted v.request v.step v.buf w.a.past };
        b = w.b;
      })
  pub after_call_on_b : (v : Event) (cs : List Turn) (w : Ends)
      → last_of (on_b v ∷ cs) w
      ≡ last_of cs
      (record {
        a = w.a;
        b = record { records = record { stream = v.step.stream; totals = v.step.totals; lent = v.lent }; past = noted v.request v.step v.buf w.b.past };
      })
  pub after_call_in_c : (v : PlainEvent) (vs : List PlainEvent) (x : Plain)
      → plain_last (v ∷ vs) x ≡ plain_last vs (record { stream = v.step.stream; totals = v.step.totals; lent = v.lent })
  pub after_call_in_c_on_a : (v : PlainEvent) (cs : List PlainTurn) (w : PlainEnds)
      → plain_last_of (c.on_a v ∷ cs) w
      ≡ plain_last_of cs
      (record {
        a = record { plain = record { stream = v.step.stream; totals = v.step.totals; lent = v.lent }; past = noted v.request (step_of v.step) v.buf w.a.past };
        b = w.b;
      })
  pub after_call_in_c_on_b : (v : PlainEvent) (cs : List PlainTurn) (w : PlainEnds)
      → plain_last_of (c.on_b v ∷ cs) w
      ≡ plain_last_of cs
      (record {
        a = w.a;
        b = record { plain = record { stream = v.step.stream; totals = v.step.totals; lent = v.lent }; past = noted v.request (step_of v.step) v.buf w.b.past };
      })
  pub after_call_in_model : (q : Call) (qs : List Call) (e : End) → after (q ∷ qs) e ≡ after qs (answer q e).end
  pub after_call_in_model_on_a : (q : Call) (cs : List model.Command) (w : model.Ends)
      → let a = answer q w.a.end in
      model.run (model.on_a q ∷ cs) w ≡ model.run cs (record { a = record { end = a.end; past = model.noted q a w.a.past }; b = w.b })
  pub after_call_in_model_on_b : (q : Call) (cs : List model.Command) (w : model.Ends)
      → let a = answer q w.b.end in
      model.run (model.on_b q ∷ cs) w ≡ model.run cs (record { a = w.a; b = record { end = a.end; past = model.noted q a w.b.past } })
  pub calls : (v : Event) (vs : List Event) → calls_of (v ∷ vs) ≡ call_of v.request ∷ calls_of vs
  pub calls_in_c : (v : PlainEvent) (vs : List PlainEvent) → calls_of (events_of (v ∷ vs)) ≡ call_of v.request ∷ calls_of (events_of vs)
  pub writes : (bytes : Bytes) → call_of (to_write bytes) ≡ write_call bytes
  pub delivers : (datagram : Bytes) (clock : ℕ) → call_of (to_deliver datagram clock) ≡ deliver_call datagram clock
  pub drives : (clock : ℕ) → call_of (to_drive clock) ≡ drive_call clock
  pub takes : (buf : Bytes) → call_of (to_take buf) ≡ take_call (length buf)
  pub reads : (buf : Bytes) → call_of (to_read buf) ≡ read_call (length buf)
  pub closes : call_of to_close ≡ close_call
  pub take_puts : (buf buf' : Bytes) (count : ℕ) → put_by (to_take buf) count buf' ≡ take count buf'
  pub read_puts : (buf buf' : Bytes) (count : ℕ) → put_by (to_read buf) count buf' ≡ take count buf'

-- which lists are over a line

-- a call that is not a delivery
abbrev pub NoDelivery : Request → Type 0
NoDelivery q = (datagram : Bytes) (clock : ℕ) → q ≡ to_deliver datagram clock → ⊥

-- "each delivery a copy of such a datagram; only a refused delivery may bring other bytes": `taken` are the other end's datagrams; a
-- refused delivery may bring any
pub data Allowed (taken : List Bytes) (o : Result Outcome Refusal) : Request → Type 0 where
  no_delivery : {q : Request} → NoDelivery q → Allowed taken o q
  copy : {datagram : Bytes} {clock : ℕ} → Memᴰ datagram taken → Allowed taken o (to_deliver datagram clock)
  refused : {datagram : Bytes} {clock : ℕ} (why : Refusal) → o ≡ Err why → Allowed taken o (to_deliver datagram clock)

-- Any two ends that open handed out are a start, and any such call at either end extends a list over the line; reads alone are any "1,380
-- at a time, .. up to the first that puts none". Likewise for lists of calls on one end, with any datagrams.
pub record AnyLine : Type 0 where
  pub opened : (local remote segments clock : ℕ) (l : Lent) (o : Opened) → Opens local remote segments clock l.outgoing l.incoming l.headers o
      → o.outcome ≡ Ok Ready → OpenedBy local remote segments clock l o
  pub none_yet : (w : Ends) → OverALine [] w
  pub on-a : (v : Event) (cs : List Turn) (w : Ends) → Did w.a.records v → Allowed w.b.past.taken v.step.outcome v.request
      → OverALine cs (turned (on_a v) w) → OverALine (on_a v ∷ cs) w
  pub on-b : (v : Event) (cs : List Turn) (w : Ends) → Did w.b.records v → Allowed w.a.past.taken v.step.outcome v.request
      → OverALine cs (turned (on_b v) w) → OverALine (on_b v ∷ cs) w
  pub last_read : (v : Event) (buf : Bytes) (x : Records) → v.request ≡ to_read buf → length buf ≡ 1_380 → Did x v → v.step.count ≡ 0 → ReadsAlone [] v x
  pub one_more_read : (v : Event) (vs : List Event) (last : Event) (buf : Bytes) (x : Records) → v.request ≡ to_read buf → length buf ≡ 1_380 → Did x v
      → ReadsAlone vs last (left v) → ReadsAlone (v ∷ vs) last x
  pub no_call : (x : Records) → Run [] x
  pub one_more_call : (v : Event) (vs : List Event) (x : Records) → Did x v → Run vs (left v) → Run (v ∷ vs) x

pub record AnyLineFromC : Type 0 where
  pub opened : (local remote segments clock : ℕ) (l : Lent) (o : FlatStep) → FlatOpens local remote segments clock l.outgoing l.incoming l.headers o
      → o.outcome ≡ 0 → OpenedInC local remote segments clock l o
  pub none_yet : (w : PlainEnds) → PlainOverALine [] w
  pub on-a : (v : PlainEvent) (cs : List PlainTurn) (w : PlainEnds) → PlainDid w.a.plain v
      → Allowed w.b.past.taken (step_of v.step).outcome v.request → PlainOverALine cs (plain_turned (c.on_a v) w) → PlainOverALine (c.on_a v ∷ cs) w
  pub on-b : (v : PlainEvent) (cs : List PlainTurn) (w : PlainEnds) → PlainDid w.b.plain v
      → Allowed w.a.past.taken (step_of v.step).outcome v.request → PlainOverALine cs (plain_turned (c.on_b v) w) → PlainOverALine (c.on_b v ∷ cs) w
  pub last_read : (v : PlainEvent) (buf : Bytes) (x : Plain) → v.request ≡ to_read buf → length buf ≡ 1_380 → PlainDid x v → v.step.count ≡ 0
      → PlainReadsAlone [] v x
  pub one_more_read : (v : PlainEvent) (vs : List PlainEvent) (last : PlainEvent) (buf : Bytes) (x : Plain) → v.request ≡ to_read buf → length buf ≡ 1_380
      → PlainDid x v → PlainReadsAlone vs last (plain_left v) → PlainReadsAlone (v ∷ vs) last x
  pub no_call : (x : Plain) → PlainRun [] x
  pub one_more_call : (v : PlainEvent) (vs : List PlainEvent) (x : Plain) → PlainDid x v → PlainRun vs (plain_left v) → PlainRun (v ∷ vs) x

-- with the ways mixed: a call from C is handed any numbers that stand for the records, such as those that an earlier one handed back
pub record AnyMixedLine : Type 0 where
  pub opened_in_rattle : (local remote segments clock : ℕ) (l : Lent) (o : Opened) → OpenedBy local remote segments clock l o
      → OpenedEither local remote segments clock l o
  pub opened_in_c : (local remote segments clock : ℕ) (l : Lent) (o : FlatStep) → OpenedInC local remote segments clock l o
      → OpenedEither local remote segments clock l (opened_of o)
  pub none_yet : (w : Ends) → MixedOverALine [] w
  pub on-a : (v : Mixed) (cs : List MixedTurn) (w : Ends) → MixedDid w.a.records v → Allowed w.b.past.taken (as_event v).step.outcome (as_event v).request
      → MixedOverALine cs (turned (on_a (as_event v)) w) → MixedOverALine (mixed.on_a v ∷ cs) w
  pub on-b : (v : Mixed) (cs : List MixedTurn) (w : Ends) → MixedDid w.b.records v → Allowed w.a.past.taken (as_event v).step.outcome (as_event v).request
      → MixedOverALine cs (turned (on_b (as_event v)) w) → MixedOverALine (mixed.on_b v ∷ cs) w
  pub last_read : (v : Mixed) (buf : Bytes) (x : Records) → (as_event v).request ≡ to_read buf → length buf ≡ 1_380 → MixedDid x v → (as_event v).step.count ≡ 0
      → MixedReadsAlone [] v x
  pub one_more_read : (v : Mixed) (vs : List Mixed) (last : Mixed) (buf : Bytes) (x : Records) → (as_event v).request ≡ to_read buf → length buf ≡ 1_380
      → MixedDid x v → MixedReadsAlone vs last (left (as_event v)) → MixedReadsAlone (v ∷ vs) last x
  pub no_call : (x : Records) → MixedRun [] x
  pub one_more_call : (v : Mixed) (vs : List Mixed) (x : Records) → MixedDid x v → MixedRun vs (left (as_event v)) → MixedRun (v ∷ vs) x
  -- on any records the next call may be a call from C
  pub to_c : (x : Records) (v : PlainEvent) → PlainDid (plain_of x) v → MixedDid x (in_c (plain_of x) v)
  -- and the one after it may be handed what that one handed back
  pub on_in_c : (p : Plain) (x : Records) (v next : PlainEvent) → MixedDid x (in_c p v) → PlainDid (plain_left v) next
      → MixedDid (left (event_of v)) (in_c (plain_left v) next)

-- in the model, where a call's answer is computed
abbrev pub NoDeliveryCall : Call → Type 0
NoDeliveryCall q = (datagram : Bytes) (clock : ℕ) → q ≡ deliver_call datagram clock → ⊥

pub data AllowedCall (taken : List Bytes) (o : Result Outcome Refusal) : Call → Type 0 where
  no_delivery : {q : Call} → NoDeliveryCall q → AllowedCall taken o q
  copy : {datagram : Bytes} {clock : ℕ} → Memᴰ datagram taken → AllowedCall taken o (deliver_call datagram clock)
  refused : {datagram : Bytes} {clock : ℕ} (why : Refusal) → o ≡ Err why → AllowedCall taken o (deliver_call datagram clock)

pub record AnyLineInModel : Type 0 where
  -- an id is any 4-byte number (01, 'Records': "stream id (4)")
  pub any_id : (i : ℕ) → i < 4_294_967_296 → Id i
  pub none_yet : (w : model.Ends) → model.OverALine [] w
  pub on-a : (q : Call) (cs : List model.Command) (w : model.Ends) → AllowedCall w.b.past.taken (answer q w.a.end).outcome q
      → model.OverALine cs (model.step (model.on_a q) w) → model.OverALine (model.on_a q ∷ cs) w
  pub on-b : (q : Call) (cs : List model.Command) (w : model.Ends) → AllowedCall w.a.past.taken (answer q w.b.end).outcome q
      → model.OverALine cs (model.step (model.on_b q) w) → model.OverALine (model.on_b q ∷ cs) w
