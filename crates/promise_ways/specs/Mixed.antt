-- Demands 2 and 3 for lists that mix the ways to make a call: on the same end, calls of crate `udx`, calls with the totals lent (each is a
-- call on the records, LentTotals.antt) and calls from C, in any order, opened in either way. A call from C is handed any numbers that
-- stand for the records at that moment. Such a list is a list of calls on the records, so their promises hold after it: `SameMixed` and
-- `TwoEndsMixed`. `Crossing` says that such numbers always exist. Statements only: the proofs are in proofs/Mixed.antt.
use Rattle.std.specs.Prelude.{ℕ, ◌≡◌, false, List, [], ◌∷◌, ◌⊎◌, Err}
use Rattle.error.specs.declared.Refusal.TheVariants.{BrokenRecords}
use Rattle.model.specs.Stream.{End, fresh}
use Rattle.model.specs.Driving.{look}
use Rattle.model.specs.Calls.{answer, after}
use Rattle.model_ends.specs.TwoEnds.{unread_in_order, Id}
use Rattle.records.specs.declared.«open».Opened.{Opened}
use Rattle.records.specs.Seen.{Lent}
use Rattle.promise.specs.Runs.{Records, seen_of, call_of, Event, left, Did, answer_of, last_of, calls_of, OpenedBy, handed_out, Same}
use Rattle.promise.specs.TwoEndsOnRecords as records
use Rattle.promise.specs.TwoEndsOnRecords.{Side, Ends, Turn, turned, Brings, IsRead, put_by_reads, Carried, both_opened}
use Rattle.udx_c_numbers.specs.declared.structs.FlatStep.{FlatStep}
use Rattle.udx_c_numbers.specs.Bytes.{is_strange}
use Rattle.udx_c_numbers.specs.Flat.{flat_stream, flat_totals}
use Rattle.udx_c.specs.declared.look.FlatPart.{FlatPart}
use Rattle.udx_c.specs.Shown.{ShownBy, Looks}
use Rattle.promise_ways.specs.Calls.{Plain, PlainEvent, PlainDid, plain_left, opened_of, records_of, event_of, OpenedInC}

-- numbers that stand for records: no byte of them is invalid (`is_strange`), and words and stores are the same
pub record StandsFor (p : Plain) (x : Records) : Type 0 where
  pub known : is_strange p.stream.ending ≡ false
  pub records : records_of p ≡ x

-- a call made in either way

-- a call from C comes with the numbers it was handed
pub data Mixed : Type 0 where
  in_rattle : Event → Mixed
  in_c : Plain → PlainEvent → Mixed

abbrev pub as_event : Mixed → Event
as_event (in_rattle v) = v
as_event (in_c p v) = event_of v

abbrev pub as_events : List Mixed → List Event
as_events [] = []
as_events (v ∷ vs) = as_event v ∷ as_events vs

-- the contract of the exported function that was called, on these records
abbrev pub MixedDid : Records → Mixed → Type 0
MixedDid x (in_rattle v) = Did x v
MixedDid x (in_c p v) = StandsFor p x × PlainDid p v

-- an open, made in either way, that was not refused
abbrev pub OpenedEither : (local remote segments clock : ℕ) → Lent → Opened → Type 0
OpenedEither local remote segments clock l o =
    OpenedBy local remote segments clock l o ⊎ ((f : FlatStep) × OpenedInC local remote segments clock l f × (opened_of f ≡ o))

-- from the records to numbers and back

abbrev pub plain_of : Records → Plain
plain_of x = record { stream = flat_stream x.stream; totals = flat_totals x.totals; lent = x.lent }

pub record Crossing : Type 0 where
  -- any records have numbers that stand for them
  pub there : (x : Records) → StandsFor (plain_of x) x
  -- what a call from C handed back stands for the records after it
  pub back : (p : Plain) (x : Records) (v : PlainEvent) → StandsFor p x → PlainDid p v → StandsFor (plain_left v) (left (event_of v))

-- demand 2

abbrev pub MixedRun : List Mixed → Records → Type 0
MixedRun [] x = Unit {0}
MixedRun (v ∷ vs) x = MixedDid x v × MixedRun vs (left (as_event v))

pub record SameEitherWay (x : Records) (e : End) : Type 0 where
  pub records : Same x e
  -- the next call, made in either way, returns the model's outcome, count, bytes and segment size and leaves the model's end
  pub next : (v : Mixed) → MixedDid x v → answer_of (as_event v) ≡ answer (call_of (as_event v).request) e
  -- 01, refusal 1: "(never so after calls from a fresh stream)"
  pub unbroken : (v : Mixed) → MixedDid x v → (as_event v).step.outcome ≡ Err BrokenRecords → ⊥
  -- the part that `udx_look` returns on any numbers that stand for the records is within its store and has exactly the bytes that the model
  -- shows
  pub shown : (p : Plain) → StandsFor p x → (part : FlatPart) → Looks p.stream p.totals p.lent part
      → ShownBy (look e) p.lent.outgoing p.lent.headers part

abbrev pub SameMixed : Type 0
SameMixed =
    (local remote segments clock : ℕ) (l : Lent) (o : Opened)
    → OpenedEither local remote segments clock l o
    → (calls : List Mixed)
    → MixedRun calls (handed_out o l)
    → SameEitherWay (last_of (as_events calls) (handed_out o l)) (after (calls_of (as_events calls)) (fresh local remote segments clock))

-- demand 3

pub data MixedTurn : Type 0 where
  on_a on_b : Mixed → MixedTurn

abbrev pub as_turn : MixedTurn → Turn
as_turn (on_a v) = records.on_a (as_event v)
as_turn (on_b v) = records.on_b (as_event v)

abbrev pub as_turns : List MixedTurn → List Turn
as_turns [] = []
as_turns (c ∷ cs) = as_turn c ∷ as_turns cs

-- a call did what its contract says and, if it is a delivery, brought a copy of a datagram that the other end's takes put, or was refused
abbrev pub MixedFits : Mixed → Side → Side → Type 0
MixedFits v x other = MixedDid x.records v × Brings (as_event v).request (as_event v).step.outcome other

abbrev pub MixedFitsEnds : MixedTurn → Ends → Type 0
MixedFitsEnds (on_a v) w = MixedFits v w.a w.b
MixedFitsEnds (on_b v) w = MixedFits v w.b w.a

abbrev pub MixedOverALine : List MixedTurn → Ends → Type 0
MixedOverALine [] w = Unit {0}
MixedOverALine (c ∷ cs) w = MixedFitsEnds c w × MixedOverALine cs (turned (as_turn c) w)

-- "reads alone, 1,380 at a time, .. up to the first that puts none", each made in either way
abbrev pub MixedReadsAlone : List Mixed → Mixed → Records → Type 0
MixedReadsAlone [] last x = IsRead (as_event last) × MixedDid x last × ((as_event last).step.count ≡ 0)
MixedReadsAlone (v ∷ vs) last x = IsRead (as_event v) × MixedDid x v × MixedReadsAlone vs last (left (as_event v))

pub record CarriedEitherWay (s r : Side) : Type 0 where
  pub carried : Carried s r
  pub unread : (vs : List Mixed) (last : Mixed) → MixedReadsAlone vs last r.records → unread_in_order (seen_of r.records) ≡ put_by_reads (as_events vs)

abbrev pub TwoEndsMixed : Type 0
TwoEndsMixed =
    (i j segmentsA segmentsB clockA clockB : ℕ)
    → Id i
    → Id j
    → (lentA lentB : Lent) (a b : Opened)
    → OpenedEither i j segmentsA clockA lentA a
    → OpenedEither j i segmentsB clockB lentB b
    → (turns : List MixedTurn)
    → MixedOverALine turns (both_opened a b lentA lentB)
    → let w = records.last_of (as_turns turns) (both_opened a b lentA lentB) in
    CarriedEitherWay w.a w.b × CarriedEitherWay w.b w.a
