-- Demands 2 and 3 for callers in C and Rust: for every list of calls from `udx_open` in which each call is handed the numbers, words and
-- stores that the one before it left. The statements are `SameFromC` and `TwoEndsFromC`: those of the crate `promise`, about what such
-- callers saw. Statements only: the proofs are in proofs/FromC.antt.
use Rattle.std.specs.Prelude.{ℕ, ◌≡◌, List, [], ◌∷◌}
use Rattle.model.specs.Stream.{End, fresh}
use Rattle.model.specs.Driving.{look}
use Rattle.model.specs.Calls.{answer, after}
use Rattle.model_ends.specs.TwoEnds.{History, no_history, unread_in_order, Id}
use Rattle.records.specs.Seen.{Lent}
use Rattle.promise.specs.Runs.{seen_of, call_of, calls_of, answer_of, Same}
use Rattle.promise.specs.TwoEndsOnRecords.{noted, Side, Brings, IsRead, put_by_reads, Carried}
use Rattle.udx_c_numbers.specs.declared.structs.FlatStep.{FlatStep}
use Rattle.udx_c.specs.declared.look.FlatPart.{FlatPart}
use Rattle.udx_c.specs.Shown.{ShownBy, Looks}
use Rattle.promise_ways.specs.Calls.{
  Plain,
  PlainEvent,
  PlainDid,
  PlainRun,
  plain_left,
  plain_last,
  plain_opened,
  step_of,
  records_of,
  event_of,
  events_of,
  OpenedInC,
}

-- demand 2

-- what holds of the numbers x after some calls, and of the next call, whichever it is
pub record SameInC (x : Plain) (e : End) : Type 0 where
  -- they stand for records that are the model's end
  pub records : Same (records_of x) e
  -- the next call returns the model's outcome, count, bytes and segment size and leaves the model's end
  pub next : (v : PlainEvent) → PlainDid x v → answer_of (event_of v) ≡ answer (call_of v.request) e
  -- 01, refusal 1: "(never so after calls from a fresh stream)"
  pub unbroken : (v : PlainEvent) → PlainDid x v → v.step.refusal ≡ 1 → ⊥
  -- the part that `udx_look` returns is within its store and has exactly the bytes that the model shows
  pub shown : (part : FlatPart) → Looks x.stream x.totals x.lent part → ShownBy (look e) x.lent.outgoing x.lent.headers part

abbrev pub SameFromC : Type 0
SameFromC =
    (local remote segments clock : ℕ) (l : Lent) (o : FlatStep)
    → OpenedInC local remote segments clock l o
    → (events : List PlainEvent)
    → PlainRun events (plain_opened o l)
    → SameInC (plain_last events (plain_opened o l)) (after (calls_of (events_of events)) (fresh local remote segments clock))

-- demand 3

-- one end with its past: what its caller saw
pub record PlainSide : Type 0 where
  pub plain : Plain
  pub past : History

abbrev pub side_of : PlainSide → Side
side_of x = record { records = records_of x.plain; past = x.past }

abbrev pub plain_happened : PlainEvent → PlainSide → PlainSide
plain_happened v x = record { plain = plain_left v; past = noted v.request (step_of v.step) v.buf x.past }

-- two ends and a list of calls on either

pub record PlainEnds : Type 0 where
  pub a : PlainSide
  pub b : PlainSide

pub data PlainTurn : Type 0 where
  on_a on_b : PlainEvent → PlainTurn

abbrev pub plain_turned : PlainTurn → PlainEnds → PlainEnds
plain_turned (on_a v) w = record { a = plain_happened v w.a; b = w.b }
plain_turned (on_b v) w = record { a = w.a; b = plain_happened v w.b }

abbrev pub plain_last_of : List PlainTurn → PlainEnds → PlainEnds
plain_last_of [] w = w
plain_last_of (c ∷ cs) w = plain_last_of cs (plain_turned c w)

-- a call did what its contract says and, if it is a delivery, brought a copy of a datagram that the other end's takes put, or was refused
abbrev pub PlainFits : PlainEvent → PlainSide → PlainSide → Type 0
PlainFits v x other = PlainDid x.plain v × Brings v.request (step_of v.step).outcome (side_of other)

abbrev pub PlainFitsEnds : PlainTurn → PlainEnds → Type 0
PlainFitsEnds (on_a v) w = PlainFits v w.a w.b
PlainFitsEnds (on_b v) w = PlainFits v w.b w.a

abbrev pub PlainOverALine : List PlainTurn → PlainEnds → Type 0
PlainOverALine [] w = Unit {0}
PlainOverALine (c ∷ cs) w = PlainFitsEnds c w × PlainOverALine cs (plain_turned c w)

abbrev pub opened_side : FlatStep → Lent → PlainSide
opened_side o l = record { plain = plain_opened o l; past = no_history }

abbrev pub both_opened_in_c : (a b : FlatStep) (lentA lentB : Lent) → PlainEnds
both_opened_in_c a b lentA lentB = record { a = opened_side a lentA; b = opened_side b lentB }

-- "reads alone, 1,380 at a time, .. up to the first that puts none": reads from C; the last one puts none
abbrev pub PlainReadsAlone : List PlainEvent → PlainEvent → Plain → Type 0
PlainReadsAlone [] last x = IsRead (event_of last) × PlainDid x last × (last.step.count ≡ 0)
PlainReadsAlone (v ∷ vs) last x = IsRead (event_of v) × PlainDid x v × PlainReadsAlone vs last (plain_left v)

-- the promise holds of the records that the numbers stand for, and what is unread in order is what reads from C put
pub record CarriedInC (s r : PlainSide) : Type 0 where
  pub carried : Carried (side_of s) (side_of r)
  pub unread : (vs : List PlainEvent) (last : PlainEvent) → PlainReadsAlone vs last r.plain
      → unread_in_order (seen_of (records_of r.plain)) ≡ put_by_reads (events_of vs)

abbrev pub TwoEndsFromC : Type 0
TwoEndsFromC =
    (i j segmentsA segmentsB clockA clockB : ℕ)
    → Id i
    → Id j
    → (lentA lentB : Lent) (a b : FlatStep)
    → OpenedInC i j segmentsA clockA lentA a
    → OpenedInC j i segmentsB clockB lentB b
    → (turns : List PlainTurn)
    → PlainOverALine turns (both_opened_in_c a b lentA lentB)
    → let w = plain_last_of turns (both_opened_in_c a b lentA lentB) in
    CarriedInC w.a w.b × CarriedInC w.b w.a
