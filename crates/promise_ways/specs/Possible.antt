-- The hypotheses of the theorems from C are satisfiable: numbers, words and stores that satisfy the contracts of the C functions exist
-- after each call, for every list of requests (`EveryRunFromC`), for whatever two ends of the model do over a line (`EveryLineFromC`), for
-- bytes that one end carries to the other (`PossibleFromC`), and for the reads that show what is unread (`EveryReadOutFromC`). The same as
-- promise/specs/Possible.antt, on plain numbers. Statements only: the proofs are in proofs/Possible.antt.
use Rattle.std.specs.Prelude.{ℕ, ◌≤◌, ◌≡◌, List, [], ◌∷◌, ◌++◌, length, drop}
use Rattle.model.specs.Lists.{Bytes, joined}
use Rattle.model_ends.specs.TwoEnds as model
use Rattle.model_ends.specs.TwoEnds.{Id}
use Rattle.records.specs.Seen.{Lent}
use Rattle.promise.specs.Runs.{Request, to_write, to_deliver, to_drive, to_take, to_read}
use Rattle.promise.specs.TwoEndsOnRecords.{ack_of, put_by_reads}
use Rattle.promise.specs.Possible.{WordLengths, Openable, Asked, of_a, of_b, commands_for}
use Rattle.udx_c_numbers.specs.declared.structs.FlatStep.{FlatStep}
use Rattle.promise_ways.specs.Calls.{Plain, PlainEvent, PlainDid, plain_left, plain_opened, events_of, OpenedInC}
use Rattle.promise_ways.specs.FromC.{PlainSide, side_of, PlainEnds, PlainTurn, on_a, on_b, plain_last_of, PlainOverALine, both_opened_in_c, PlainReadsAlone}

-- one end

-- each request was made by a call that did what the contract of its C function says and left words of the same lengths
abbrev pub MakesInC : List Request → List PlainEvent → Plain → Type 0
MakesInC [] [] x = Unit {0}
MakesInC [] (v ∷ vs) x = ⊥
MakesInC (q ∷ qs) [] x = ⊥
MakesInC (q ∷ qs) (v ∷ vs) x = (v.request ≡ q) × PlainDid x v × WordLengths v.lent × MakesInC qs vs (plain_left v)

-- From a `udx_open` that returned ok, every list of requests, with any bytes to deliver, can be made.
abbrev pub EveryRunFromC : Type 0
EveryRunFromC =
    (local remote segments clock : ℕ) (l : Lent)
    → Openable segments clock l
    → (o : FlatStep)
    × OpenedInC local remote segments clock l o
    × ((requests : List Request) → (events : List PlainEvent) × MakesInC requests events (plain_opened o l))

-- two ends

abbrev pub asked_in_c : List PlainTurn → List Asked
asked_in_c [] = []
asked_in_c (on_a v ∷ cs) = of_a v.request ∷ asked_in_c cs
asked_in_c (on_b v ∷ cs) = of_b v.request ∷ asked_in_c cs

-- For every list of calls over a line that the model's `TwoEnds` covers, there are calls from C with the same requests, so `TwoEndsFromC`
-- covers it too.
abbrev pub EveryLineFromC : Type 0
EveryLineFromC =
    (i j segmentsA segmentsB clockA clockB : ℕ) (lentA lentB : Lent)
    → Openable segmentsA clockA lentA
    → Openable segmentsB clockB lentB
    → (a : FlatStep)
    × (b : FlatStep)
    × OpenedInC i j segmentsA clockA lentA a
    × OpenedInC j i segmentsB clockB lentB b
    × ((asked : List Asked)
    → model.OverALine (commands_for asked) (model.both_opened i j segmentsA segmentsB clockA clockB)
    → (turns : List PlainTurn) × (asked_in_c turns ≡ asked) × PlainOverALine turns (both_opened_in_c a b lentA lentB))

-- 01, 'Calls', 2 to 6: bytes are written, driven and taken at a, and "a copy of such a datagram", the one taken, is delivered and read at b
pub record TrafficInC (clockA clockB : ℕ) (bytes batch room : Bytes) (w : PlainEnds) : Type 0 where
  pub turns : List PlainTurn
  pub datagram : Bytes
  pub asked : asked_in_c turns
      ≡ of_a (to_write bytes) ∷ of_a (to_drive clockA) ∷ of_a (to_take batch) ∷ of_b (to_deliver datagram clockB) ∷ of_b (to_read room) ∷ []
  pub line : PlainOverALine turns w
  pub accepted : (plain_last_of turns w).a.past.accepted ≡ bytes
  pub taken : (plain_last_of turns w).a.past.taken ≡ datagram ∷ []
  pub reads : (plain_last_of turns w).b.past.reads ≡ bytes

-- Such traffic exists, for any bytes of one piece, any take buffer of 14,000 bytes or more and a read buffer of 1,380.
abbrev pub PossibleFromC : Type 0
PossibleFromC =
    (i j segmentsA segmentsB clockA clockB : ℕ) (lentA lentB : Lent)
    → Id i
    → Id j
    → Openable segmentsA clockA lentA
    → Openable segmentsB clockB lentB
    → (bytes batch room : Bytes)
    → 1 ≤ length bytes
    → length bytes ≤ 1_380
    → 14_000 ≤ length batch
    → length room ≡ 1_380
    → (a : FlatStep)
    × (b : FlatStep)
    × OpenedInC i j segmentsA clockA lentA a
    × OpenedInC j i segmentsB clockB lentB b
    × TrafficInC clockA clockB bytes batch room (both_opened_in_c a b lentA lentB)

-- what is unread

-- "reads alone, 1,380 at a time, .. up to the first that puts none", from C, at the receiver r. In what the sender s accepted, the bytes
-- they put come between the bytes read and the packets at or past the receiver's ack
pub record ReadOutInC (s r : PlainSide) : Type 0 where
  pub reads : List PlainEvent
  pub last : PlainEvent
  pub alone : PlainReadsAlone reads last r.plain
  pub accepted : s.past.accepted ≡ r.past.reads ++ (put_by_reads (events_of reads) ++ joined (drop (ack_of (side_of r)) s.past.pieces))

-- Such reads exist at either end after every list of calls over a line, so what `CarriedInC` says of all such reads is not vacuous.
abbrev pub EveryReadOutFromC : Type 0
EveryReadOutFromC =
    (i j segmentsA segmentsB clockA clockB : ℕ)
    → Id i
    → Id j
    → (lentA lentB : Lent) (a b : FlatStep)
    → OpenedInC i j segmentsA clockA lentA a
    → OpenedInC j i segmentsB clockB lentB b
    → (turns : List PlainTurn)
    → PlainOverALine turns (both_opened_in_c a b lentA lentB)
    → let w = plain_last_of turns (both_opened_in_c a b lentA lentB) in ReadOutInC w.a w.b × ReadOutInC w.b w.a
