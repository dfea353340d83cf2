-- The hypotheses of the theorems about lists of calls are satisfiable. Those theorems quantify over events that satisfy the contracts of
-- the exported functions; such events exist for every list of requests from an open (`EveryRun`), for whatever two ends of the model do
-- over a line (`EveryLine`), for bytes that one end carries to the other (`Possible`), and, wherever two ends get to, for the reads that
-- show what is unread (`EveryReadOut`). Statements only: the proofs are in proofs/EveryCall.antt, proofs/Possible.antt and
-- proofs/ReadOut.antt.
use Rattle.std.specs.Prelude.{ℕ, ◌≤◌, ◌≡◌, List, [], ◌∷◌, ◌++◌, false, length, drop}
use Rattle.std.proofs.Math.Option.{none}
use Rattle.model.specs.Lists.{Bytes, joined}
use Rattle.model.specs.Sending.{open_refusal}
use Rattle.model_ends.specs.TwoEnds as model
use Rattle.model_ends.specs.TwoEnds.{Id}
use Rattle.records.specs.declared.«open».Opened.{Opened}
use Rattle.records.specs.Seen.{Lent}
use Rattle.records.specs.Open.{stores_test}
use Rattle.promise.specs.Runs.{Records, Request, to_write, to_deliver, to_drive, to_take, to_read, call_of, Event, left, Did, OpenedBy, handed_out}
use Rattle.promise.specs.TwoEndsOnRecords.{Side, Ends, Turn, on_a, on_b, last_of, OverALine, ack_of, ReadsAlone, put_by_reads, both_opened}

-- what is lent to the calls of one end

-- the lengths of the arrays of words
pub record WordLengths (l : Lent) : Type 0 where
  pub sent : length l.sent ≡ 64
  pub held : length l.held ≡ 32
  pub queue : length l.queue ≡ 128

-- 01, call 1: "Open: both ids, segment ceiling 1 to 10, clock"; ceiling and clock are accepted, the stores have 01's lengths, and stores
-- and words may hold anything
pub record Openable (segments clock : ℕ) (l : Lent) : Type 0 where
  pub accepted : open_refusal segments clock ≡ none
  pub stores : stores_test l.outgoing l.incoming l.headers ≡ false
  pub words : WordLengths l

-- one end

-- each request was made by a call that did what its contract says and left words of the same lengths
abbrev pub Makes : List Request → List Event → Records → Type 0
Makes [] [] x = Unit {0}
Makes [] (v ∷ vs) x = ⊥
Makes (q ∷ qs) [] x = ⊥
Makes (q ∷ qs) (v ∷ vs) x = (v.request ≡ q) × Did x v × WordLengths v.lent × Makes qs vs (left v)

-- From an open that is not refused, every list of requests, with any bytes to deliver, can be made.
abbrev pub EveryRun : Type 0
EveryRun =
    (local remote segments clock : ℕ) (l : Lent)
    → Openable segments clock l
    → (o : Opened) × OpenedBy local remote segments clock l o × ((requests : List Request) → (events : List Event) × Makes requests events (handed_out o l))

-- two ends

pub data Asked : Type 0 where
  of_a of_b : Request → Asked

abbrev pub asked_by : List Turn → List Asked
asked_by [] = []
asked_by (on_a v ∷ cs) = of_a v.request ∷ asked_by cs
asked_by (on_b v ∷ cs) = of_b v.request ∷ asked_by cs

abbrev pub commands_for : List Asked → List model.Command
commands_for [] = []
commands_for (of_a q ∷ qs) = model.on_a (call_of q) ∷ commands_for qs
commands_for (of_b q ∷ qs) = model.on_b (call_of q) ∷ commands_for qs

-- For every list of calls over a line that the model's `TwoEnds` covers, there are calls on the records with the same requests, so
-- `TwoEndsOnRecords` covers it too.
abbrev pub EveryLine : Type 0
EveryLine =
    (i j segmentsA segmentsB clockA clockB : ℕ) (lentA lentB : Lent)
    → Openable segmentsA clockA lentA
    → Openable segmentsB clockB lentB
    → (a : Opened)
    × (b : Opened)
    × OpenedBy i j segmentsA clockA lentA a
    × OpenedBy j i segmentsB clockB lentB b
    × ((asked : List Asked)
    → model.OverALine (commands_for asked) (model.both_opened i j segmentsA segmentsB clockA clockB)
    → (turns : List Turn) × (asked_by turns ≡ asked) × OverALine turns (both_opened a b lentA lentB))

-- 01, 'Calls', 2 to 6: bytes are written, driven and taken at a, and "a copy of such a datagram", the one taken, is delivered and read at b
pub record Traffic (clockA clockB : ℕ) (bytes batch room : Bytes) (w : Ends) : Type 0 where
  pub turns : List Turn
  pub datagram : Bytes
  pub asked : asked_by turns
      ≡ of_a (to_write bytes) ∷ of_a (to_drive clockA) ∷ of_a (to_take batch) ∷ of_b (to_deliver datagram clockB) ∷ of_b (to_read room) ∷ []
  pub line : OverALine turns w
  pub accepted : (last_of turns w).a.past.accepted ≡ bytes
  pub taken : (last_of turns w).a.past.taken ≡ datagram ∷ []
  pub reads : (last_of turns w).b.past.reads ≡ bytes

-- Such traffic exists, for any bytes of one piece, any take buffer of 14,000 bytes or more and a read buffer of 1,380.
abbrev pub Possible : Type 0
Possible =
    (i j segmentsA segmentsB clockA clockB : ℕ) (lentA lentB : Lent)
    → Id i
    → Id j
    → Openable segmentsA clockA lentA
    → Openable segmentsB clockB lentB
    → (bytes batch room : Bytes)
    → 1 ≤ length bytes
    → length bytes ≤ 1_380
    → 14_000 ≤ length batch
    → length room ≡ 1_380
    → (a : Opened)
    × (b : Opened)
    × OpenedBy i j segmentsA clockA lentA a
    × OpenedBy j i segmentsB clockB lentB b
    × Traffic clockA clockB bytes batch room (both_opened a b lentA lentB)

-- what is unread

-- "reads alone, 1,380 at a time, .. up to the first that puts none" at the receiver r. In what the sender s accepted, the bytes they put
-- come between the bytes read and the packets at or past the receiver's ack
pub record ReadOut (s r : Side) : Type 0 where
  pub reads : List Event
  pub last : Event
  pub alone : ReadsAlone reads last r.records
  pub accepted : s.past.accepted ≡ r.past.reads ++ (put_by_reads reads ++ joined (drop (ack_of r) s.past.pieces))

-- Such reads exist at either end after every list of calls over a line, so what `Carried` says of all such reads is not vacuous.
abbrev pub EveryReadOut : Type 0
EveryReadOut =
    (i j segmentsA segmentsB clockA clockB : ℕ)
    → Id i
    → Id j
    → (lentA lentB : Lent) (a b : Opened)
    → OpenedBy i j segmentsA clockA lentA a
    → OpenedBy j i segmentsB clockB lentB b
    → (turns : List Turn)
    → OverALine turns (both_opened a b lentA lentB)
    → let w = last_of turns (both_opened a b lentA lentB) in ReadOut w.a w.b × ReadOut w.b w.a
