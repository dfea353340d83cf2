-- Whatever two ends of the model do over a line, two ends on the records can do: each call can be made (EveryCall.antt), answers as the
-- model's does and so brings what the model's brings. A piece that the model carries is then carried on the records.
use Prim.Native.Nat.{ℕ, ◌≤◌}
use mathlib.Core.Path.{◌≡◌, refl, sym, ap, ap₂, ◌∙◌, subst}
use mathlib.Core.Logic.{inl, inr}
use mathlib.Core.List.{List, [], ◌∷◌, Memᴰ}
use lib.Dec.{T}
use lib.ListN.{length}
use borrow.Author.Tests.{le-ltb}
use Rattle.error.specs.declared.Refusal.{Refusal}
use Rattle.std.specs.Prelude.{Result}
use Rattle.error.specs.declared.Outcome.{Outcome}
use Rattle.model.specs.Lists.{Bytes}
use Rattle.model.specs.Stream.{End, fresh}
use Rattle.model.specs.Answers.{Answer}
use Rattle.model.specs.Calls.{answer}
use Rattle.model.specs.Sending as model
use Rattle.model.specs.Receiving as model_in
use Rattle.model.specs.Driving as model_out
use Rattle.model.specs.Driving.{take_refusal}
use Rattle.model_ends.specs.TwoEnds as two_ends
use Rattle.model_ends.specs.TwoEnds.{is_refused, no_history, Id}
use Rattle.model_alive.specs.Traffic.{CarriesOnce, piece_commands}
use Rattle.model_alive.proofs.Traffic.{piece_carries}
use Rattle.records.specs.declared.«open».Opened.{Opened}
use Rattle.records.specs.Seen.{Lent}
use Rattle.promise.specs.Runs.{seen_of, Request, to_write, to_deliver, to_drive, to_take, to_read, to_close, call_of, Event, Did}
use Rattle.promise.specs.TwoEndsOnRecords.{Side, Ends, Turn, on_a, on_b, turned, last_of, Brings, OverALine, both_opened}
use Rattle.promise.specs.Possible.{Openable, Asked, of_a, of_b, asked_by, commands_for, EveryLine, Traffic, Possible}
use Rattle.promise.proofs.Runs.{stands_answer, open_stands}
use Rattle.promise.proofs.Line.{seen_side, seen_ends, commands_of, LaidSide, call_same, run_same}
use Rattle.promise.proofs.EveryCall.{Stand, make, fresh_opened, can_open, open_stand}

-- one call

-- from `Stand` to `LaidSide`
as_laid : (x : Side) → Stand x.records → LaidSide x
as_laid x h = record { laid = h.laid; end = refl; keeps = h.keeps }

-- a delivery brings what the model's brings
brings : (x y : Side) → Stand x.records → (v : Event) → Did x.records v → two_ends.Brings (call_of v.request) (seen_side x) (seen_side y)
    → Brings v.request v.step.outcome y
brings x y h v d b = go v.request b (ap (λ (a : Answer). a.outcome) (stands_answer x.records (seen_of x.records) v (as_laid x h) d))
  where
    go : (q : Request) → two_ends.Brings (call_of q) (seen_side x) (seen_side y) → v.step.outcome ≡ (answer (call_of q) (seen_of x.records)).outcome → Brings q v.step.outcome y
    go (to_write bytes) b e = tt
    go (to_deliver datagram clock) (inl m) e = inl m
    go (to_deliver datagram clock) (inr t) e = inr (subst (λ (o : Result Outcome Refusal). T (is_refused o)) (sym e) t)
    go (to_drive clock) b e = tt
    go (to_take buf) b e = tt
    go (to_read buf) b e = tt
    go to_close b e = tt

-- a list of calls

abbrev BothStand : Ends → Type 0
BothStand w = Stand w.a.records × Stand w.b.records

record Line (asked : List Asked) (w : Ends) : Type 0 where
  turns : List Turn
  are : asked_by turns ≡ asked
  line : OverALine turns w

make_line : (asked : List Asked) (w : Ends) → BothStand w → two_ends.OverALine (commands_for asked) (seen_ends w) → Line asked w
make_line [] w h f = record { turns = []; are = refl; line = tt }
make_line (of_a q ∷ qs) w h f =
    let m = make w.a.records h.0 q in
    let v = m.event in
    let fits = brings w.a w.b h.0 v m.did (rw m.request f.0) in
    let same = call_same v w.a (as_laid w.a h.0) m.did ∙ ap (λ (q : Request). two_ends.called (call_of q) (seen_side w.a)) m.request in
    let next = subst (λ (x : two_ends.Side). two_ends.OverALine (commands_for qs) (record { a = x; b = seen_side w.b })) (sym same) f.1 in
    let rest = make_line qs (turned (on_a v) w) (m.next, h.1) next in
    record { turns = on_a v ∷ rest.turns; are = ap₂ (λ (q : Request) (a : List Asked). of_a q ∷ a) m.request rest.are; line = ((m.did, fits), rest.line) }
make_line (of_b q ∷ qs) w h f =
    let m = make w.b.records h.1 q in
    let v = m.event in
    let fits = brings w.b w.a h.1 v m.did (rw m.request f.0) in
    let same = call_same v w.b (as_laid w.b h.1) m.did ∙ ap (λ (q : Request). two_ends.called (call_of q) (seen_side w.b)) m.request in
    let next = subst (λ (x : two_ends.Side). two_ends.OverALine (commands_for qs) (record { a = seen_side w.a; b = x })) (sym same) f.1 in
    let rest = make_line qs (turned (on_b v) w) (h.0, m.next) next in
    record { turns = on_b v ∷ rest.turns; are = ap₂ (λ (q : Request) (a : List Asked). of_b q ∷ a) m.request rest.are; line = ((m.did, fits), rest.line) }

commands_are : (turns : List Turn) → commands_of turns ≡ commands_for (asked_by turns)
commands_are [] = refl
commands_are (on_a v ∷ cs) = ap (λ (ds : List two_ends.Command). two_ends.on_a (call_of v.request) ∷ ds) (commands_are cs)
commands_are (on_b v ∷ cs) = ap (λ (ds : List two_ends.Command). two_ends.on_b (call_of v.request) ∷ ds) (commands_are cs)

-- from two opens
module _ (i j segmentsA segmentsB clockA clockB : ℕ) (lentA lentB : Lent) (hA : Openable segmentsA clockA lentA) (hB : Openable segmentsB clockB lentB) where
  abbrev a : Opened
  a = fresh_opened i j segmentsA clockA lentA hA

  abbrev b : Opened
  b = fresh_opened j i segmentsB clockB lentB hB

  abbrev start : Ends
  start = both_opened a b lentA lentB

  from_fresh : seen_ends start ≡ two_ends.both_opened i j segmentsA segmentsB clockA clockB
  from_fresh =
      ap₂ (λ (x : End) (y : End). record { a = record { end = x; past = no_history }; b = record { end = y; past = no_history } })
      (open_stands i j segmentsA clockA lentA a (can_open i j segmentsA clockA lentA hA)).end
      (open_stands j i segmentsB clockB lentB b (can_open j i segmentsB clockB lentB hB)).end

  stand : BothStand start
  stand = (open_stand i j segmentsA clockA lentA hA, open_stand j i segmentsB clockB lentB hB)

  make_from_open : (asked : List Asked) → two_ends.OverALine (commands_for asked) (two_ends.both_opened i j segmentsA segmentsB clockA clockB) → Line asked start
  make_from_open asked f = make_line asked start stand (subst (two_ends.OverALine (commands_for asked)) (sym from_fresh) f)

  -- the ends after it are the model's
  ends_are : (asked : List Asked) (l : Line asked start)
      → seen_ends (last_of l.turns start) ≡ two_ends.run (commands_for asked) (two_ends.both_opened i j segmentsA segmentsB clockA clockB)
  ends_are asked l =
      run_same l.turns start (as_laid start.a stand.0, as_laid start.b stand.1) l.line
      ∙ ap₂ two_ends.run (commands_are l.turns ∙ ap commands_for l.are) from_fresh

pub every_line : EveryLine
every_line i j segmentsA segmentsB clockA clockB lentA lentB hA hB = (
  a i j segmentsA segmentsB clockA clockB lentA lentB hA hB,
  b i j segmentsA segmentsB clockA clockB lentA lentB hA hB,
  can_open i j segmentsA clockA lentA hA,
  can_open j i segmentsB clockB lentB hB,
  λ asked f. let l = make_from_open i j segmentsA segmentsB clockA clockB lentA lentB hA hB asked f in (l.turns, l.are, l.line),
)

-- one piece

-- a larger buffer changes nothing
more_room : (room : ℕ) (e : End) → 14_000 ≤ room → model_out.take room e ≡ model_out.take 14_000 e
unfolding model_out.take take_refusal
more_room room e l = rw (le-ltb room 14_000 l) refl

module _ (i j segmentsA segmentsB clockA clockB : ℕ) (lentA lentB : Lent) (idI : Id i) (idJ : Id j) (hA : Openable segmentsA clockA lentA)
    (hB : Openable segmentsB clockB lentB) (bytes batch room : Bytes) (some_bytes : 1 ≤ length bytes) (one_piece : length bytes ≤ 1_380)
    (large : 14_000 ≤ length batch) (size : length room ≡ 1_380) where
  -- the model's answers
  abbrev wrote : Answer
  wrote = model.write bytes (fresh i j segmentsA clockA)

  abbrev drove : Answer
  drove = model_out.drive clockA wrote.end

  abbrev took : Answer
  took = model_out.take (length batch) drove.end

  abbrev delivered : Answer
  delivered = model_in.deliver took.bytes clockB (fresh j i segmentsB clockB)

  abbrev read : Answer
  read = model_in.read (length room) delivered.end

  same_take : took ≡ model_out.take 14_000 drove.end
  same_take = more_room (length batch) drove.end large

  -- what the model carries, with a take into 14,000 bytes
  carries : CarriesOnce bytes (model_out.take 14_000 drove.end).bytes
      (piece_commands bytes (model_out.take 14_000 drove.end).bytes clockA clockB) (two_ends.both_opened i j segmentsA segmentsB clockA clockB)
  carries = piece_carries i j segmentsA segmentsB clockA clockB idI idJ hA.accepted hB.accepted bytes some_bytes one_piece

  one_datagram : model_out.datagrams_of took.segment took.bytes ≡ took.bytes ∷ []
  one_datagram = rw same_take carries.taken

  bytes_read : read.bytes ≡ bytes
  bytes_read = rw (same_take, size) carries.reads

  abbrev five : List Asked
  five = of_a (to_write bytes) ∷ of_a (to_drive clockA) ∷ of_a (to_take batch) ∷ of_b (to_deliver took.bytes clockB) ∷ of_b (to_read room) ∷ []

  model_line : two_ends.OverALine (commands_for five) (two_ends.both_opened i j segmentsA segmentsB clockA clockB)
  model_line = (tt, (tt, (tt, (inl (subst (Memᴰ took.bytes) (sym one_datagram) (Memᴰ.head refl)), (tt, tt)))))

  traffic : Traffic clockA clockB bytes batch room (start i j segmentsA segmentsB clockA clockB lentA lentB hA hB)
  traffic =
      let l = make_from_open i j segmentsA segmentsB clockA clockB lentA lentB hA hB five model_line in
      let e = ends_are i j segmentsA segmentsB clockA clockB lentA lentB hA hB five l in
      record {
        turns = l.turns;
        datagram = took.bytes;
        asked = l.are;
        line = l.line;
        accepted = ap (λ (w : two_ends.Ends). w.a.past.accepted) e ∙ carries.accepted;
        taken = ap (λ (w : two_ends.Ends). w.a.past.taken) e ∙ one_datagram;
        reads = ap (λ (w : two_ends.Ends). w.b.past.reads) e ∙ bytes_read;
      }

pub possible : Possible
possible i j segmentsA segmentsB clockA clockB lentA lentB idI idJ hA hB bytes batch room some_bytes one_piece large size = (
  a i j segmentsA segmentsB clockA clockB lentA lentB hA hB,
  b i j segmentsA segmentsB clockA clockB lentA lentB hA hB,
  can_open i j segmentsA clockA lentA hA,
  can_open j i segmentsB clockB lentB hB,
  traffic i j segmentsA segmentsB clockA clockB lentA lentB idI idJ hA hB bytes batch room some_bytes one_piece large size,
)
