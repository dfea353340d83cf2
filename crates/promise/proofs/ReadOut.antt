-- Reads alone exist at every end that calls lead to (`reads_at`). A read of 1,380 has room for a whole packet: either it finds nothing at
-- the read cursor and puts none, or it finishes a packet and the cursor rises. Held packets have numbers below 4,294,967,295, so the reads
-- come to an end. What they put is then what `two_ends_on_records` says.
use Prim.Native.Nat.{ℕ, zero, suc, ◌+◌, ◌-◌, ◌≤◌, ◌<◌}
use native.Mathlib.Nat.{le_refl}
use native.Mathlib.Omega.{arith}
use mathlib.Core.Path.{◌≡◌, refl, sym, ap, ◌∙◌, subst}
use mathlib.Core.List.{List, [], ◌∷◌, ◌++◌}
use mathlib.Core.Bool.{false, cond}
use mathlib.Core.Option.{Option, none, some}
use lib.Dec.{ltb}
use lib.ListN.{length, drop, replicate, length-drop, length-replicate}
use borrow.Author.Tests.{le-ltb}
use Rattle.model.specs.Lists.{Bytes, joined, on}
use Rattle.model.specs.Slots.{get}
use Rattle.model.specs.Stream.{Held, Receiver, End}
use Rattle.model.specs.Answers.{Answer}
use Rattle.model.specs.Calls.{answer}
use Rattle.model.specs.Receiving.{Got, rest, finished, got_none, got_front, got_whole, read_loop, read_next, read_answer, read_refusal, read}
use Rattle.model.proofs.Lists.{by-test}
use Rattle.model.proofs.Gate.{by_gate}
use Rattle.model.proofs.SlotSums.{slots_look}
use Rattle.model_rules.proofs.Invariant.{HeldFacts, Invariant}
use Rattle.promise.specs.Runs.{Records, seen_of, Request, to_read, call_of, Event, left, Did, answer_of}
use Rattle.promise.specs.TwoEndsOnRecords.{Side, happened, Ends, Turn, turned, last_of, OverALine, ack_of, ReadsAlone, Carried, both_opened}
use Rattle.promise.specs.Possible.{ReadOut, EveryReadOut}
use Rattle.promise.proofs.EveryCall.{stores}
use Rattle.promise.proofs.EveryRead.{loop_whole, Given, acts, finds_none, finishes}
use Rattle.promise.proofs.Line.{LaidSide, BothLaid, call_laid, turn_laid}
use Rattle.promise.proofs.Runs.{Stands, stands_answer, open_stands}
use Rattle.promise.proofs.TwoEndsOnRecords.{two_ends_on_records}

-- the read cursor never falls

loop_cursor : (k room : ℕ) (r : Receiver) → r.read_cursor ≤ (read_loop k room r).receiver.read_cursor
unfolding read_loop
loop_cursor zero room r = le_refl r.read_cursor
loop_cursor (suc k) room r = go (get r.incoming r.read_cursor) (λ m. loop_cursor k m (finished r))
  where
    go : (o : Option Held) → ((m : ℕ) → suc r.read_cursor ≤ (read_loop k m (finished r)).receiver.read_cursor)
        → r.read_cursor ≤ (on o (got_none r) (λ h. cond (ltb room (length (rest h))) (got_front room h r) (got_whole h (read_loop k (room - length (rest h)) (finished r))))).receiver.read_cursor
    go none rec = le_refl r.read_cursor
    go (some h) rec =
        by-test (λ (g : Got). r.read_cursor ≤ g.receiver.read_cursor) (ltb room (length (rest h))) (got_front room h r) (got_whole h (read_loop k (room - length (rest h)) (finished r)))
        (λ z. le_refl r.read_cursor) (λ z. let u = rec (room - length (rest h)) in omega arith)

-- a packet that fits is finished, and the cursor is past it
next_cursor : (room : ℕ) (r : Receiver) (h : Held) → get r.incoming r.read_cursor ≡ some h → ltb room (length (rest h)) ≡ false
    → r.read_cursor < (read_next room r).receiver.read_cursor
unfolding read_next read_loop
next_cursor room r h e l = rw (e, l) (loop_cursor 31 (room - length (rest h)) (finished r))

-- a read that finds nothing puts none
reads_nothing : (room : ℕ) (e : End) → get e.receiver.incoming e.receiver.read_cursor ≡ none → (read room e).count ≡ 0
unfolding read read_next read_loop
reads_nothing room e z =
    by_gate (λ (a : Answer). a.count ≡ 0) (read_refusal e) e (read_answer (read_next room e.receiver) e) (λ why. refl) (λ q. rw z refl)

-- reads alone at an end

pub record Reads (x : Side) : Type 0 where
  pub reads : List Event
  pub last : Event
  pub alone : ReadsAlone reads last x.records

module _ (room : Bytes) (size : length room ≡ 1_380) where
  abbrev event_of : {x : Records} → Given x room → Event
  event_of g = record { request = to_read room; step = g.step; lent = g.after; buf = g.buf' }

  same_read : (x : Side) → LaidSide x → (v : Event) → v.request ≡ to_read room → Did x.records v → answer_of v ≡ read (length room) (seen_of x.records)
  same_read x laid v q d = stands_answer x.records (seen_of x.records) v laid d ∙ ap (λ (q : Request). answer (call_of q) (seen_of x.records)) q

  last_read : (x : Side) → LaidSide x → get (seen_of x.records).receiver.incoming (seen_of x.records).receiver.read_cursor ≡ none → Reads x
  last_read x laid e =
      let g = finds_none x.records laid.laid (stores x.records laid.laid) laid.keeps room e in
      let v = event_of g in
      record {
        reads = [];
        last = v;
        alone = (
          (room, refl, size),
          g.gives,
          ap (λ (a : Answer). a.count) (same_read x laid v refl g.gives) ∙ reads_nothing (length room) (seen_of x.records) e,
        );
      }

  record Next (x : Side) : Type 0 where
    event : Event
    request : event.request ≡ to_read room
    did : Did x.records event
    below : (seen_of x.records).receiver.read_cursor < 4_294_967_295
    rises : (seen_of x.records).receiver.read_cursor < (seen_of (left event)).receiver.read_cursor

  next_read : (x : Side) → LaidSide x → (h : Held) → get (seen_of x.records).receiver.incoming (seen_of x.records).receiver.read_cursor ≡ some h → Next x
  unfolding read_next
  next_read x laid h e =
      let o = seen_of x.records in
      let held = slots_look (HeldFacts o.receiver.read_cursor) o.receiver.incoming o.receiver.read_cursor h laid.keeps.facts.receiver.held e in
      let short : length (rest h) ≤ length room = let m = held.most in let d = length-drop h.offset h.payload in omega arith in
      let fits = le-ltb (length room) (length (rest h)) short in
      let s = stores x.records laid.laid in
      let g = finishes x.records laid.laid s laid.keeps room (loop_whole 31 (length room) o.receiver h e fits) in
      let v = event_of g in
      let is = same_read x laid v refl g.gives ∙ acts x.records laid.laid s laid.keeps room in
      record {
        event = v;
        request = refl;
        did = g.gives;
        below = held.fits;
        rises =
            subst (λ (a : Answer). o.receiver.read_cursor < a.end.receiver.read_cursor) (sym is) (next_cursor (length room) o.receiver h e fits);
      }

  -- k bounds how many numbers a held packet can still have
  reads_of : (k : ℕ) (x : Side) → LaidSide x → 4_294_967_295 ≤ k + (seen_of x.records).receiver.read_cursor → Reads x
  reads_of zero x laid enough = go (get (seen_of x.records).receiver.incoming (seen_of x.records).receiver.read_cursor) refl
    where
      go : (o : Option Held) → get (seen_of x.records).receiver.incoming (seen_of x.records).receiver.read_cursor ≡ o → Reads x
      go none e = last_read x laid e
      go (some h) e = let l = (next_read x laid h e).below in absurd (omega arith)
  reads_of (suc k) x laid enough =
      go (get (seen_of x.records).receiver.incoming (seen_of x.records).receiver.read_cursor) refl
      (λ n. let up = n.rises in reads_of k (happened n.event x) (call_laid n.event x laid n.did) (omega arith))
    where
      go : (o : Option Held) → get (seen_of x.records).receiver.incoming (seen_of x.records).receiver.read_cursor ≡ o
          → ((n : Next x) → Reads (happened n.event x)) → Reads x
      go none e rec = last_read x laid e
      go (some h) e rec =
          let n = next_read x laid h e in
          let r = rec n in
          record { reads = n.event ∷ r.reads; last = r.last; alone = ((room, n.request, size), n.did, r.alone) }

pub reads_at : (x : Side) → LaidSide x → Reads x
reads_at x laid = reads_of (replicate 1_380 0) (length-replicate {A = ℕ} 1_380 0) (4_294_967_295 - (seen_of x.records).receiver.read_cursor) x laid (omega arith)

-- two ends

pub stands_laid : (x : Side) (e : End) → Stands x.records e → LaidSide x
stands_laid x e s = record { laid = s.laid; end = refl; keeps = subst Invariant (sym s.end) s.keeps }

abbrev BothReads : Ends → Type 0
BothReads w = Reads w.a × Reads w.b

reads_after : (cs : List Turn) (w : Ends) → BothLaid w → OverALine cs w → BothReads (last_of cs w)
reads_after [] w laid f = (reads_at w.a laid.0, reads_at w.b laid.1)
reads_after (c ∷ cs) w laid f = reads_after cs (turned c w) (turn_laid c w laid f.0) f.1

read_out : (s r : Side) → Carried s r → Reads r → ReadOut s r
read_out s r c t =
    record {
      reads = t.reads;
      last = t.last;
      alone = t.alone;
      accepted =
          c.accepted
          ∙ ap (λ (z : Bytes). r.past.reads ++ (z ++ joined (drop (ack_of r) s.past.pieces))) (c.unread t.reads t.last t.alone);
    }

pub every_read_out : EveryReadOut
every_read_out i j segmentsA segmentsB clockA clockB idI idJ lentA lentB a b openA openB turns line =
    let start = both_opened a b lentA lentB in
    let w = last_of turns start in
    let laid : BothLaid start = (stands_laid start.a _ (open_stands i j segmentsA clockA lentA a openA), stands_laid start.b _ (open_stands j i segmentsB clockB lentB b openB)) in
    let (read_a, readB) = reads_after turns start laid line in
    let (out, back) = two_ends_on_records i j segmentsA segmentsB clockA clockB idI idJ lentA lentB a b openA openB turns line in
    (read_out w.a w.b out readB, read_out w.b w.a back read_a)
