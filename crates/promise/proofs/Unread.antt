-- What is unread in order, as seen, is what reads on the records put (`unread_is`). The reads are calls on the receiver like any others, so
-- the promise holds after them too: the same bytes are accepted, what the reads put is read, and nothing is unread once a read puts none.
use Prim.Native.Nat.{ℕ, zero, suc, ◌-◌}
use native.Mathlib.Omega.{arith}
use mathlib.Core.Path.{◌≡◌, refl, sym, ap, ◌∙◌, subst}
use mathlib.Core.List.{List, [], ◌∷◌, ◌++◌, append_assoc, append-nil}
use mathlib.Core.Bool.{cond}
use mathlib.Core.Option.{Option, none, some}
use lib.Dec.{ltb}
use lib.ListN.{length, take, drop, length-append}
use lib.Seq.{take-append_seam, drop-append_seam}
use Rattle.error.specs.declared.Refusal.{Refusal}
use Rattle.std.specs.Prelude.{Result}
use Rattle.error.specs.declared.Outcome.{Outcome}
use Rattle.model.specs.Lists.{Bytes, joined, is_empty, on}
use Rattle.model.specs.Slots.{get}
use Rattle.model.specs.Stream.{Held, Receiver, End}
use Rattle.model.specs.Answers.{Answer}
use Rattle.model.specs.Receiving.{Got, rest, finished, got_none, got_front, got_whole, read_loop, read_next, read_answer, read_refusal, read}
use Rattle.model.specs.Calls.{answer}
use Rattle.model_ends.specs.TwoEnds as model
use Rattle.model_ends.specs.TwoEnds.{unread_loop, unread_in_order}
use Rattle.model.proofs.Lists.{by-test}
use Rattle.model.proofs.Gate.{by_gate}
use Rattle.records.specs.Seen.{seen}
use Rattle.promise.specs.Runs.{seen_of, Request, call_of, Event, Did, put_by, answer_of}
use Rattle.promise.specs.TwoEndsOnRecords.{noted, Side, happened, Ends, Turn, on_b, turned, last_of, Brings, OverALine, ack_of, IsRead, ReadsAlone, put_by_reads}
use Rattle.promise.proofs.Runs.{stands_answer}
use Rattle.promise.proofs.Line.{seen_side, LaidSide, call_laid}

-- a read of the model does not change ack

loop_ack : (k room : ℕ) (r : Receiver) → (read_loop k room r).receiver.ack ≡ r.ack
unfolding read_loop
loop_ack zero room r = refl
loop_ack (suc k) room r = go (get r.incoming r.read_cursor) (λ m. loop_ack k m (finished r))
  where
    go : (o : Option Held) → ((m : ℕ) → (read_loop k m (finished r)).receiver.ack ≡ r.ack)
        → (on o (got_none r) (λ h. cond (ltb room (length (rest h))) (got_front room h r) (got_whole h (read_loop k (room - length (rest h)) (finished r))))).receiver.ack ≡ r.ack
    go none rec = refl
    go (some h) rec =
        by-test (λ (g : Got). g.receiver.ack ≡ r.ack) (ltb room (length (rest h))) (got_front room h r) (got_whole h (read_loop k (room - length (rest h)) (finished r)))
        (λ z. refl) (λ z. rec (room - length (rest h)))

read_ack : (room : ℕ) (e : End) → (read room e).end.receiver.ack ≡ e.receiver.ack
unfolding read read_next
read_ack room e =
    by_gate (λ a. a.end.receiver.ack ≡ e.receiver.ack) (read_refusal e) e (read_answer (read_next room e.receiver) e) (λ why. refl) (λ z. loop_ack _ room e.receiver)

-- one read on the records

module _ (v : Event) (x : Side) (is : IsRead v) where
  read_brings : (o : Result Outcome Refusal) (y : Side) → Brings v.request o y
  read_brings o y = subst (λ (q : Request). Brings q o y) (sym is.1) tt

  read_noted : (happened v x).past.reads ≡ x.past.reads ++ take v.step.count v.buf
  read_noted = ap (λ (q : Request). (noted q v.step v.buf x.past).reads) is.1

  module _ (laid : LaidSide x) (d : Did x.records v) where
    read_answers : answer (call_of v.request) (seen_of x.records) ≡ read 1_380 (seen_of x.records)
    read_answers = ap (λ (q : Request). answer (call_of q) (seen_of x.records)) is.1 ∙ ap (λ (n : ℕ). read n (seen_of x.records)) is.2

    read_same : answer_of v ≡ read 1_380 (seen_of x.records)
    read_same = stands_answer x.records (seen_of x.records) v laid d ∙ read_answers

    read_puts : take v.step.count v.buf ≡ (read 1_380 (seen_of x.records)).bytes
    read_puts = sym (ap (λ (q : Request). put_by q v.step.count v.buf) is.1) ∙ ap (λ (a : Answer). a.bytes) read_same

    read_keeps : ack_of (happened v x) ≡ ack_of x
    unfolding seen
    read_keeps = ap (λ (a : Answer). a.end.receiver.ack) read_same ∙ read_ack 1_380 (seen_of x.records)

-- reads alone

abbrev pub read_side : List Event → Side → Side
read_side [] x = x
read_side (v ∷ vs) x = read_side vs (happened v x)

abbrev pub read_turns : List Event → List Turn
read_turns [] = []
read_turns (v ∷ vs) = on_b v ∷ read_turns vs

pub reads_line : (vs : List Event) (last : Event) (w : Ends) → ReadsAlone vs last w.b.records → OverALine (read_turns vs) w
reads_line [] last w h = tt
reads_line (v ∷ vs) last w h = ((h.1, read_brings v w.b h.0 v.step.outcome w.a), reads_line vs last (turned (on_b v) w) h.2)

pub reads_last : (vs : List Event) (w : Ends) → last_of (read_turns vs) w ≡ record { a = w.a; b = read_side vs w.b }
reads_last [] w = refl
reads_last (v ∷ vs) w = reads_last vs (turned (on_b v) w)

reads_noted : (vs : List Event) (last : Event) (x : Side) → ReadsAlone vs last x.records → (read_side vs x).past.reads ≡ x.past.reads ++ put_by_reads vs
reads_noted [] last x h = sym (append-nil x.past.reads)
reads_noted (v ∷ vs) last x h =
    reads_noted vs last (happened v x) h.2
    ∙ ap (λ (z : Bytes). z ++ put_by_reads vs) (read_noted v x h.0)
    ∙ append_assoc x.past.reads (take v.step.count v.buf) (put_by_reads vs)

reads_ack : (vs : List Event) (last : Event) (x : Side) → LaidSide x → ReadsAlone vs last x.records → ack_of (read_side vs x) ≡ ack_of x
reads_ack [] last x laid h = refl
reads_ack (v ∷ vs) last x laid h = reads_ack vs last (happened v x) (call_laid v x laid h.1) h.2 ∙ read_keeps v x h.0 laid h.1

-- a read that puts none finds nothing unread
none_unread : (e : End) → (read 1_380 e).bytes ≡ [] → unread_in_order e ≡ []
none_unread e z =
    ap (λ (b : Bytes). cond (is_empty b) [] ((read 1_380 e).bytes ++ unread_loop (e.receiver.ack - e.receiver.read_cursor) (read 1_380 e).end)) z

reads_none : (vs : List Event) (last : Event) (x : Side) → LaidSide x → ReadsAlone vs last x.records → unread_in_order (seen_of (read_side vs x).records) ≡ []
reads_none [] last x laid h =
    none_unread (seen_of x.records) (sym (read_puts last x h.0 laid h.1) ∙ ap (λ (n : ℕ). take n last.buf) h.2)
reads_none (v ∷ vs) last x laid h = reads_none vs last (happened v x) (call_laid v x laid h.1) h.2

-- the promise before and after them

same_front : (r x y : Bytes) → r ++ x ≡ r ++ y → x ≡ y
same_front r x y e = sym (drop-append_seam r x) ∙ ap (drop (length r)) e ∙ drop-append_seam r y

same_back : (x y d : Bytes) → x ++ d ≡ y ++ d → x ≡ y
same_back x y d e =
    let a = length-append x d in
    let b = length-append y d in
    let c = ap length e in
    let n : length x ≡ length y = omega arith in
    sym (take-append_seam x d) ∙ ap (take (length x)) e ∙ ap (λ (k : ℕ). take k (y ++ d)) n ∙ take-append_seam y d

between : (r x y d : Bytes) → r ++ (x ++ d) ≡ (r ++ y) ++ d → x ≡ y
between r x y d e = same_back x y d (same_front r (x ++ d) (y ++ d) (e ∙ append_assoc r y d))

pub unread_is : (s x : Side) (vs : List Event) (last : Event) → LaidSide x → ReadsAlone vs last x.records → model.Carried (seen_side s) (seen_side x)
    → model.Carried (seen_side s) (seen_side (read_side vs x)) → unread_in_order (seen_of x.records) ≡ put_by_reads vs
unfolding seen
unread_is s x vs last laid h before after =
    let d = joined (drop (ack_of x) s.past.pieces) in
    between x.past.reads (unread_in_order (seen_of x.records)) (put_by_reads vs) d
    (sym before.accepted ∙ after.accepted
    ∙ ap (λ (z : Bytes). z ++ (unread_in_order (seen_of (read_side vs x).records) ++ joined (drop (ack_of (read_side vs x)) s.past.pieces))) (reads_noted vs last x h)
    ∙ ap (λ (z : Bytes). (x.past.reads ++ put_by_reads vs) ++ (z ++ joined (drop (ack_of (read_side vs x)) s.past.pieces))) (reads_none vs last x laid h)
    ∙ ap (λ (n : ℕ). (x.past.reads ++ put_by_reads vs) ++ joined (drop n s.past.pieces)) (reads_ack vs last x laid h))
