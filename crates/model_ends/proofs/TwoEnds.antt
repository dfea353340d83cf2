-- The proof of demand 3, the two-end theorem. Every call keeps the invariant of both directions (`Both`, in Line.antt). The promise for a
-- direction follows from its half; what is unread in order comes from running reads alone on the receiver, and none of them is refused, by
-- the invariant of one end (model_rules/proofs/Invariant.antt).
use Prim.Native.Nat.{ℕ, zero, suc, ◌-◌, ◌≤◌, ◌<◌, zero-le}
use native.Mathlib.Nat.{le_refl}
use native.Mathlib.Omega.{arith}
use mathlib.Core.Path.{◌≡◌, refl, sym, ap, ◌∙◌, subst}
use mathlib.Core.Logic.{◌⊎◌, inl, inr}
use mathlib.Core.List.Memᴰ
use mathlib.Core.List.{List, [], ◌∷◌, ◌++◌, append_assoc, append-nil}
use mathlib.Core.Option.{Option, none, some}
use mathlib.Core.Bool.{false, cond, true≢false}
use lib.Dec.{ltb}
use lib.ListN.{length, take, drop, get_or, length-drop}
use lib.Seq.{take-nil, take-append_seam}
use Rattle.model.specs.Lists.{Bytes, joined, is_empty, on}
use Rattle.model.specs.Slots.{Slots, ceiling, no_slots, get}
use Rattle.model.specs.Stream.{Packet, Held, Receiver, End, fresh, with_receiver}
use Rattle.model.specs.Answers.{Answer}
use Rattle.model.specs.Receiving.{Got, rest, finished, got_none, got_front, got_whole, read_loop, read_next, read_answer, read_refusal, read}
use Rattle.model.specs.Calls.{Call, write_call, deliver_call, drive_call, take_call, read_call, close_call}
use Rattle.model_ends.specs.TwoEnds.{no_history, Side, called, Ends, Command, on_a, on_b, step, run, Brings, Fits, OverALine, unread_loop, unread_in_order, Carried, Id, both_opened, TwoEnds}
use Rattle.model.proofs.Lists.{All, joined_split, empty_nil, by-test}
use Rattle.model.proofs.Slots.{no_some, get_none, none_length}
use Rattle.model.proofs.Gate.{gate_open}
use Rattle.model.proofs.Wire.{payload_back}
use Rattle.model_rules.proofs.Invariant.{Invariant, invariant_rules}
use Rattle.model_rules.proofs.InvariantCalls.{call_keeps, open_keeps}
use Rattle.model_ends.proofs.Line.{There, offset_of, OneWay, Both, ReceivedBy, AckMissing}
use Rattle.model_ends.proofs.LineReceiver.{ack_in_reach, ReadGives, read_gives}
use Rattle.model_ends.proofs.LineDrive.{both_drive, both_close}
use Rattle.model_ends.proofs.LineWrite.{both_write}
use Rattle.model_ends.proofs.LineTake.{both_take}
use Rattle.model_ends.proofs.LineRead.{both_read}
use Rattle.model_ends.proofs.LineDeliver.{both_deliver}

-- each call keeps the invariant of both directions

both_call : (c : Call) (x y : Side) → Brings c x y → Both x.end x.past y.end y.past
    → Both (called c x).end (called c x).past y.end y.past
both_call (write_call bytes) x y a i = both_write y.end y.past bytes x.end x.past i
both_call (deliver_call datagram clock) x y a i = both_deliver y.end y.past datagram clock x.end x.past a i
both_call (drive_call clock) x y a i = both_drive x.past y.end y.past clock x.end i
both_call (take_call room) x y a i = both_take y.end y.past room x.end x.past i
both_call (read_call room) x y a i = both_read y.end y.past room x.end x.past i
both_call close_call x y a i = both_close x.past y.end y.past x.end i

-- two fresh ends
one_way_fresh : (i j segmentsA segmentsB clockA clockB : ℕ) → Id j → OneWay (fresh i j segmentsA clockA) no_history (fresh j i segmentsB clockB) no_history
unfolding fresh
one_way_fresh i j segmentsA segmentsB clockA clockB l =
    record {
      pieces = record { remote_fits = l; numbered = refl; seq_fits = zero-le; short = tt; whole = refl };
      stored = λ n p e. absurd (no_some (get_none Packet n) e);
      queue = tt;
      taken = tt;
      received =
          record {
            slots = none_length Held;
            cursor_to_ack = le_refl _;
            ack_to_pieces = le_refl _;
            in_order = λ n a b. absurd (omega arith);
            held = λ n h e. absurd (no_some (get_none Held n) e);
            reads_are = sym (take-nil (offset_of (get (no_slots {A = Held}) 0)));
            below_ack = λ n a. absurd (omega arith);
            from_ack = λ n m. absurd (Memᴰ.not-nil m);
          };
      ack_missing = get_none Held 0;
      outstanding =
          record {
            slots = none_length Packet;
            window = zero-le;
            settled_to_ack = le_refl _;
            largest_to_ack = le_refl _;
            still_stored = λ n a b. absurd (omega arith);
          };
    }

-- reading

all_get_d : {A : Type 0} (P : A → Type 0) (xs : List A) (d : A) → P d → All P xs → (n : ℕ) → P (get_or xs n d)
all_get_d P [] d z a n = z
all_get_d P (x ∷ xs) d z a zero = a.0
all_get_d P (x ∷ xs) d z a (suc n) = all_get_d P xs d z a.1 n

-- if nothing is held at the read cursor, a read puts nothing
read_none : (k room : ℕ) (r : Receiver) → get r.incoming r.read_cursor ≡ none → (read_loop k room r).bytes ≡ []
unfolding read_loop
read_none zero room r z = refl
read_none (suc k) room r z = ap (λ (o : Option Held). (on o (got_none r) more).bytes) z
  where
    more : Held → Got
    more h = cond (ltb room (length (rest h))) (got_front room h r) (got_whole h (read_loop k (room - length (rest h)) (finished r)))

module _ (pieces : List Bytes) (brought : List ℕ) (short : All (λ p. length p ≤ 1_380) pieces) where
  nothing_left : (reads bytes : Bytes) (read_cursor ack : ℕ) (incoming : Slots Held)
      → reads ++ bytes ≡ joined (take read_cursor pieces) ++ take (offset_of (get incoming read_cursor)) (get_or pieces read_cursor [])
      → bytes ≡ [] → read_cursor ≡ ack → get incoming ack ≡ none → reads ≡ joined (take ack pieces)
  nothing_left reads bytes read_cursor ack incoming e z q g =
      sym (append-nil reads) ∙ ap (λ (x : Bytes). reads ++ x) (sym z) ∙ e ∙ rw (q, g) (append-nil (joined (take ack pieces)))

  -- if a read puts nothing, all that is in order has been read
  puts_none : (r : Receiver) (reads : Bytes) (x : Got) → ReceivedBy r pieces reads brought
      → ReadGives ceiling r 1_380 pieces reads brought x → x.bytes ≡ [] → reads ≡ joined (take r.ack pieces)
  puts_none r reads x i t z = go (t.fills (let u = ack_in_reach i in omega arith))
    where
      go : (x.receiver.read_cursor ≡ r.ack) ⊎ (1_380 ≤ length x.bytes) → reads ≡ joined (take r.ack pieces)
      go (inl q) = nothing_left reads x.bytes x.receiver.read_cursor r.ack x.receiver.incoming t.received.reads_are z q (rw t.ack_same at t.ack_missing)
      go (inr l) = let w = ap length z in absurd (omega arith)

  -- a read that puts something finishes a packet
  puts_some : (r : Receiver) (reads : Bytes) → AckMissing r → ReceivedBy r pieces reads brought
      → is_empty (read_next 1_380 r).bytes ≡ false → r.read_cursor < (read_next 1_380 r).receiver.read_cursor
  unfolding read_next
  puts_some r reads missing i z = go (get r.incoming r.read_cursor) refl
    where
      go : (o : Option Held) → get r.incoming r.read_cursor ≡ o → r.read_cursor < (read_loop ceiling 1_380 r).receiver.read_cursor
      go none e = absurd (true≢false (sym (ap is_empty (read_none ceiling 1_380 r e)) ∙ z))
      go (some h) e =
          (read_gives ceiling 1_380 r reads missing i).finishes h e
          (let q = (i.held r.read_cursor h e).payload in
          let l : length h.payload ≤ 1_380 = rw q (all_get_d (λ p. length p ≤ 1_380) pieces [] zero-le short r.read_cursor) in
          rw length-drop (omega arith))
          (omega arith)

-- reads alone

read_not_refused : (e : End) → Invariant e → read_refusal e ≡ none
unfolding read_refusal
read_not_refused e v = rw (invariant_rules e v) refl

read_is : (room : ℕ) (e : End) → Invariant e → read room e ≡ read_answer (read_next room e.receiver) e
unfolding read
read_is room e v = gate_open (read_refusal e) e (read_answer (read_next room e.receiver) e) (read_not_refused e v)

module _ (pieces : List Bytes) (brought : List ℕ) (short : All (λ p. length p ≤ 1_380) pieces) where
  unread_all : (n : ℕ) (e : End) (reads : Bytes) → Invariant e → e.receiver.ack - e.receiver.read_cursor < n
      → AckMissing e.receiver
      → ReceivedBy e.receiver pieces reads brought
      → reads ++ unread_loop n e ≡ joined (take e.receiver.ack pieces)
  unfolding read_next
  unread_all zero e reads v l missing i = absurd (omega arith)
  unread_all (suc n) e reads v l missing i =
      subst (λ (a : Answer). reads ++ cond (is_empty a.bytes) [] (a.bytes ++ unread_loop n a.end) ≡ joined (take e.receiver.ack pieces)) (sym (read_is 1_380 e v))
      (go (read_next 1_380 e.receiver) (read_gives ceiling 1_380 e.receiver reads missing i)
      (puts_some pieces brought short e.receiver reads missing i)
      (λ x rd v l g i. unread_all n x rd v l g i)
      (subst (λ (a : Answer). Invariant a.end) (read_is 1_380 e v) (call_keeps (read_call 1_380) e v)))
    where
      go : (x : Got) → ReadGives ceiling e.receiver 1_380 pieces reads brought x
          → (is_empty x.bytes ≡ false → e.receiver.read_cursor < x.receiver.read_cursor)
          → ((e : End) (reads : Bytes) → Invariant e → e.receiver.ack - e.receiver.read_cursor < n → AckMissing e.receiver
          → ReceivedBy e.receiver pieces reads brought
          → reads ++ unread_loop n e ≡ joined (take e.receiver.ack pieces))
          → Invariant (with_receiver x.receiver e)
          → reads ++ cond (is_empty x.bytes) [] (x.bytes ++ unread_loop n (with_receiver x.receiver e)) ≡ joined (take e.receiver.ack pieces)
      go x t grows rec next =
          by-test (λ (z : Bytes). reads ++ z ≡ joined (take e.receiver.ack pieces)) (is_empty x.bytes) [] (x.bytes ++ unread_loop n (with_receiver x.receiver e))
          (λ q. append-nil reads ∙ puts_none pieces brought short e.receiver reads x i t (empty_nil x.bytes q))
          (λ q.
          sym (append_assoc reads x.bytes (unread_loop n (with_receiver x.receiver e)))
          ∙ rec (with_receiver x.receiver e) (reads ++ x.bytes) next
          (let a = t.ack_same in let b = grows q in let c = t.received.cursor_to_ack in omega arith) t.ack_missing t.received
          ∙ ap (λ (a : ℕ). joined (take a pieces)) t.ack_same)

-- what one direction promises
carried : (s r : Side) → Invariant r.end → OneWay s.end s.past r.end r.past → Carried s r
carried s r v w =
    record {
      reads_first = sym (ap (take (length reads)) split ∙ take-append_seam reads (unread_in_order r.end ++ joined (drop ack pieces)));
      accepted = split;
      pieces = w.pieces.whole;
      numbered = sym w.pieces.numbered;
      kept = λ n l b.
          let (p, e) = w.outstanding.still_stored n l (let z = w.pieces.numbered in omega arith) in
          (p, e, in_piece n p e);
      stored = λ n p e. ((w.stored n p e).1.is_piece, in_piece n p e);
      held = λ n h e. ((w.received.held n h e).is_piece, (w.received.held n h e).payload);
      below_ack = w.received.below_ack;
      ack_missing = λ m. no (w.received.from_ack ack m);
    }
  where
    reads : Bytes
    reads = r.past.reads

    pieces : List Bytes
    pieces = s.past.pieces

    ack : ℕ
    ack = r.end.receiver.ack

    split : s.past.accepted ≡ reads ++ (unread_in_order r.end ++ joined (drop ack pieces))
    split =
        sym w.pieces.whole
        ∙ joined_split pieces ack
        ∙ ap (λ (z : Bytes). z ++ joined (drop ack pieces))
        (sym (unread_all pieces r.past.brought w.pieces.short (suc (ack - r.end.receiver.read_cursor)) r.end reads v (le_refl _) w.ack_missing w.received))
        ∙ append_assoc reads (unread_in_order r.end) (joined (drop ack pieces))

    -- after its header, a stored packet is its piece
    in_piece : (n : ℕ) (p : Packet) → get s.end.sender.outgoing n ≡ some p → drop 20 p.bytes ≡ get_or pieces n []
    in_piece n p e = ap (drop 20) (w.stored n p e).1.encoded ∙ payload_back _ (get_or pieces n [])

    no : (ack < ack) ⊎ There r.end.receiver.incoming ack → ⊥
    no (inl l) = omega arith
    no (inr (h, e)) = no_some w.ack_missing e

-- any list of calls

abbrev Holds : Side → Side → Type 0
Holds x y = record { both : Both x.end x.past y.end y.past; first : Invariant x.end; second : Invariant y.end }

swap : (x y : Side) → Holds x y → Holds y x
swap x y h = record { both = record { out = h.both.back; back = h.both.out }; first = h.second; second = h.first }

holds_call : (c : Call) (x y : Side) → Brings c x y → Holds x y → Holds (called c x) y
holds_call c x y a h = record { both = both_call c x y a h.both; first = call_keeps c x.end h.first; second = h.second }

holds_step : (c : Command) (w : Ends) → Fits c w → Holds w.a w.b → Holds (step c w).a (step c w).b
holds_step (on_a c) w a h = holds_call c w.a w.b a h
holds_step (on_b c) w a h = swap (called c w.b) w.a (holds_call c w.b w.a a (swap w.a w.b h))

holds_run : (cs : List Command) (w : Ends) → OverALine cs w → Holds w.a w.b → Holds (run cs w).a (run cs w).b
holds_run [] w a h = h
holds_run (c ∷ cs) w a h = holds_run cs (step c w) a.1 (holds_step c w a.0 h)

pub two_ends : TwoEnds
two_ends i j segmentsA segmentsB clockA clockB idI idJ openA openB commands line =
    let w = run commands (both_opened i j segmentsA segmentsB clockA clockB) in
    let h =
    holds_run commands (both_opened i j segmentsA segmentsB clockA clockB) line
    (record {
      both = record { out = one_way_fresh i j segmentsA segmentsB clockA clockB idJ; back = one_way_fresh j i segmentsB segmentsA clockB clockA idI };
      first = open_keeps i j segmentsA clockA openA;
      second = open_keeps j i segmentsB clockB openB;
    }) in
    (carried w.a w.b h.second h.both.out, carried w.b w.a h.first h.both.back)
