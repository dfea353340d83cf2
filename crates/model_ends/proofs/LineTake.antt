-- A take keeps the invariant of both directions: each datagram that it gives is one of this end's. The answer has only their bytes and a
-- segment size; cutting those bytes gives the datagrams back, since all have the same length, which is not 0.
use Prim.Native.Nat.{ℕ, zero, suc, ◌≤◌, ◌<◌, min, zero-le}
use native.Mathlib.Nat.{le_refl}
use native.Mathlib.Omega.{arith}
use mathlib.Core.Path.{◌≡◌, refl, sym, ap, ◌∙◌, subst}
use mathlib.Core.List.{List, [], ◌∷◌, ◌++◌, append_assoc, append-nil}
use mathlib.Core.Option.{Option, none, some}
use mathlib.Core.Bool.{cond}
use lib.Dec.{ltb, eqb}
use borrow.Author.Tests.{eqb-true}
use lib.ListN.{length, length-append}
use Rattle.model.specs.Lists.{Bytes, joined, on}
use Rattle.model.specs.Slots.{get}
use Rattle.model.specs.Stream.{Packet, Entry, state, packet, End, with_sender}
use Rattle.model.specs.Answers.{Answer}
use Rattle.model.specs.Driving.{remarked, entry_length, head_length, same_length, batch, taken_marks, Taken, take_entry, with_entries, take_loop, take_refusal, segment_of, take_answer, take, datagrams_of}
use Rattle.model.specs.Calls.{take_call}
use Rattle.model_ends.specs.TwoEnds.{History, noted}
use Rattle.model.proofs.Lists.{All, all_append, all_map, by-test}
use Rattle.model.proofs.Cuts.{cut_joined, count_joined, whole_joined}
use Rattle.model.proofs.Gate.{by_gate}
use Rattle.model_ends.proofs.Line.{Datagram, Both}
use Rattle.model_ends.proofs.LineSender.{one_way_remarked, piece_datagram, piece_length, datagram_filled}

-- the history after datagrams were taken
abbrev with_taken : List Bytes → History → History
with_taken datagrams g =
    record { accepted = g.accepted; pieces = g.pieces; reads = g.reads; taken = g.taken ++ datagrams; brought = g.brought }

-- an entry is taken whose packet is there or has left
abbrev entry_taken : ℕ → End → Option Packet → Taken
entry_taken n e o =
    on o (record { datagrams = []; end = e })
    (λ p. record { datagrams = p.bytes ∷ []; end = with_sender (remarked n e.sender.inflight (taken_marks e.clocks.drive) p e.sender) e })

module _ (f : End) (k : History) where
  same_taken : (e : End) (g : History) (ds : List Bytes) → g.taken ≡ ds → Both e g f k
      → Both e (record { accepted = g.accepted; pieces = g.pieces; reads = g.reads; taken = ds; brought = g.brought }) f k
  same_taken e g ds p i =
      subst (λ (ds : List Bytes). Both e (record { accepted = g.accepted; pieces = g.pieces; reads = g.reads; taken = ds; brought = g.brought }) f k) p i

  none_taken : (e : End) (g : History) → Both e g f k → Both e (with_taken [] g) f k
  none_taken e g i = same_taken e g (g.taken ++ []) (sym (append-nil g.taken)) i

  -- one more datagram of this end
  one_taken : (e : End) (g : History) (d : Bytes) → Datagram e.ids.remote g.pieces e.receiver.ack d → Both e g f k → Both e (with_taken (d ∷ []) g) f k
  one_taken e g d s i =
      record {
        out =
            record {
              pieces = i.out.pieces;
              stored = i.out.stored;
              queue = i.out.queue;
              taken = all_append (Datagram e.ids.remote g.pieces e.receiver.ack) g.taken (d ∷ []) i.out.taken (s, tt);
              received = i.out.received;
              ack_missing = i.out.ack_missing;
              outstanding = i.out.outstanding;
            };
        back = i.back;
      }

  -- an entry leaves the queue
  unqueued : (x : Entry) (q : List Entry) (e : End) (g : History) → Both (with_entries (x ∷ q) e) g f k → Both (with_entries q e) g f k
  unqueued x q e g i =
      record {
        out =
            record {
              pieces = i.out.pieces;
              stored = i.out.stored;
              queue = i.out.queue.1;
              taken = i.out.taken;
              received = i.out.received;
              ack_missing = i.out.ack_missing;
              outstanding = i.out.outstanding;
            };
        back = i.back;
      }

  both_take_entry : (x : Entry) (q : List Entry) (e : End) (g : History) → Both (with_entries (x ∷ q) e) g f k
      → Both (with_entries q (take_entry x e).end) (with_taken (take_entry x e).datagrams g) f k
  unfolding take_entry
  both_take_entry (state b) q e g i = one_taken (with_entries q e) g b i.out.queue.0 (unqueued (state b) q e g i)
  both_take_entry (packet n l) q e g i = go (get e.sender.outgoing n) refl
    where
      go : (o : Option Packet) → get e.sender.outgoing n ≡ o
          → Both (with_entries q (entry_taken n e o).end) (with_taken (entry_taken n e o).datagrams g) f k
      go none z = none_taken (with_entries q e) g (unqueued (packet n l) q e g i)
      go (some p) z =
          let j = unqueued (packet n l) q e g i in
          one_taken (with_entries q (entry_taken n e (some p)).end) g p.bytes (piece_datagram (i.out.stored n p z).1)
          (record { out = one_way_remarked (with_entries q e) g f k n e.sender.inflight (taken_marks e.clocks.drive) p z j.out; back = j.back })

  both_take_loop : (n : ℕ) (q : List Entry) (e : End) (g : History) → Both (with_entries q e) g f k
      → Both (take_loop n q e).end (with_taken (take_loop n q e).datagrams g) f k
  unfolding take_loop
  both_take_loop zero q e g i = none_taken (with_entries q e) g i
  both_take_loop (suc n) [] e g i = none_taken (with_entries [] e) g i
  both_take_loop (suc n) (x ∷ q) e g i =
      let t = take_entry x e in
      let r = take_loop n q t.end in
      same_taken r.end (with_taken r.datagrams (with_taken t.datagrams g)) (g.taken ++ (t.datagrams ++ r.datagrams))
      (append_assoc g.taken t.datagrams r.datagrams)
      (both_take_loop n q t.end (with_taken t.datagrams g) (both_take_entry x q e g i))

  -- the batch as bytes

  entry_one : (x : Entry) (e : End) → length (take_entry x e).datagrams ≤ 1
  unfolding take_entry
  entry_one (state b) e = le_refl 1
  entry_one (packet n l) e = go (get e.sender.outgoing n)
    where
      go : (o : Option Packet) → length (entry_taken n e o).datagrams ≤ 1
      go none = zero-le
      go (some p) = le_refl 1

  loop_count : (n : ℕ) (q : List Entry) (e : End) → length (take_loop n q e).datagrams ≤ n
  unfolding take_loop
  loop_count zero q e = zero-le
  loop_count (suc n) [] e = zero-le
  loop_count (suc n) (x ∷ q) e = let u = entry_one x e in let v = loop_count n q (take_entry x e).end in rw length-append (omega arith)

  entry_length_lem : (x : Entry) (q : List Entry) (e : End) (g : History) → Both (with_entries (x ∷ q) e) g f k
      → All (λ d. length d ≡ entry_length x) (take_entry x e).datagrams
  unfolding take_entry
  entry_length_lem (state b) q e g i = (refl, tt)
  entry_length_lem (packet n l) q e g i = go (get e.sender.outgoing n) refl
    where
      go : (o : Option Packet) → get e.sender.outgoing n ≡ o → All (λ d. length d ≡ l) (entry_taken n e o).datagrams
      go none z = tt
      go (some p) z = (piece_length (i.out.stored n p z).1 ∙ sym i.out.queue.0.1, tt)

  loop_lengths : (m l : ℕ) (q : List Entry) (e : End) (g : History) → Both (with_entries q e) g f k
      → All (λ d. length d ≡ l) (take_loop (same_length m l q) q e).datagrams
  unfolding take_loop same_length
  loop_lengths zero l q e g i = tt
  loop_lengths (suc m) l [] e g i = tt
  loop_lengths (suc m) l (x ∷ q) e g i =
      go (loop_lengths m l q (take_entry x e).end (with_taken (take_entry x e).datagrams g) (both_take_entry x q e g i))
    where
      go : All (λ d. length d ≡ l) (take_loop (same_length m l q) q (take_entry x e).end).datagrams
          → All (λ d. length d ≡ l) (take_loop (cond (eqb (entry_length x) l) (suc (same_length m l q)) 0) (x ∷ q) e).datagrams
      go a =
          by-test (λ (n : ℕ). All (λ d. length d ≡ l) (take_loop n (x ∷ q) e).datagrams) (eqb (entry_length x) l) (suc (same_length m l q)) 0
          (λ z.
          all_append (λ d. length d ≡ l) (take_entry x e).datagrams (take_loop (same_length m l q) q (take_entry x e).end).datagrams
          (rw (← (eqb-true (entry_length x) l z)) (entry_length_lem x q e g i)) a)
          (λ z. tt)

  entry_filled : (x : Entry) (q : List Entry) (e : End) (g : History) → Both (with_entries (x ∷ q) e) g f k → 0 < entry_length x
  entry_filled (state b) q e g i = datagram_filled i.out.queue.0
  entry_filled (packet n l) q e g i = let u = i.out.queue.0.1 in omega arith

  -- the datagrams are read back from the answer
  datagrams_back : (m : ℕ) (q : List Entry) (e : End) (g : History) → Both (with_entries q e) g f k
      → let n = same_length m (head_length q) q in
      datagrams_of (segment_of n (head_length q)) (joined (take_loop n q e).datagrams) ≡ (take_loop n q e).datagrams
  unfolding take_loop same_length
  datagrams_back zero [] e g i = refl
  datagrams_back (suc m) [] e g i = refl
  datagrams_back m (x ∷ q) e g i = go (same_length m (entry_length x) (x ∷ q)) (loop_lengths m (entry_length x) (x ∷ q) e g i)
    where
      l : 0 < entry_length x
      l = entry_filled x q e g i

      go : (n : ℕ) → All (λ d. length d ≡ entry_length x) (take_loop n (x ∷ q) e).datagrams
          → datagrams_of (segment_of n (entry_length x)) (joined (take_loop n (x ∷ q) e).datagrams) ≡ (take_loop n (x ∷ q) e).datagrams
      go n a =
          by-test (λ (s : Option ℕ). datagrams_of s (joined (take_loop n (x ∷ q) e).datagrams) ≡ (take_loop n (x ∷ q) e).datagrams) (eqb n 1) none (some (entry_length x))
          (λ z.
          whole_joined (take_loop n (x ∷ q) e).datagrams (let u = loop_count n (x ∷ q) e in let v = eqb-true n 1 z in omega arith)
          (all_map (λ d w. let v = l in omega arith) (take_loop n (x ∷ q) e).datagrams a))
          (λ z. cut_joined (entry_length x) l (take_loop n (x ∷ q) e).datagrams a _ (count_joined (entry_length x) l (take_loop n (x ∷ q) e).datagrams a))

  pub both_take : (room : ℕ) (e : End) (g : History) → Both e g f k → Both (take room e).end (noted (take_call room) (take room e) g) f k
  unfolding take batch
  both_take room e g i =
      by_gate Q (take_refusal room e) e _ (λ why. none_taken e g i)
      (λ z.
      by-test Q (ltb 0 e.queue.left) (take_answer t e) _
      (λ q.
      same_taken (take_answer t e).end (with_taken t.datagrams g) (g.taken ++ datagrams_of (take_answer t e).segment (joined t.datagrams))
      (ap (λ (z : List Bytes). g.taken ++ z) (sym (datagrams_back (min e.ids.segments e.queue.left) e.queue.entries e g i)))
      (both_take_loop (batch e) e.queue.entries e g i))
      (λ q. none_taken e g i))
    where
      Q : Answer → Type 0
      Q a = Both a.end (noted (take_call room) a g) f k

      t : Taken
      t = take_loop (batch e) e.queue.entries e
