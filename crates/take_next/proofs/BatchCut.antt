-- A batch cut at its segment size is the datagrams of its entries whose packets are there, and `look` shows the first. A mark keeps a
-- packet's bytes, so these datagrams are read from the store as it was; all have the length of the first entry, which is not 0, so
-- cutting undoes joining.
use Prim.Native.Nat.{ℕ, zero, suc, ◌≤◌, ◌<◌, min, zero-le}
use native.Mathlib.Decide.{ℕ_discrete}
use native.Mathlib.Omega.{arith}
use mathlib.Core.Path.{◌≡◌, refl, sym, ap, ap₂, ◌∙◌}
use mathlib.Core.List.{List, [], ◌∷◌, ◌++◌}
use mathlib.Core.Option.{Option, none, some}
use mathlib.Core.Bool.{true, cond, ◌&&◌}
use lib.Dec.{leb, eqb}
use borrow.Author.Tests.{eqb-true, leb-true, lt-ltb}
use lib.ListN.{length, take}
use Rattle.model.specs.Lists.{Bytes, joined, on}
use Rattle.model.specs.Slots.{Slots, ceiling, get, insert}
use Rattle.model.specs.Stream.{Packet, Entry, state, packet, End}
use Rattle.model.specs.Rules.{every, entry_test}
use Rattle.model.specs.Driving.{marked, entry_length, head_length, same_length, batch, taken_marks, Taken, take_loop, segment_of, datagrams_of, first_there, look}
use Rattle.model.proofs.Lists.{All, all_map, by-test}
use Rattle.model.proofs.Slots.{no_some, insert_same, insert_other, insert_none, insert_length, one_number}
use Rattle.model.proofs.Gate.{and_left, and_right}
use Rattle.model.proofs.Cuts.{cut_joined, count_joined, whole_joined}
use Rattle.records.specs.Seen.{seen_queue, seen}
use Rattle.records.proofs.SeenOutgoing.{outgoing_length}
use Rattle.take_entry.specs.Transmit.{send_entry}
use Rattle.take_next.specs.Take.{send_loop}
use Rattle.take_next.specs.Batches.{there_of, first_of, BatchesCut, RecordsCut}
use Rattle.take_next.proofs.RulesTake.{rules_read}
use Rattle.take_next.proofs.TakeSome.{sent_entry}
use Rattle.take_next.proofs.TakeModel.{loop_sends}

-- a mark keeps the bytes

-- the bytes under a number
abbrev bytes_at : Option Packet → Option Bytes
bytes_at o = on o none (λ p. some p.bytes)

module _ (s : Slots Packet) (long : length s ≡ ceiling) (n : ℕ) (p v : Packet) (z : get s n ≡ some p) (same : v.bytes ≡ p.bytes) where
  mark_bytes : (m : ℕ) → bytes_at (get (insert s n v) m) ≡ bytes_at (get s m)
  mark_bytes m = go (ℕ_discrete m n) (get s m) refl
    where
      go : Dec (m ≡ n) → (o : Option Packet) → get s m ≡ o → bytes_at (get (insert s n v) m) ≡ bytes_at o
      go (yes q) o e = ap bytes_at (ap (get (insert s n v)) q ∙ insert_same s n v long) ∙ ap some same ∙ ap bytes_at (sym z ∙ ap (get s) (sym q) ∙ e)
      go (no q) none e = ap bytes_at (insert_none s n m v long e q)
      go (no q) (some w) e = ap bytes_at (insert_other s n m v (λ d. q (one_number s m n w p d e z)) ∙ e)

there_same : (s s' : Slots Packet) → ((m : ℕ) → bytes_at (get s m) ≡ bytes_at (get s' m)) → (q : List Entry) → there_of s q ≡ there_of s' q
there_same s s' h [] = refl
there_same s s' h (state b ∷ q) = ap (λ (ds : List Bytes). b ∷ ds) (there_same s s' h q)
there_same s s' h (packet n l ∷ q) = go (get s n) (get s' n) (h n) (there_same s s' h q)
  where
    go : (o o' : Option Packet) → bytes_at o ≡ bytes_at o' → there_of s q ≡ there_of s' q
        → on o (there_of s q) (λ p. p.bytes ∷ there_of s q) ≡ on o' (there_of s' q) (λ p. p.bytes ∷ there_of s' q)
    go none none e r = r
    go none (some p) e r = absurd (no_some refl e)
    go (some p) none e r = absurd (no_some refl (sym e))
    go (some p) (some p') e r = ap₂ ◌∷◌ (let b : p.bytes ≡ p'.bytes = cc in b) r

-- the datagrams taken are those that are there

sent_there : (clock k : ℕ) (q : List Entry) (s : Slots Packet) → length s ≡ ceiling → (send_loop clock k q s).datagrams ≡ there_of s (take k q)
unfolding send_loop send_entry
sent_there clock zero q s l = refl
sent_there clock (suc k) [] s l = refl
sent_there clock (suc k) (state b ∷ q) s l = ap (λ (ds : List Bytes). b ∷ ds) (sent_there clock k q s l)
sent_there clock (suc k) (packet n m ∷ q) s l =
    go (get s n) refl (sent_there clock k q s l) (λ p. sent_there clock k q (insert s n (marked (taken_marks clock) p)) (insert_length s n (marked (taken_marks clock) p) ∙ l))
  where
    go : (o : Option Packet) → get s n ≡ o → (send_loop clock k q s).datagrams ≡ there_of s (take k q)
        → ((p : Packet) → (send_loop clock k q (insert s n (marked (taken_marks clock) p))).datagrams ≡ there_of (insert s n (marked (taken_marks clock) p)) (take k q))
        → (sent_entry clock n s o).datagrams ++ (send_loop clock k q (sent_entry clock n s o).outgoing).datagrams ≡ on o (there_of s (take k q)) (λ p. p.bytes ∷ there_of s (take k q))
    go none z a b = a
    go (some p) z a b =
        ap (λ (ds : List Bytes). p.bytes ∷ ds)
        (b p ∙ there_same (insert s n (marked (taken_marks clock) p)) s (mark_bytes s l n p (marked (taken_marks clock) p) z refl) (take k q))

taken_there : (k : ℕ) (e : End) → length e.sender.outgoing ≡ ceiling → (take_loop k e.queue.entries e).datagrams ≡ there_of e.sender.outgoing (take k e.queue.entries)
taken_there k e l =
    ap (λ (t : Taken). t.datagrams) (loop_sends k e.queue.entries e) ∙ sent_there e.clocks.drive k e.queue.entries e.sender.outgoing l

-- their lengths

-- what the rules say of an entry
abbrev EntrySized : Slots Packet → Entry → Type 0
EntrySized s (state b) = length b ≡ 20
EntrySized s (packet n l) = (21 ≤ l) × ((p : Packet) → get s n ≡ some p → length p.bytes ≡ l)

sized_test : (s : Slots Packet) (x : Entry) → entry_test s x ≡ true → EntrySized s x
sized_test s (state b) e = eqb-true (length b) 20 e
sized_test s (packet n l) e = (leb-true 21 l (and_left (leb 21 l) (leb l 1_400 && on (get s n) true (λ p. eqb l (length p.bytes))) e), λ p z. sym (eqb-true l (length p.bytes) (rw z at rest)))
  where
    rest : on (get s n) true (λ p. eqb l (length p.bytes)) ≡ true
    rest = and_right (leb l 1_400) (on (get s n) true (λ p. eqb l (length p.bytes))) (and_right (leb 21 l) (leb l 1_400 && on (get s n) true (λ p. eqb l (length p.bytes))) e)

all_sized : (s : Slots Packet) (q : List Entry) → every (entry_test s) q ≡ true → All (EntrySized s) q
all_sized s [] e = tt
all_sized s (x ∷ q) e = (sized_test s x (and_left (entry_test s x) (every (entry_test s) q) e), all_sized s q (and_right (entry_test s x) (every (entry_test s) q) e))

filled : (s : Slots Packet) (x : Entry) → EntrySized s x → 0 < entry_length x
filled s (state b) h = omega arith
filled s (packet n l) h = let a = h.0 in omega arith

-- an entry's datagram, if it is there, has the entry's length
one_length : (s : Slots Packet) (l : ℕ) (x : Entry) (q : List Entry) → EntrySized s x → entry_length x ≡ l → All (λ d. length d ≡ l) (there_of s q) → All (λ d. length d ≡ l) (there_of s (x ∷ q))
one_length s l (state b) q h e a = (e, a)
one_length s l (packet n m) q h e a = go (get s n) refl
  where
    go : (o : Option Packet) → get s n ≡ o → All (λ d. length d ≡ l) (on o (there_of s q) (λ p. p.bytes ∷ there_of s q))
    go none z = a
    go (some p) z = (h.1 p z ∙ e, a)

there_lengths : (s : Slots Packet) (m l : ℕ) (q : List Entry) → All (EntrySized s) q → All (λ d. length d ≡ l) (there_of s (take (same_length m l q) q))
unfolding same_length
there_lengths s zero l q a = tt
there_lengths s (suc m) l [] a = tt
there_lengths s (suc m) l (x ∷ q) a = go (there_lengths s m l q a.1)
  where
    go : All (λ d. length d ≡ l) (there_of s (take (same_length m l q) q))
        → All (λ d. length d ≡ l) (there_of s (take (cond (eqb (entry_length x) l) (suc (same_length m l q)) 0) (x ∷ q)))
    go r =
        by-test (λ (n : ℕ). All (λ d. length d ≡ l) (there_of s (take n (x ∷ q)))) (eqb (entry_length x) l) (suc (same_length m l q)) 0
        (λ z. one_length s l x (take (same_length m l q) q) a.0 (eqb-true (entry_length x) l z) r) (λ z. tt)

there_count : (s : Slots Packet) (k : ℕ) (q : List Entry) → length (there_of s (take k q)) ≤ k
there_count s zero q = zero-le
there_count s (suc k) [] = zero-le
there_count s (suc k) (state b ∷ q) = let a = there_count s k q in omega arith
there_count s (suc k) (packet n l ∷ q) = go (get s n) (there_count s k q)
  where
    go : (o : Option Packet) → length (there_of s (take k q)) ≤ k → length (on o (there_of s (take k q)) (λ p. p.bytes ∷ there_of s (take k q))) ≤ suc k
    go none a = omega arith
    go (some p) a = omega arith

-- cutting gives them back
pieces : (s : Slots Packet) (m : ℕ) (q : List Entry) → All (EntrySized s) q
    → let k = same_length m (head_length q) q in datagrams_of (segment_of k (head_length q)) (joined (there_of s (take k q))) ≡ there_of s (take k q)
unfolding same_length
pieces s zero [] a = refl
pieces s (suc m) [] a = refl
pieces s m (x ∷ q) a = go (same_length m (entry_length x) (x ∷ q)) (there_lengths s m (entry_length x) (x ∷ q) a)
  where
    go : (k : ℕ) → All (λ d. length d ≡ entry_length x) (there_of s (take k (x ∷ q)))
        → datagrams_of (segment_of k (entry_length x)) (joined (there_of s (take k (x ∷ q)))) ≡ there_of s (take k (x ∷ q))
    go k b =
        let p = filled s x a.0 in
        let ds = there_of s (take k (x ∷ q)) in
        by-test (λ (o : Option ℕ). datagrams_of o (joined ds) ≡ ds) (eqb k 1) none (some (entry_length x))
        (λ z. whole_joined ds (let u = there_count s k (x ∷ q) in let v = eqb-true k 1 z in omega arith) (all_map (λ d w. let v = p in omega arith) ds b))
        (λ z. cut_joined (entry_length x) p ds b (length (joined ds)) (count_joined (entry_length x) p ds b))

-- the first of them

first-there : (s : Slots Packet) (q : List Entry) → first_there s q ≡ first_of (there_of s q)
first-there s [] = refl
first-there s (state b ∷ q) = refl
first-there s (packet n l ∷ q) = go (get s n) (first-there s q)
  where
    go : (o : Option Packet) → first_there s q ≡ first_of (there_of s q) → on o (first_there s q) (λ p. p.bytes) ≡ first_of (on o (there_of s q) (λ p. p.bytes ∷ there_of s q))
    go none r = r
    go (some p) r = refl

-- the datagrams of the first k entries come first
first_taken : (s : Slots Packet) (k : ℕ) (q : List Entry) (d : Bytes) (ds : List Bytes) → there_of s (take k q) ≡ d ∷ ds → first_of (there_of s q) ≡ d
first_taken s zero q d ds e = absurd (let z : ◌≡◌ {A = ℕ} 0 1 = cc in omega arith)
first_taken s (suc k) [] d ds e = absurd (let z : ◌≡◌ {A = ℕ} 0 1 = cc in omega arith)
first_taken s (suc k) (state b ∷ q) d ds e = ap first_of e
first_taken s (suc k) (packet n l ∷ q) d ds e = go (get s n) (first_taken s k q d ds) e
  where
    go : (o : Option Packet) → (there_of s (take k q) ≡ d ∷ ds → first_of (there_of s q) ≡ d) → on o (there_of s (take k q)) (λ p. p.bytes ∷ there_of s (take k q)) ≡ d ∷ ds
        → first_of (on o (there_of s q) (λ p. p.bytes ∷ there_of s q)) ≡ d
    go none r e = r e
    go (some p) r e = ap first_of e

-- the claims

pub batches_cut : BatchesCut
unfolding batch look
batches_cut e kept slots some_left =
    let s = e.sender.outgoing in
    let q = e.queue.entries in
    let a = all_sized s q (rules_read e kept).entries in
    let t = taken_there (batch e) e slots in
    let n : look e ≡ first_of (there_of s q) = rw (kept, lt-ltb 0 e.queue.left some_left) (first-there s q) in
    record {
      pieces = rw t (pieces s (min e.ids.segments e.queue.left) q a);
      there = t;
      next = n;
      first = λ d ds z. n ∙ first_taken s (batch e) q d ds (sym t ∙ z);
    }

pub records_cut : RecordsCut
unfolding seen seen_queue
records_cut st t l kept some_left =
    batches_cut (seen st t l) kept (outgoing_length st.sender.remote_acked st.sender.seq l.sent l.outgoing) some_left
