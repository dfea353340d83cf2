-- A read on the records agrees with the model: a packet's bytes, the model's read by cases, and the loop. Invariant: the bytes put so far,
-- joined with what the model still has to read, are the model's whole read. Every turn passes one number below top, so the model's 32
-- packets are enough.
use Prim.Native.Nat.{ℕ, zero, suc, ◌+◌, ◌-◌, ◌*◌, ◌%◌, ◌≤◌, ◌<◌}
use native.Mathlib.Numerals.{add-one}
use native.Mathlib.Omega.{arith}
use mathlib.Core.Path.{◌≡◌, refl, ap, ap₂, sym, subst, ◌∙◌}
use mathlib.Core.List.{List, [], ◌++◌, append_assoc, append-nil}
use mathlib.Core.Option.{none, some}
use mathlib.Core.Bool.{Bool, true, false, true≢false, ◌||◌}
use borrow.Author.Tests.{lt-ltb, le-ltb}
use lib.ListN.{length, set, take, drop, length-append, length-take, length-drop}
use lib.Seq.{take-take, take-length}
use Rattle.std.specs.Prelude.{Some, None}
use Rattle.model.specs.Lists.{Bytes}
use Rattle.model.specs.Slots.{Slots, ceiling, get, insert}
use Rattle.model.specs.Stream as model
use Rattle.model.specs.Receiving.{Got, rest, read_to, finished, got_none, got_front, got_whole, read_loop, read_next}
use Rattle.records_words.specs.declared.Held.{Held}
use Rattle.records.specs.declared.Receiver.{Receiver}
use Rattle.records_words.specs.Words.{held_of, held_word, is_held, found_held}
use Rattle.records.specs.Cut.{cut, incoming_slot}
use Rattle.records.specs.Put.{put}
use Rattle.records.specs.Seen.{held_payload, seen_receiver}
use Rattle.records_words.proofs.WordLaws.{held_back, held_number, held_full, held_found, held_not_found}
use Rattle.records.proofs.Cut.{in_is, cut_length, cut_drop}
use Rattle.records.proofs.Put.{put_length, put_put}
use Rattle.records.proofs.SeenIncoming.{held_in, held_at, get_incoming, get_past, finish_incoming, offset_incoming}
use Rattle.read_bytes.specs.Reading.{Fit, Readable, CanPut, Front, HasRead, left_count, left_bytes, moved_by, got}

-- a packet's bytes

left_length : (store : Bytes) (p : Held) → length (left_bytes store p) ≡ left_count p
left_length store p = simp (length-drop, cut_length) refl

module _ {p : Held} {store buf : Bytes} {at count : ℕ} (a : CanPut p store buf at count) {bytes : Bytes}
    (is : bytes ≡ take (p.offset + count - p.offset) (drop (p.number % 32 * 1_380 + p.offset) store)) where
  -- the next ones are in the store from the read offset on
  lies : bytes ≡ take count (left_bytes store p)
  lies =
      let f = a.fit in
      let s = a.store in
      let k : p.offset + count - p.offset ≡ count = omega arith in
      let room : p.number % ceiling * incoming_slot + (p.past - 1) ≤ length store = rw in_is (omega arith) in
      let whole : left_bytes store p ≡ take (left_count p) (drop (p.number % 32 * 1_380 + p.offset) store) =
      cut_drop incoming_slot store (p.number % ceiling) (p.past - 1) p.offset room (omega (arith, in_is)) ∙ rw in_is refl in
      is ∙ rw (k, whole, take-take count (left_count p) (drop (p.number % 32 * 1_380 + p.offset) store) a.enough) refl

  pub next_put : {buf' : Bytes} → buf' ≡ put buf at bytes → buf' ≡ put buf at (take count (left_bytes store p))
  next_put e = e ∙ ap (put buf at) lies

-- the model's read, by cases

module _ (room : ℕ) (r : model.Receiver) where
  read_none : (k : ℕ) → get r.incoming r.read_cursor ≡ none → read_loop k room r ≡ got_none r
  unfolding read_loop
  read_none zero e = refl
  read_none (suc k) e = rw e refl

  module _ (k : ℕ) {h : model.Held} (e : get r.incoming r.read_cursor ≡ some h) where
    read_front : room < length (rest h) → read_loop (suc k) room r ≡ got_front room h r
    unfolding read_loop
    read_front l = rw (e, lt-ltb room (length (rest h)) l) refl

    read_whole : length (rest h) ≤ room → read_loop (suc k) room r ≡ got_whole h (read_loop k (room - length (rest h)) (finished r))
    unfolding read_loop
    read_whole l = rw (e, le-ltb room (length (rest h)) l) refl

-- the bytes put so far, joined with the rest of the read
abbrev joined : Bytes → Bool → Got → Got
joined bytes any g = record { bytes = bytes ++ g.bytes; ready = any || g.ready; receiver = g.receiver }

or_false : (a : Bool) → (a || false) ≡ a
or_false true = refl
or_false false = refl

or_true : (a : Bool) → (a || true) ≡ true
or_true true = refl
or_true false = refl

-- the loop

-- the receiver with the read cursor at n, and how many packets the model may still visit from there
abbrev read_up_to : Receiver → ℕ → Receiver
read_up_to r n = record r { read_cursor = n }

abbrev visits : Receiver → ℕ → ℕ
visits r n = (r.read_cursor + ceiling) - n

-- the loop's invariant; `bytes` were put so far
pub record Going (r : Receiver) (words₀ : List ℕ) (store buf₀ : Bytes) (n : ℕ) (words : List ℕ) (buf : Bytes) (count : ℕ) (any : Bool) : Type 0 where
  pub readable : Readable r words₀ store
  pub kept : words ≡ words₀
  pub passed : r.read_cursor ≤ n
  pub from : n ≤ r.top
  pub bytes : Bytes
  pub counted : length bytes ≡ count
  pub within : count ≤ length buf₀
  pub copied : buf ≡ put buf₀ 0 bytes
  pub unmoved : any ≡ false → n ≡ r.read_cursor
  pub same : joined bytes any (read_loop (visits r n) (length buf₀ - count) (seen_receiver (read_up_to r n) words₀ store)) ≡ got r words₀ store buf₀

put_none : (buf : Bytes) → buf ≡ put buf 0 []
unfolding put
put_none buf = refl

pub read_starts : {r : Receiver} {words : List ℕ} {store buf : Bytes} → Readable r words store → Going r words store buf r.read_cursor words buf 0 false
unfolding read_next
read_starts {r} {words} {store} {buf} a =
    let x = a.laid in
    let e : visits r r.read_cursor ≡ ceiling = omega arith in
    let z : length buf - 0 ≡ length buf = omega arith in
    record {
      readable = a;
      kept = refl;
      passed = omega arith;
      from = x.from;
      bytes = [];
      counted = refl;
      within = omega arith;
      copied = put_none buf;
      unmoved = λ z. refl;
      same = rw (e, z) refl;
    }

module _ {r : Receiver} {words₀ : List ℕ} {store buf₀ : Bytes} {n : ℕ} {words : List ℕ} {buf : Bytes} {count : ℕ} {any : Bool}
    (g : Going r words₀ store buf₀ n words buf count any) where
  -- the model's receiver
  abbrev m : model.Receiver
  m = seen_receiver (read_up_to r n) words₀ store

  width : r.top ≤ n + ceiling
  width =
      let x = g.readable.laid in
      let c = g.passed in
      omega arith

  -- more bytes, put after the others
  next : (y : Bytes) {buf' : Bytes} → count + length y ≤ length buf₀ → buf' ≡ put buf count y → buf' ≡ put buf₀ 0 (g.bytes ++ y)
  next y l e =
      e ∙ ap (λ (b : Bytes). put b count y) g.copied
      ∙ ap (λ (at : ℕ). put (put buf₀ 0 g.bytes) at y) (let z : count ≡ 0 + count = omega arith in z)
      ∙ put_put buf₀ 0 count g.bytes y g.counted (omega arith)

  -- the read ends with the bytes d put
  ends : (d : Bytes) {count' : ℕ} {words' : List ℕ} {buf' : Bytes}
      → record { bytes = d; ready = any; receiver = seen_receiver (read_up_to r n) words' store } ≡ got r words₀ store buf₀
      → count' ≡ length d → buf' ≡ put buf₀ 0 d
      → HasRead r words₀ store buf₀ (record { receiver = read_up_to r n; count = count'; finished = any }) words' buf'
  ends d e all q =
      record {
        count = all ∙ ap (λ (x : Got). length x.bytes) e;
        finished = ap (λ (x : Got). x.ready) e;
        copied = q ∙ ap (λ (x : Got). put buf₀ 0 x.bytes) e;
        seen = ap (λ (x : Got). x.receiver) e;
        laid = record { from = g.from; width = width };
        unmoved = λ z. ap (read_up_to r) (g.unmoved z);
      }

  stops : get m.incoming n ≡ none → HasRead r words₀ store buf₀ (record { receiver = read_up_to r n; count = count; finished = any }) words buf
  stops e =
      let stop = ap (joined g.bytes any) (read_none (length buf₀ - count) m (visits r n) e) in
      ends g.bytes (rw g.kept (sym (rw (append-nil, or_false) at stop)) ∙ g.same) (sym g.counted) g.copied

  pub read_at_top : r.top ≤ n → HasRead r words₀ store buf₀ (record { receiver = read_up_to r r.top; count = count; finished = any }) words buf
  read_at_top l =
      let f = g.from in
      let at : n ≡ r.top = omega arith in
      subst (λ (k : ℕ). HasRead r words₀ store buf₀ (record { receiver = read_up_to r k; count = count; finished = any }) words buf) at
      (stops (get_past n r.top words₀ store n l))

  module _ (below : n < r.top) where
    entry : get m.incoming n ≡ held_at words store n
    entry = get_incoming n r.top words₀ store n (omega arith) below ∙ rw g.kept refl

    pub read_at_gap : None ≡ found_held words n
        → HasRead r words₀ store buf₀ (record { receiver = read_up_to r n; count = count; finished = any }) words buf
    read_at_gap e = stops (entry ∙ rw (held_not_found words n (sym e)) refl)

    module _ {p : Held} (e : Some p ≡ found_held words n) where
      here : (p ≡ held_in words (n % 32)) × (is_held p n ≡ true)
      here = held_found words n p (sym e)

      number : p.number ≡ n
      number = held_number p n here.1

      pub read_fits : Fit p
      read_fits =
          let f = g.readable.packets n g.passed (omega arith) in
          rw (← g.kept, ← here.0) at f here.1

      found : get m.incoming n ≡ some (held_payload store (p.number % ceiling) p)
      found = entry ∙ rw (← here.0, here.1, number) refl

      -- the model visits this packet too
      visit : {x : Got} → read_loop (suc (visits r (n + 1))) (length buf₀ - count) m ≡ x → read_loop (visits r n) (length buf₀ - count) m ≡ x
      visit e =
          let w = width in
          let x = g.readable.laid in
          ap (λ (k : ℕ). read_loop k (length buf₀ - count) m) (let one : visits r n ≡ suc (visits r (n + 1)) = omega arith in one) ∙ e

      past : seen_receiver (read_up_to r (n + 1)) words₀ store ≡ finished m
      past = rw (add-one, finish_incoming n r.top words₀ store below width) refl

      -- what is left of it fits: it is put whole
      pub read_turn : {k : ℕ} {buf' : Bytes} → k ≡ left_count p → k ≤ length buf₀ - count → buf' ≡ put buf count (take k (left_bytes store p))
          → Going r words₀ store buf₀ (n + 1) words buf' (count + k) true
      read_turn {k} {buf'} left l e =
          let w = g.within in
          let c = g.passed in
          let q : length (left_bytes store p) ≡ k = left_length store p ∙ sym left in
          let all : take k (left_bytes store p) ≡ left_bytes store p = rw (← q) (take-length (left_bytes store p)) in
          let room : length buf₀ - (count + k) ≡ length buf₀ - count - length (left_bytes store p) = omega (arith, q) in
          let turn = ap (joined g.bytes any) (visit (read_whole (length buf₀ - count) m (visits r (n + 1)) found (omega (arith, q)))) in
          record {
            readable = g.readable;
            kept = g.kept;
            passed = omega arith;
            from = omega arith;
            bytes = g.bytes ++ left_bytes store p;
            counted = length-append g.bytes (left_bytes store p) ∙ rw (g.counted, q) refl;
            within = omega arith;
            copied = next (left_bytes store p) (omega (arith, q)) (rw all at e);
            unmoved = λ z. absurd (true≢false z);
            same = rw (room, past) (sym (rw (or_true, ← append_assoc) at turn)) ∙ g.same;
          }

      -- its read offset moves
      moved : (room : ℕ) {words' : List ℕ} {buf' : Bytes} → Front p store count words buf words' buf' → length buf - count ≡ room → room < left_count p
          → seen_receiver (read_up_to r n) words' store ≡ read_to (p.offset + room) (held_payload store (p.number % ceiling) p) m
      moved room {words'} f e l =
          let fit = read_fits in
          let is₀ : p ≡ held_in words₀ (n % ceiling) = rw g.kept at here.0 in
          let back : held_of (held_word (moved_by room p)) ≡ moved_by room p = held_back (moved_by room p) (omega arith) (omega arith) f.number in
          let put : words' ≡ set words₀ (n % ceiling) (held_word (moved_by room p)) =
          f.moved ∙ ap₂ (λ (i k : ℕ). set words (i % ceiling) (held_word (moved_by k p))) number e ∙ rw g.kept refl in
          let all =
          offset_incoming n words₀ (sym (ap length g.kept) ∙ f.long) n (moved_by room p) number (held_full p n here.1) back (omega arith)
          r.top store below (ap (λ (q : Held). q.past) is₀) in
          rw put
          (ap (λ (x : Slots model.Held). record { ack = r.ack; read_cursor = n; incoming = x })
          ((rw (← is₀) at all)
          ∙ ap (λ (i : ℕ). insert m.incoming n (record { payload = cut incoming_slot store (i % ceiling) (p.past - 1); offset = p.offset + room }))
          (sym number)))

      -- it does not fit: its front part is put, and fills the buffer
      pub read_part : {k : ℕ} {words' : List ℕ} {buf' : Bytes} → k ≡ left_count p → length buf₀ - count < k → Front p store count words buf words' buf'
          → HasRead r words₀ store buf₀ (record { receiver = read_up_to r n; count = length buf₀; finished = any }) words' buf'
      read_part {k} {words'} {buf'} left l f =
          let w = g.within in
          let size : length buf ≡ length buf₀ = ap length g.copied ∙ put_length buf₀ 0 g.bytes (omega (arith, g.counted)) in
          let room = length buf₀ - count in
          let e : length buf - count ≡ room = rw size refl in
          let part = take room (left_bytes store p) in
          let z : length part ≡ room = simp (length-take, left_length) (omega arith) in
          let front = ap (joined g.bytes any) (visit (read_front room m (visits r (n + 1)) found (rw left_length (rw left at l)))) in
          ends (g.bytes ++ part) (rw (moved room f e (omega arith)) (sym (rw or_false at front)) ∙ g.same)
          (sym (length-append g.bytes part ∙ rw (z, g.counted) (omega arith)))
          (next part (omega (arith, z)) (f.copied ∙ ap (λ (k : ℕ). put buf count (take k (left_bytes store p))) e))
