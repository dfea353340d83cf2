-- What is seen of the incoming store: what `get` finds in it, and how holding a packet, moving a read offset and finishing a packet change
-- it. Instances of the laws of SeenSlots, for the words and the store of held packets.
use Rattle.std.proofs.Common.{◌≡◌, ℕ, zero, suc, ◌+◌, ◌-◌, ◌*◌, ◌%◌, ◌<◌, ◌≤◌, Bool, true, false, cond, not, eqb, ◌≢◌, List, length, get_or, set, refl, ap, ◌∙◌, arith, length-set, get_or-set_other, get_or-set_same, ne_eqb}
use mathlib.Core.Option.{Option, none, some}
use Rattle.model.specs.Lists.{Bytes}
use Rattle.model.specs.Slots.{Slots, ceiling, no_slots, get, insert, remove}
use Rattle.model.specs.Stream as model
use Rattle.records_words.specs.declared.Held.{Held}
use Rattle.records_words.specs.Words.{held_of, held_word, is_held}
use Rattle.records.specs.Cut.{cut, incoming_slot}
use Rattle.records.specs.Put.{put}
use Rattle.records.specs.Seen.{held_payload, seen_incoming}
use Rattle.records.proofs.Cut.{in_is, cut_same, cut_other}
use Rattle.records.proofs.SeenSlots.{Cell, shown, shown_in, shown_below, shown_above, shown_same, shown_high, slots_length, slots_get, slots_none, slots_same, slots_insert, slots_settle, slots_clear}

abbrev pub held_in : List ℕ → ℕ → Held
held_in words i = held_of (get_or words i 0)

-- the words after putting packet p into the slot of number n
abbrev pub with_held : List ℕ → ℕ → Held → List ℕ
with_held words n p = set words (n % ceiling) (held_word p)

-- what is held under number n
abbrev pub held_at : List ℕ → Bytes → ℕ → Option model.Held
held_at words store n = let p = held_in words (n % ceiling) in cond (is_held p n) (some (held_payload store (n % ceiling) p)) none

-- the contents of slot i

abbrev cell_of : Bytes → ℕ → Held → Cell model.Held
cell_of store i p = record { there = not (eqb p.past 0); number = p.number; value = held_payload store i p }

abbrev cells : List ℕ → Bytes → ℕ → Cell model.Held
cells words store i = cell_of store i (held_in words i)

module _ (read_cursor top : ℕ) (words : List ℕ) (store : Bytes) where
  pub incoming_length : length (seen_incoming read_cursor top words store) ≡ ceiling
  unfolding seen_incoming
  incoming_length = slots_length read_cursor top (cells words store)

  pub get_incoming : (n : ℕ) → read_cursor ≤ n → n < top → get (seen_incoming read_cursor top words store) n ≡ held_at words store n
  unfolding seen_incoming
  get_incoming n l u = slots_get read_cursor top (cells words store) n ∙ shown_in read_cursor top (cells words store (n % ceiling)) n l u

  pub get_finished : (n : ℕ) → n < read_cursor → get (seen_incoming read_cursor top words store) n ≡ none
  unfolding seen_incoming
  get_finished n l = slots_get read_cursor top (cells words store) n ∙ shown_below read_cursor top (cells words store (n % ceiling)) n l

  pub get_past : (n : ℕ) → top ≤ n → get (seen_incoming read_cursor top words store) n ≡ none
  unfolding seen_incoming
  get_past n u = slots_get read_cursor top (cells words store) n ∙ shown_above read_cursor top (cells words store (n % ceiling)) n u

  -- a packet is finished: the read cursor moves past it
  pub finish_incoming : read_cursor < top → top ≤ read_cursor + ceiling
      → seen_incoming (suc read_cursor) top words store ≡ remove (seen_incoming read_cursor top words store) read_cursor
  unfolding seen_incoming
  finish_incoming u width = slots_settle read_cursor top (cells words store) u width

-- an empty window holds no packet, whatever the words and bytes
pub none_held : (n : ℕ) (words : List ℕ) (store : Bytes) → seen_incoming n n words store ≡ no_slots
unfolding seen_incoming
none_held n words store = slots_none n (cells words store)

-- changes that are not seen

-- the same packets under the numbers from the read cursor to below top
pub same_incoming : (read_cursor top : ℕ) (words words' : List ℕ) (store store' : Bytes)
    → ((n : ℕ) → read_cursor ≤ n → n < top → held_at words store n ≡ held_at words' store' n)
    → seen_incoming read_cursor top words store ≡ seen_incoming read_cursor top words' store'
unfolding seen_incoming
same_incoming read_cursor top words words' store store' h =
    slots_same read_cursor top read_cursor top (cells words store) (cells words' store')
    (λ n. shown_same read_cursor top (cells words store (n % ceiling)) (cells words' store' (n % ceiling)) n (h n))

-- bytes that belong to no held packet do not matter
pub same_payloads : (read_cursor top : ℕ) (words : List ℕ) (store store' : Bytes)
    → ((n : ℕ) → read_cursor ≤ n → n < top → is_held (held_in words (n % ceiling)) n ≡ true
    → cut incoming_slot store (n % ceiling) ((held_in words (n % ceiling)).past - 1) ≡ cut incoming_slot store' (n % ceiling) ((held_in words (n % ceiling)).past - 1))
    → seen_incoming read_cursor top words store ≡ seen_incoming read_cursor top words store'
same_payloads read_cursor top words store store' h = same_incoming read_cursor top words words store store' (λ n l u. go n l u (is_held (held_in words (n % ceiling)) n) refl)
  where
    go : (n : ℕ) → read_cursor ≤ n → n < top → (b : Bool) → is_held (held_in words (n % ceiling)) n ≡ b
        → cond b (some (held_payload store (n % ceiling) (held_in words (n % ceiling)))) none ≡ cond b (some (held_payload store' (n % ceiling) (held_in words (n % ceiling)))) none
    go n l u true e = ap (λ (x : Bytes). some (record { payload = x; offset = (held_in words (n % ceiling)).offset })) (h n l u e)
    go n l u false e = refl

-- words that decode to the same packets
pub same_held : (read_cursor top : ℕ) (words words' : List ℕ) (store : Bytes)
    → ((n : ℕ) → read_cursor ≤ n → n < top → held_in words (n % ceiling) ≡ held_in words' (n % ceiling))
    → seen_incoming read_cursor top words store ≡ seen_incoming read_cursor top words' store
same_held read_cursor top words words' store h =
    same_incoming read_cursor top words words' store store
    (λ n l u. ap (λ (p : Held). cond (is_held p n) (some (held_payload store (n % ceiling) p)) none) (h n l u))

-- numbers between top and a new top, whose words are no packets

-- the words after clearing those of the k numbers from n on
abbrev pub cleared : (k n : ℕ) → List ℕ → List ℕ
cleared zero n words = words
cleared (suc k) n words = cleared k (suc n) (set words (n % ceiling) 0)

pub cleared_length : (k n : ℕ) (words : List ℕ) → length (cleared k n words) ≡ length words
cleared_length zero n words = refl
cleared_length (suc k) n words = cleared_length k (suc n) (set words (n % ceiling) 0) ∙ length-set words (n % ceiling) 0

pub clear_one : (read_cursor top : ℕ) (words : List ℕ) (store : Bytes) → length words ≡ 32 → top < read_cursor + ceiling
    → seen_incoming read_cursor (suc top) (set words (top % ceiling) 0) store ≡ seen_incoming read_cursor top words store
unfolding seen_incoming held_of
clear_one read_cursor top words store long width =
    slots_clear read_cursor top (cells (set words (top % ceiling) 0) store) (cells words store) width
    (let h : top % ceiling < length words = omega arith in rw (get_or-set_same words (top % ceiling) 0 0 h) refl)
    (λ i less ne. rw (get_or-set_other words (top % ceiling) i 0 0 ne) refl)

pub clear_gap : (k read_cursor top : ℕ) (words : List ℕ) (store : Bytes) → length words ≡ 32 → top + k ≤ read_cursor + ceiling
    → seen_incoming read_cursor (top + k) (cleared k top words) store ≡ seen_incoming read_cursor top words store
clear_gap zero read_cursor top words store long width = ap (λ (t : ℕ). seen_incoming read_cursor t words store) (let e : top + 0 ≡ top = omega arith in e)
clear_gap (suc k) read_cursor top words store long width =
    ap (λ (t : ℕ). seen_incoming read_cursor t (cleared k (suc top) (set words (top % ceiling) 0)) store) (let e : top + suc k ≡ suc top + k = omega arith in e)
    ∙ clear_gap k read_cursor (suc top) (set words (top % ceiling) 0) store (length-set words (top % ceiling) 0 ∙ long) (omega arith)
    ∙ clear_one read_cursor top words store long (omega arith)

pub clear_to : (read_cursor top n : ℕ) (words : List ℕ) (store : Bytes) → length words ≡ 32 → top ≤ n → n ≤ read_cursor + ceiling
    → seen_incoming read_cursor n (cleared (n - top) top words) store ≡ seen_incoming read_cursor top words store
clear_to read_cursor top n words store long l u =
    ap (λ (t : ℕ). seen_incoming read_cursor t (cleared (n - top) top words) store) (let e : n ≡ top + (n - top) = omega arith in e)
    ∙ clear_gap (n - top) read_cursor top words store long (omega arith)

-- a packet is put into the slot of its number

module _ (read_cursor : ℕ) (words : List ℕ) (long : length words ≡ 32) (n : ℕ) (p : Held) (here : p.number ≡ n) (full : p.past ≢ 0)
    (back : held_of (held_word p) ≡ p) (low : read_cursor ≤ n) where
  cell_put : (store payload : Bytes) → cut incoming_slot store (n % ceiling) (p.past - 1) ≡ payload
      → cells (with_held words n p) store (n % ceiling) ≡ record { there = true; number = n; value = record { payload = payload; offset = p.offset } }
  cell_put store payload e =
      let i : n % ceiling < length words = omega arith in
      ap (cell_of store (n % ceiling)) (ap held_of (get_or-set_same words (n % ceiling) (held_word p) 0 i) ∙ back) ∙ rw (ne_eqb p.past 0 full, here, e) refl

  cell_other : (store : Bytes) (i : ℕ) → i ≢ n % ceiling → cells (with_held words n p) store i ≡ cells words store i
  cell_other store i ne = ap (λ (w : ℕ). cell_of store i (held_of w)) (get_or-set_other words (n % ceiling) i (held_word p) 0 ne)

  -- another read offset
  pub offset_incoming : (top : ℕ) (store : Bytes) → n < top → p.past ≡ (held_in words (n % ceiling)).past
      → seen_incoming read_cursor top (with_held words n p) store
      ≡ insert (seen_incoming read_cursor top words store) n
      (record { payload = (held_payload store (n % ceiling) (held_in words (n % ceiling))).payload; offset = p.offset })
  unfolding seen_incoming
  offset_incoming top store high same =
      slots_insert read_cursor top top (cells (with_held words n p) store) (cells words store) n
      (record { payload = cut incoming_slot store (n % ceiling) ((held_in words (n % ceiling)).past - 1); offset = p.offset }) low high
      (cell_put store (cut incoming_slot store (n % ceiling) ((held_in words (n % ceiling)).past - 1)) (ap (λ (k : ℕ). cut incoming_slot store (n % ceiling) (k - 1)) same))
      (λ m ne. ap (λ (c : Cell model.Held). shown read_cursor top c m) (cell_other store (m % ceiling) ne))

  module _ (store payload : Bytes) (size : length store ≡ 44_160) (short : length payload ≤ 1_380) (same : p.past ≡ suc (length payload)) where
    -- for any new top above n that shows every other number as the old top does
    hold : (top top' : ℕ) → n < top' → ((c : Cell model.Held) (m : ℕ) → m ≢ n → shown read_cursor top' c m ≡ shown read_cursor top c m)
        → seen_incoming read_cursor top' (with_held words n p) (put store (n % ceiling * 1_380) payload)
        ≡ insert (seen_incoming read_cursor top words store) n (record { payload = payload; offset = p.offset })
    unfolding seen_incoming
    hold top top' high h =
        rw (← in_is)
        (slots_insert read_cursor top' top (cells (with_held words n p) store') (cells words store) n (record { payload = payload; offset = p.offset }) low high
        (cell_put store' payload (ap (cut incoming_slot store' (n % ceiling)) (let e : p.past - 1 ≡ length payload = omega arith in e) ∙ cut_same incoming_slot store payload (n % ceiling) fits room))
        (λ m ne.
        ap (λ (c : Cell model.Held). shown read_cursor top' c m) (cell_other store' (m % ceiling) ne ∙ moved (m % ceiling) (held_in words (m % ceiling)) ne)
        ∙ h (cells words store (m % ceiling)) m (λ q. ne (ap (λ (k : ℕ). k % ceiling) q))))
      where
        store' : Bytes
        store' = put store (n % ceiling * incoming_slot) payload

        fits : length payload ≤ incoming_slot
        fits = omega (arith, in_is)

        room : n % ceiling * incoming_slot + length payload ≤ length store
        room = rw in_is (omega arith)

        moved : (i : ℕ) (q : Held) → i ≢ n % ceiling → cell_of store' i q ≡ cell_of store i q
        moved i q ne =
            ap (λ (x : Bytes). record { there = not (eqb q.past 0); number = q.number; value = record { payload = x; offset = q.offset } })
            (cut_other incoming_slot store payload (n % ceiling) fits room i (q.past - 1) ne)

    -- a number below top
    pub hold_incoming : (top : ℕ) → n < top
        → seen_incoming read_cursor top (with_held words n p) (put store (n % ceiling * 1_380) payload)
        ≡ insert (seen_incoming read_cursor top words store) n (record { payload = payload; offset = p.offset })
    hold_incoming top high = hold top top high (λ c m ne. refl)

    -- the number top itself: top moves past it
    pub hold_next : seen_incoming read_cursor (suc n) (with_held words n p) (put store (n % ceiling * 1_380) payload)
        ≡ insert (seen_incoming read_cursor n words store) n (record { payload = payload; offset = p.offset })
    hold_next = hold n (suc n) (omega arith) (λ c m ne. shown_high read_cursor n c m ne)

-- a number at or past top: top moves past it, after the words of the numbers between are cleared
pub hold_past : (read_cursor top : ℕ) (words : List ℕ) (long : length words ≡ 32) (n : ℕ) (p : Held) → p.number ≡ n → p.past ≢ 0 → held_of (held_word p) ≡ p
    → read_cursor ≤ n → top ≤ n → n < read_cursor + ceiling
    → (store payload : Bytes) → length store ≡ 44_160 → length payload ≤ 1_380 → p.past ≡ suc (length payload)
    → seen_incoming read_cursor (suc n) (with_held (cleared (n - top) top words) n p) (put store (n % ceiling * 1_380) payload)
    ≡ insert (seen_incoming read_cursor top words store) n (record { payload = payload; offset = p.offset })
hold_past read_cursor top words long n p here full back low from high store payload size short same =
    hold_next read_cursor (cleared (n - top) top words) (cleared_length (n - top) top words ∙ long) n p here full back low store payload size short same
    ∙ ap (λ (s : Slots model.Held). insert s n (record { payload = payload; offset = p.offset })) (clear_to read_cursor top n words store long from (omega arith))
