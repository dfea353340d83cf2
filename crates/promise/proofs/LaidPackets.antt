-- The two packet stores of an end of the model, laid out: words and bytes that are seen as its stored and its held packets. A slot's word
-- is its packet's, or 0; the packet's bytes are at the front of the slot.
use Prim.Native.Nat.{ℕ, suc, ◌+◌, ◌-◌, ◌*◌, ◌%◌, ◌^◌, ◌≤◌, ◌<◌}
use native.Mathlib.Omega.{arith}
use mathlib.Core.Path.{◌≡◌, refl, ap, ap₂, sym, ◌∙◌, subst}
use mathlib.Core.List.{List, [], ◌++◌}
use mathlib.Core.Option.{Option, none, some}
use mathlib.Core.Bool.{Bool, true, false, ◌&&◌}
use lib.Dec.{ltb, leb}
use lib.ListN.{length, get_or, length-append, get_or-append}
use lib.Seq.{get_or-append-add, ext_get_or}
use borrow.Author.Tests.{le-leb, lt-ltb, eq-eqb, ne_eqb}
use Rattle.std.specs.Prelude as rust
use Rattle.std.specs.Prelude.{None, Some}
use Rattle.std.specs.Option.{ForSome}
use Rattle.rtt.specs.declared.nanos.Nanos.{Nanos}
use Rattle.rtt.specs.Estimate.{nanos}
use Rattle.model.specs.Lists.{Bytes, on}
use Rattle.model.specs.Slots.{Slots, Numbered, ceiling}
use Rattle.model.specs.Stream as model
use Rattle.records_words.specs.declared.Sent.{Sent}
use Rattle.records_words.specs.declared.Held.{Held}
use Rattle.records_words.specs.Words.{sent_of, sent_in, sent_word, sent_time, is_stored, held_of, held_word, is_held}
use Rattle.records_words.proofs.WordLaws.{sent_back, no_sent, held_back, no_held}
use Rattle.records.specs.Table.{table}
use Rattle.records.specs.Cut.{cut, outgoing_slot, incoming_slot}
use Rattle.records.specs.Seen.{numbered, seen_time, packet_of, in_slot, outgoing_slot_at, seen_outgoing, held_payload, incoming_slot_at, seen_incoming}
use Rattle.records.specs.Beside.{Stay, sent_size, held_size}
use Rattle.records.proofs.Table.{table_length, table_get}
use Rattle.records.proofs.Cut.{out_is, in_is}
use Rattle.promise.proofs.LaidStore.{with_pieces, pieces_length, pieces_cut, pieces_beyond}

-- a list is the table of its elements
table_of : {A : Type 0} (k : ℕ) (f : ℕ → A) (d : A) (xs : List A) → length xs ≡ k → ((i : ℕ) → i < k → f i ≡ get_or xs i d) → table k f ≡ xs
table_of k f d xs e h =
    ext_get_or d (table k f) xs (table_length k f ∙ sym e)
    (λ i l. let m : i < k = subst (λ (n : ℕ). i < n) (table_length k f) l in table_get k f i d m ∙ h i m)

-- the slot has no packet
not_there : (a b c d : Bool) → d ≡ false → (a && (b && (c && d))) ≡ false
not_there true true true d e = e
not_there true true false d e = refl
not_there true false c d e = refl
not_there false b c d e = refl

-- stored packets

abbrev time_for : Option ℕ → rust.Option Nanos
time_for o = on o None (λ t. Some (nanos t))

abbrev sent_for : Numbered model.Packet → Sent
sent_for x =
    record {
      number = x.number;
      length = length x.value.bytes;
      transmits = x.value.marks.transmits;
      waiting = x.value.marks.waiting;
      sent_at = time_for x.value.marks.sent;
    }

abbrev sent_word_for : Option (Numbered model.Packet) → ℕ
sent_word_for o = on o 0 (λ x. sent_word (sent_for x))

abbrev sent_time_for : Option (Numbered model.Packet) → ℕ
sent_time_for o = on o 0 (λ x. sent_time (sent_for x))

abbrev bytes_for : Option (Numbered model.Packet) → Bytes
bytes_for o = on o [] (λ x. x.value.bytes)

-- what a packet in slot i must satisfy to fit its word
pub record StoredFits (remote_acked seq i : ℕ) (x : Numbered model.Packet) : Type 0 where
  pub in-slot : x.number % ceiling ≡ i
  pub from : remote_acked ≤ x.number
  pub below : x.number < seq
  pub some_bytes : 0 < length x.value.bytes
  pub short : length x.value.bytes ≤ 1_400
  pub transmits : x.value.marks.transmits < 32
  pub time : (t : ℕ) → x.value.marks.sent ≡ some t → t < 2 ^ 60

-- the packet in slot i, if this is its word
abbrev stored_in : (remote_acked seq : ℕ) → Bytes → ℕ → Sent → Option (Numbered model.Packet)
stored_in remote_acked seq store i p =
    numbered (leb remote_acked p.number && (ltb p.number seq && (in_slot i p.number && is_stored p p.number))) p.number (packet_of store i p)

module _ (remote_acked seq i : ℕ) where
  time_fits : (o : Option ℕ) → ((t : ℕ) → o ≡ some t → t < 2 ^ 60) → ForSome (time_for o) (λ t. t.0 + 1 < 2 ^ 64)
  time_fits none h u e = absurd (cc)
  time_fits (some t) h u e = let z = h t refl in let c : nanos t ≡ u = cc in rw (← c) (omega arith)

  time_again : (o : Option ℕ) → seen_time (time_for o) ≡ o
  time_again none = refl
  time_again (some t) = refl

  short_of : (o : Option (Numbered model.Packet)) → ((x : Numbered model.Packet) → o ≡ some x → StoredFits remote_acked seq i x) → length (bytes_for o) ≤ 1_400
  short_of none h = omega arith
  short_of (some x) h = (h x refl).short

  module _ (fits : seq ≤ 4_294_967_295) where
    word_back : (x : Numbered model.Packet) → StoredFits remote_acked seq i x → sent_of (sent_word (sent_for x)) (sent_time (sent_for x)) ≡ sent_for x
    word_back x h =
        let a = h.short in
        let b = h.below in
        sent_back (sent_for x) (omega arith) h.transmits (omega arith) (time_fits x.value.marks.sent h.time)

    size_of : (o : Option (Numbered model.Packet)) → ((x : Numbered model.Packet) → o ≡ some x → StoredFits remote_acked seq i x)
        → (sent_of (sent_word_for o) (sent_time_for o)).length ≡ length (bytes_for o)
    unfolding sent_of
    size_of none h = refl
    size_of (some x) h = ap (λ (p : Sent). p.length) (word_back x (h x refl))

    slot_of : (store : Bytes) (o : Option (Numbered model.Packet)) → ((x : Numbered model.Packet) → o ≡ some x → StoredFits remote_acked seq i x)
        → cut outgoing_slot store i (length (bytes_for o)) ≡ bytes_for o → stored_in remote_acked seq store i (sent_of (sent_word_for o) (sent_time_for o)) ≡ o
    slot_of store none h c =
        let p = sent_of 0 0 in
        let n = p.number in
        ap (λ (b : Bool). numbered b n (packet_of store i p)) (not_there (leb remote_acked n) (ltb n seq) (in_slot i n) (is_stored p n) (no_sent 0 n))
    slot_of store (some x) h c =
        let f = h x refl in
        let n = x.number in
        ap (stored_in remote_acked seq store i) (word_back x f)
        ∙ rw (le-leb remote_acked n f.from, lt-ltb n seq f.below, eq-eqb (n % ceiling) i f.in-slot, ne_eqb (length x.value.bytes) 0 (λ z. let y = f.some_bytes in omega arith), eq-eqb n n refl, c, time_again x.value.marks.sent) refl

-- two tables, one after the other
two_tables : (k : ℕ) (f g : ℕ → ℕ) (i : ℕ) → i < k → (get_or (table k f ++ table k g) i 0 ≡ f i) × (get_or (table k f ++ table k g) (k + i) 0 ≡ g i)
two_tables k f g i l = (
  get_or-append (table k f) (table k g) 0 i (rw (table_length k f) l) ∙ table_get k f i 0 l,
  ap (λ (n : ℕ). get_or (table k f ++ table k g) (n + i) 0) (sym (table_length k f)) ∙ get_or-append-add (table k f) (table k g) i 0 ∙ table_get k g i 0 l,
)

module _ (s : Slots model.Packet) where
  unfoldable pub laid_sent : List ℕ
  laid_sent = table ceiling (λ i. sent_word_for (get_or s i none)) ++ table ceiling (λ i. sent_time_for (get_or s i none))

  unfoldable pub laid_outgoing : Bytes → Bytes
  laid_outgoing store = with_pieces outgoing_slot ceiling store (λ i. bytes_for (get_or s i none))

  pub sent_length : length laid_sent ≡ 64
  unfolding laid_sent
  sent_length =
      length-append (table ceiling (λ i. sent_word_for (get_or s i none))) (table ceiling (λ i. sent_time_for (get_or s i none)))
      ∙ ap₂ ◌+◌ (table_length ceiling (λ i. sent_word_for (get_or s i none))) (table_length ceiling (λ i. sent_time_for (get_or s i none)))

  sent_word_lem : (i : ℕ) → i < ceiling → sent_in laid_sent i ≡ sent_of (sent_word_for (get_or s i none)) (sent_time_for (get_or s i none))
  unfolding laid_sent
  sent_word_lem i l =
      let (a, b) = two_tables ceiling (λ i. sent_word_for (get_or s i none)) (λ i. sent_time_for (get_or s i none)) i l in
      ap₂ sent_of a b

  module _ (remote_acked seq : ℕ) (fits : seq ≤ 4_294_967_295) (ok : (i : ℕ) (x : Numbered model.Packet) → get_or s i none ≡ some x → StoredFits remote_acked seq i x) where
    sent-size : (i : ℕ) → i < ceiling → sent_size laid_sent i ≡ length (bytes_for (get_or s i none))
    sent-size i l = ap (λ (p : Sent). p.length) (sent_word_lem i l) ∙ size_of remote_acked seq i fits (get_or s i none) (ok i)

    module _ (store : Bytes) (size : length store ≡ 44_800) where
      short : (i : ℕ) → i < ceiling → length (bytes_for (get_or s i none)) ≤ outgoing_slot
      short i l = rw out_is (short_of remote_acked seq i (get_or s i none) (ok i))

      all : ceiling * outgoing_slot ≤ length store
      all = rw out_is (omega arith)

      pub outgoing_length : length (laid_outgoing store) ≡ 44_800
      unfolding laid_outgoing
      outgoing_length = pieces_length outgoing_slot ceiling store (λ i. bytes_for (get_or s i none)) short all ∙ rw out_is refl

      pub outgoing_stays : Stay outgoing_slot (sent_size laid_sent) store (laid_outgoing store)
      unfolding laid_outgoing
      outgoing_stays i l =
          rw (sent-size i l) (pieces_beyond outgoing_slot ceiling store (λ i. bytes_for (get_or s i none)) short all i l)

      pub outgoing_seen : length s ≡ ceiling → seen_outgoing remote_acked seq laid_sent (laid_outgoing store) ≡ s
      unfolding seen_outgoing laid_outgoing
      outgoing_seen e =
          table_of ceiling (outgoing_slot_at remote_acked seq laid_sent (laid_outgoing store)) none s e
          (λ i l.
          ap (stored_in remote_acked seq (laid_outgoing store) i) (sent_word_lem i l)
          ∙ slot_of remote_acked seq i fits (laid_outgoing store) (get_or s i none) (ok i)
          (pieces_cut outgoing_slot ceiling store (λ i. bytes_for (get_or s i none)) short all i l))

-- held packets

abbrev held_for : Numbered model.Held → Held
held_for x = record { number = x.number; past = suc (length x.value.payload); offset = x.value.offset }

abbrev held_word_for : Option (Numbered model.Held) → ℕ
held_word_for o = on o 0 (λ x. held_word (held_for x))

abbrev payload_for : Option (Numbered model.Held) → Bytes
payload_for o = on o [] (λ x. x.value.payload)

-- what a packet in slot i must satisfy to fit its word
pub record HeldFits (read_cursor top i : ℕ) (x : Numbered model.Held) : Type 0 where
  pub in-slot : x.number % ceiling ≡ i
  pub from : read_cursor ≤ x.number
  pub below : x.number < top
  pub fits : x.number < 4_294_967_295
  pub short : length x.value.payload ≤ 1_380
  pub offset : x.value.offset ≤ 1_380

-- the packet in slot i, if this is its word
abbrev held_in : (read_cursor top : ℕ) → Bytes → ℕ → Held → Option (Numbered model.Held)
held_in read_cursor top store i p =
    numbered (leb read_cursor p.number && (ltb p.number top && (in_slot i p.number && is_held p p.number))) p.number (held_payload store i p)

module _ (read_cursor top i : ℕ) where
  held_word_back : (x : Numbered model.Held) → HeldFits read_cursor top i x → held_of (held_word (held_for x)) ≡ held_for x
  held_word_back x h =
      let a = h.short in
      let b = h.offset in
      let c = h.fits in
      held_back (held_for x) (omega arith) (omega arith) (omega arith)

  held_short : (o : Option (Numbered model.Held)) → ((x : Numbered model.Held) → o ≡ some x → HeldFits read_cursor top i x) → length (payload_for o) ≤ 1_380
  held_short none h = omega arith
  held_short (some x) h = (h x refl).short

  held_size_of : (o : Option (Numbered model.Held)) → ((x : Numbered model.Held) → o ≡ some x → HeldFits read_cursor top i x)
      → (held_of (held_word_for o)).past - 1 ≡ length (payload_for o)
  unfolding held_of
  held_size_of none h = refl
  held_size_of (some x) h = ap (λ (p : Held). p.past - 1) (held_word_back x (h x refl)) ∙ (let e : suc (length x.value.payload) - 1 ≡ length x.value.payload = omega arith in e)

  held_slot_of : (store : Bytes) (o : Option (Numbered model.Held)) → ((x : Numbered model.Held) → o ≡ some x → HeldFits read_cursor top i x)
      → cut incoming_slot store i (length (payload_for o)) ≡ payload_for o → held_in read_cursor top store i (held_of (held_word_for o)) ≡ o
  held_slot_of store none h c =
      let p = held_of 0 in
      let n = p.number in
      ap (λ (b : Bool). numbered b n (held_payload store i p)) (not_there (leb read_cursor n) (ltb n top) (in_slot i n) (is_held p n) (no_held n))
  held_slot_of store (some x) h c =
      let f = h x refl in
      let n = x.number in
      let k = length x.value.payload in
      let e : suc k - 1 ≡ k = omega arith in
      ap (held_in read_cursor top store i) (held_word_back x f)
      ∙ rw (le-leb read_cursor n f.from, lt-ltb n top f.below, eq-eqb (n % ceiling) i f.in-slot, ne_eqb (suc k) 0 (λ z. omega arith), eq-eqb n n refl, e, c) refl

module _ (s : Slots model.Held) where
  unfoldable pub laid_held : List ℕ
  laid_held = table ceiling (λ i. held_word_for (get_or s i none))

  unfoldable pub laid_incoming : Bytes → Bytes
  laid_incoming store = with_pieces incoming_slot ceiling store (λ i. payload_for (get_or s i none))

  pub held_length : length laid_held ≡ 32
  unfolding laid_held
  held_length = table_length ceiling (λ i. held_word_for (get_or s i none))

  held_word_at : (i : ℕ) → i < ceiling → get_or laid_held i 0 ≡ held_word_for (get_or s i none)
  unfolding laid_held
  held_word_at i l = table_get ceiling (λ i. held_word_for (get_or s i none)) i 0 l

  module _ (read_cursor top : ℕ) (ok : (i : ℕ) (x : Numbered model.Held) → get_or s i none ≡ some x → HeldFits read_cursor top i x) (store : Bytes) (size : length store ≡ 44_160) where
    payload_short : (i : ℕ) → i < ceiling → length (payload_for (get_or s i none)) ≤ incoming_slot
    payload_short i l = rw in_is (held_short read_cursor top i (get_or s i none) (ok i))

    all_payloads : ceiling * incoming_slot ≤ length store
    all_payloads = rw in_is (omega arith)

    pub incoming_length : length (laid_incoming store) ≡ 44_160
    unfolding laid_incoming
    incoming_length = pieces_length incoming_slot ceiling store (λ i. payload_for (get_or s i none)) payload_short all_payloads ∙ rw in_is refl

    pub incoming_stays : Stay incoming_slot (held_size laid_held) store (laid_incoming store)
    unfolding laid_incoming
    incoming_stays i l =
        let e : held_size laid_held i ≡ length (payload_for (get_or s i none)) =
        ap (λ (w : ℕ). (held_of w).past - 1) (held_word_at i l) ∙ held_size_of read_cursor top i (get_or s i none) (ok i) in
        rw e (pieces_beyond incoming_slot ceiling store (λ i. payload_for (get_or s i none)) payload_short all_payloads i l)

    pub incoming_seen : length s ≡ ceiling → seen_incoming read_cursor top laid_held (laid_incoming store) ≡ s
    unfolding seen_incoming laid_incoming
    incoming_seen e =
        table_of ceiling (incoming_slot_at read_cursor top laid_held (laid_incoming store)) none s e
        (λ i l.
        ap (λ (w : ℕ). held_in read_cursor top (laid_incoming store) i (held_of w)) (held_word_at i l)
        ∙ held_slot_of read_cursor top i (laid_incoming store) (get_or s i none) (ok i)
        (pieces_cut incoming_slot ceiling store (λ i. payload_for (get_or s i none)) payload_short all_payloads i l))
