-- What is seen of the outgoing store: what `get` finds in it, and how a new packet, new marks, a packet that leaves and a settled number
-- change it. Instances of the laws of SeenSlots, for the words and the store of stored packets.
use Rattle.std.proofs.Common.{◌≡◌, ℕ, suc, ◌+◌, ◌*◌, ◌%◌, ◌<◌, ◌≤◌, Bool, true, false, cond, not, eqb, ◌≢◌, List, length, set, refl, ap, ◌∙◌, ap₂, arith, length-set, get_or-set_other, get_or-set_same, ne_eqb}
use mathlib.Core.Option.{Option, none, some}
use Rattle.model.specs.Lists.{Bytes}
use Rattle.model.specs.Slots.{ceiling, no_slots, get, insert, remove}
use Rattle.model.specs.Stream as model
use Rattle.model.specs.Driving.{marked}
use Rattle.records_words.specs.declared.Sent.{Sent}
use Rattle.records_words.specs.Words.{sent_of, sent_in, sent_word, sent_time, is_stored}
use Rattle.records.specs.Cut.{cut, outgoing_slot}
use Rattle.records.specs.Put.{put}
use Rattle.records.specs.Seen.{marks_of, packet_of, with_sent, seen_outgoing}
use Rattle.records.proofs.Cut.{out_is, cut_same, cut_other}
use Rattle.records.proofs.SeenSlots.{Cell, shown, shown_in, shown_below, shown_above, shown_same, shown_high, slots_length, slots_get, slots_none, slots_same, slots_insert, slots_drop, slots_settle, remove_absent}

-- what is stored under number n
abbrev pub stored_at : List ℕ → Bytes → ℕ → Option model.Packet
stored_at words store n = let p = sent_in words (n % ceiling) in cond (is_stored p n) (some (packet_of store (n % ceiling) p)) none

-- the contents of slot i

abbrev cell_of : Bytes → ℕ → Sent → Cell model.Packet
cell_of store i p = record { there = not (eqb p.length 0); number = p.number; value = packet_of store i p }

abbrev cells : List ℕ → Bytes → ℕ → Cell model.Packet
cells words store i = cell_of store i (sent_in words i)

module _ (remote_acked seq : ℕ) (words : List ℕ) (store : Bytes) where
  pub outgoing_length : length (seen_outgoing remote_acked seq words store) ≡ ceiling
  unfolding seen_outgoing
  outgoing_length = slots_length remote_acked seq (cells words store)

  pub get_outgoing : (n : ℕ) → remote_acked ≤ n → n < seq → get (seen_outgoing remote_acked seq words store) n ≡ stored_at words store n
  unfolding seen_outgoing
  get_outgoing n l u = slots_get remote_acked seq (cells words store) n ∙ shown_in remote_acked seq (cells words store (n % ceiling)) n l u

  pub get_settled : (n : ℕ) → n < remote_acked → get (seen_outgoing remote_acked seq words store) n ≡ none
  unfolding seen_outgoing
  get_settled n l = slots_get remote_acked seq (cells words store) n ∙ shown_below remote_acked seq (cells words store (n % ceiling)) n l

  pub get_unsent : (n : ℕ) → seq ≤ n → get (seen_outgoing remote_acked seq words store) n ≡ none
  unfolding seen_outgoing
  get_unsent n u = slots_get remote_acked seq (cells words store) n ∙ shown_above remote_acked seq (cells words store (n % ceiling)) n u

-- an empty window holds no packet, whatever the words and bytes
pub none_stored : (n : ℕ) (words : List ℕ) (store : Bytes) → seen_outgoing n n words store ≡ no_slots
unfolding seen_outgoing
none_stored n words store = slots_none n (cells words store)

-- changes that are not seen

-- the same packets under the numbers from remote acked to below seq
pub same_outgoing : (remote_acked seq : ℕ) (words words' : List ℕ) (store store' : Bytes)
    → ((n : ℕ) → remote_acked ≤ n → n < seq → stored_at words store n ≡ stored_at words' store' n)
    → seen_outgoing remote_acked seq words store ≡ seen_outgoing remote_acked seq words' store'
unfolding seen_outgoing
same_outgoing remote_acked seq words words' store store' h =
    slots_same remote_acked seq remote_acked seq (cells words store) (cells words' store')
    (λ n. shown_same remote_acked seq (cells words store (n % ceiling)) (cells words' store' (n % ceiling)) n (h n))

-- bytes that belong to no stored packet do not matter
pub same_bytes : (remote_acked seq : ℕ) (words : List ℕ) (store store' : Bytes)
    → ((n : ℕ) → remote_acked ≤ n → n < seq → is_stored (sent_in words (n % ceiling)) n ≡ true
    → cut outgoing_slot store (n % ceiling) (sent_in words (n % ceiling)).length ≡ cut outgoing_slot store' (n % ceiling) (sent_in words (n % ceiling)).length)
    → seen_outgoing remote_acked seq words store ≡ seen_outgoing remote_acked seq words store'
same_bytes remote_acked seq words store store' h = same_outgoing remote_acked seq words words store store' (λ n l u. go n l u (is_stored (sent_in words (n % ceiling)) n) refl)
  where
    go : (n : ℕ) → remote_acked ≤ n → n < seq → (b : Bool) → is_stored (sent_in words (n % ceiling)) n ≡ b
        → cond b (some (packet_of store (n % ceiling) (sent_in words (n % ceiling)))) none ≡ cond b (some (packet_of store' (n % ceiling) (sent_in words (n % ceiling)))) none
    go n l u true e = ap (λ (x : Bytes). some (record { bytes = x; marks = marks_of (sent_in words (n % ceiling)) })) (h n l u e)
    go n l u false e = refl

-- words that decode to the same packets
pub same_sent : (remote_acked seq : ℕ) (words words' : List ℕ) (store : Bytes)
    → ((n : ℕ) → remote_acked ≤ n → n < seq → sent_in words (n % ceiling) ≡ sent_in words' (n % ceiling))
    → seen_outgoing remote_acked seq words store ≡ seen_outgoing remote_acked seq words' store
same_sent remote_acked seq words words' store h =
    same_outgoing remote_acked seq words words' store store
    (λ n l u. ap (λ (p : Sent). cond (is_stored p n) (some (packet_of store (n % ceiling) p)) none) (h n l u))

-- a packet is put into the slot of its number

module _ (words : List ℕ) (long : length words ≡ 64) (n : ℕ) (p : Sent) where
  pub sent_same : sent_in (with_sent words n p) (n % ceiling) ≡ sent_of (sent_word p) (sent_time p)
  sent_same =
      let i : n % ceiling < length words = omega arith in
      let j : 32 + n % ceiling < length (set words (n % ceiling) (sent_word p)) = simp length-set (omega arith) in
      rw (
        get_or-set_other (set words (n % ceiling) (sent_word p)) (32 + n % ceiling) (n % ceiling) (sent_time p) 0 (λ q. omega arith),
        get_or-set_same words (n % ceiling) (sent_word p) 0 i,
        get_or-set_same (set words (n % ceiling) (sent_word p)) (32 + n % ceiling) (sent_time p) 0 j,
      )

  pub sent_other : (i : ℕ) → i < ceiling → i ≢ n % ceiling → sent_in (with_sent words n p) i ≡ sent_in words i
  sent_other i l ne =
      rw (
        get_or-set_other (set words (n % ceiling) (sent_word p)) (32 + n % ceiling) i (sent_time p) 0 (λ q. omega arith),
        get_or-set_other words (n % ceiling) i (sent_word p) 0 ne,
        get_or-set_other (set words (n % ceiling) (sent_word p)) (32 + n % ceiling) (32 + i) (sent_time p) 0 (λ q. ne (omega arith)),
        get_or-set_other words (n % ceiling) (32 + i) (sent_word p) 0 (λ q. omega arith),
      )

module _ (remote_acked : ℕ) (words : List ℕ) (long : length words ≡ 64) (n : ℕ) (p : Sent) (here : p.number ≡ n) (full : p.length ≢ 0)
    (back : sent_of (sent_word p) (sent_time p) ≡ p) (low : remote_acked ≤ n) where
  cell_put : (store bytes : Bytes) → cut outgoing_slot store (n % ceiling) p.length ≡ bytes
      → cells (with_sent words n p) store (n % ceiling) ≡ record { there = true; number = n; value = record { bytes = bytes; marks = marks_of p } }
  cell_put store bytes e = ap (cell_of store (n % ceiling)) (sent_same words long n p ∙ back) ∙ rw (ne_eqb p.length 0 full, here, e) refl

  cell_other : (store : Bytes) (i : ℕ) → i < ceiling → i ≢ n % ceiling → cells (with_sent words n p) store i ≡ cells words store i
  cell_other store i l ne = ap (cell_of store i) (sent_other words long n p i l ne)

  -- new marks
  pub mark_outgoing : (seq : ℕ) (store : Bytes) → n < seq
      → seen_outgoing remote_acked seq (with_sent words n p) store
      ≡ insert (seen_outgoing remote_acked seq words store) n (packet_of store (n % ceiling) p)
  unfolding seen_outgoing
  mark_outgoing seq store high =
      slots_insert remote_acked seq seq (cells (with_sent words n p) store) (cells words store) n (packet_of store (n % ceiling) p) low high
      (cell_put store (cut outgoing_slot store (n % ceiling) p.length) refl)
      (λ m ne. ap (λ (c : Cell model.Packet). shown remote_acked seq c m) (cell_other store (m % ceiling) (omega arith) ne))

  -- the stored packet's marks, changed by f
  pub remark_outgoing : (seq : ℕ) (store : Bytes) (f : model.Marks → model.Marks) → n < seq → p.length ≡ (sent_in words (n % ceiling)).length
      → marks_of p ≡ f (marks_of (sent_in words (n % ceiling)))
      → seen_outgoing remote_acked seq (with_sent words n p) store
      ≡ insert (seen_outgoing remote_acked seq words store) n (marked f (packet_of store (n % ceiling) (sent_in words (n % ceiling))))
  remark_outgoing seq store f high same marks =
      mark_outgoing seq store high
      ∙ ap₂ (λ (k : ℕ) (m : model.Marks). insert (seen_outgoing remote_acked seq words store) n (record { bytes = cut outgoing_slot store (n % ceiling) k; marks = m })) same marks

  -- a new packet, numbered seq
  pub write_outgoing : (store pkt : Bytes) → length store ≡ 44_800 → length pkt ≤ 1_400 → p.length ≡ length pkt
      → seen_outgoing remote_acked (suc n) (with_sent words n p) (put store (n % ceiling * 1_400) pkt)
      ≡ insert (seen_outgoing remote_acked n words store) n (record { bytes = pkt; marks = marks_of p })
  unfolding seen_outgoing
  write_outgoing store pkt size short same =
      rw (← out_is)
      (slots_insert remote_acked (suc n) n (cells (with_sent words n p) store') (cells words store) n (record { bytes = pkt; marks = marks_of p }) low (omega arith)
      (cell_put store' pkt (ap (cut outgoing_slot store' (n % ceiling)) same ∙ cut_same outgoing_slot store pkt (n % ceiling) fits room))
      (λ m ne.
      ap (λ (c : Cell model.Packet). shown remote_acked (suc n) c m) (cell_other store' (m % ceiling) (omega arith) ne ∙ moved (m % ceiling) (sent_in words (m % ceiling)) ne)
      ∙ shown_high remote_acked n (cells words store (m % ceiling)) m (λ q. ne (ap (λ (k : ℕ). k % ceiling) q))))
    where
      store' : Bytes
      store' = put store (n % ceiling * outgoing_slot) pkt

      fits : length pkt ≤ outgoing_slot
      fits = omega (arith, out_is)

      room : n % ceiling * outgoing_slot + length pkt ≤ length store
      room = rw out_is (omega arith)

      moved : (i : ℕ) (q : Sent) → i ≢ n % ceiling → cell_of store' i q ≡ cell_of store i q
      moved i q ne =
          ap (λ (x : Bytes). record { there = not (eqb q.length 0); number = q.number; value = record { bytes = x; marks = marks_of q } })
          (cut_other outgoing_slot store pkt (n % ceiling) fits room i q.length ne)

-- a packet leaves

module _ (remote_acked seq : ℕ) (words : List ℕ) (store : Bytes) (width : seq ≤ remote_acked + ceiling) where
  -- the word of a number is cleared
  pub drop_outgoing : (n : ℕ) → length words ≡ 64 → remote_acked ≤ n → n < seq
      → seen_outgoing remote_acked seq (set words (n % ceiling) 0) store ≡ remove (seen_outgoing remote_acked seq words store) n
  unfolding seen_outgoing sent_of
  drop_outgoing n long l u =
      slots_drop remote_acked seq (cells (set words (n % ceiling) 0) store) (cells words store) n l u width
      (let h : n % ceiling < length words = omega arith in rw (get_or-set_same words (n % ceiling) 0 0 h) refl)
      (λ i less ne. rw (get_or-set_other words (n % ceiling) i 0 0 ne, get_or-set_other words (n % ceiling) (32 + i) 0 0 (λ q. omega arith)) refl)

  -- the lowest number is settled
  pub settle_outgoing : remote_acked < seq → seen_outgoing (suc remote_acked) seq words store ≡ remove (seen_outgoing remote_acked seq words store) remote_acked
  unfolding seen_outgoing
  settle_outgoing u = slots_settle remote_acked seq (cells words store) u width

  -- removing a number that is not stored changes nothing
  pub absent_outgoing : (n : ℕ) → remote_acked ≤ n → n < seq → is_stored (sent_in words (n % ceiling)) n ≡ false
      → remove (seen_outgoing remote_acked seq words store) n ≡ seen_outgoing remote_acked seq words store
  absent_outgoing n l u e = remove_absent (seen_outgoing remote_acked seq words store) n (get_outgoing remote_acked seq words store n l u ∙ rw e refl)
