-- Taking one entry: the bytes that the code copies out of a store are the datagram that the model shows, and the words after the mark are
-- the model's store with that packet marked. A packet is there if its number is in the window and its slot holds it.
use Prim.Native.Nat.{ℕ, suc, ◌+◌, ◌*◌, ◌%◌, ◌^◌, ◌≤◌, ◌<◌}
use native.Mathlib.Omega.{arith}
use mathlib.Core.Path.{◌≡◌, refl, ap, ap₂, sym, ◌∙◌}
use mathlib.Core.List.{List, [], ◌∷◌, ◌++◌, append-nil}
use mathlib.Core.Option.{none, some}
use mathlib.Core.Bool.{Bool, true, false, cond, ◌&&◌}
use lib.Dec.{leb, ltb}
use borrow.Author.Tests.{leb-true, leb-false, ltb-true, ltb-false}
use lib.ListN.{length, take, drop, take-append-drop}
use Rattle.rtt.specs.Estimate.{nanos}
use Rattle.model.specs.Lists.{Bytes}
use Rattle.model.specs.Slots.{Slots, ceiling, get, insert}
use Rattle.model.specs.Stream as model
use Rattle.model.specs.Driving.{marked, taken_marks}
use Rattle.model.proofs.Gate.{and_left, and_right}
use Rattle.records.specs.declared.Sender.{Sender}
use Rattle.records_words.specs.Words.{sent_of, sent_in, sent_word, sent_time, is_stored}
use Rattle.records.specs.Cut.{cut, outgoing_slot, header_slot}
use Rattle.records.specs.Put.{put}
use Rattle.records.specs.Seen.{packet_of, with_sent}
use Rattle.records_words.proofs.WordLaws.{sent_back, stored_number, stored_full}
use Rattle.records.proofs.Cut.{out_is, head_is, cut_length, cut_whole}
use Rattle.records.proofs.SeenOutgoing.{get_outgoing, get_settled, get_unsent, remark_outgoing}
use Rattle.take_entry.specs.Transmit.{TransmitBounds, taken_packet, send_entry, store_seen, is_there, PutInBuffer}

-- the bytes of a packet

pub state-bytes : (headers : Bytes) (place : ℕ) → length headers ≡ 1_280 → place < 64 → take 20 (drop (place * 20) headers) ≡ cut header_slot headers place 20
state-bytes headers place e h =
    ap (λ (z : ℕ). take 20 (drop (place * z) headers)) (sym head_is)
    ∙ sym (cut_whole header_slot headers place 20 (rw head_is (omega arith)) (omega (arith, head_is)))

pub packet_bytes : (outgoing : Bytes) (i k : ℕ) → length outgoing ≡ 44_800 → i < 32 → k ≤ 1_400 → take k (drop (i * 1_400) outgoing) ≡ cut outgoing_slot outgoing i k
packet_bytes outgoing i k e l h =
    ap (λ (z : ℕ). take k (drop (i * z) outgoing)) (sym out_is) ∙ sym (cut_whole outgoing_slot outgoing i k (rw out_is (omega arith)) (omega (arith, out_is)))

pub state_length : (headers : Bytes) (place : ℕ) → length headers ≡ 1_280 → place < 64 → length (take 20 (drop (place * 20) headers)) ≡ 20
state_length headers place e h = ap length (state-bytes headers place e h) ∙ cut_length header_slot headers place 20

pub packet_length : (outgoing : Bytes) (i k : ℕ) → length outgoing ≡ 44_800 → i < 32 → k ≤ 1_400
    → length (take k (drop (i * 1_400) outgoing)) ≡ k
packet_length outgoing i k e l h = ap length (packet_bytes outgoing i k e l h) ∙ cut_length outgoing_slot outgoing i k

-- a packet is there

module _ (s : Sender) (sent : List ℕ) (outgoing : Bytes) (n : ℕ) where
  -- the packet seen in the slot of n
  abbrev pub slot_seen : model.Packet
  slot_seen = packet_of outgoing (n % ceiling) (sent_in sent (n % ceiling))

  pub get_there : get (store_seen s sent outgoing) n ≡ cond (is_there s sent n) (some slot_seen) none
  get_there = go (leb s.remote_acked n) refl (ltb n s.seq) refl
    where
      go : (a : Bool) → leb s.remote_acked n ≡ a → (b : Bool) → ltb n s.seq ≡ b
          → get (store_seen s sent outgoing) n ≡ cond (a && (b && is_stored (sent_in sent (n % ceiling)) n)) (some slot_seen) none
      go true p true q =
          get_outgoing s.remote_acked s.seq sent outgoing n (leb-true s.remote_acked n p) (ltb-true n s.seq q)
      go true p false q = get_unsent s.remote_acked s.seq sent outgoing n (ltb-false n s.seq q)
      go false p b q = get_settled s.remote_acked s.seq sent outgoing n (leb-false s.remote_acked n p)

  module _ (there : is_there s sent n ≡ true) where
    pub there_low : s.remote_acked ≤ n
    there_low = leb-true s.remote_acked n (and_left (leb s.remote_acked n) (ltb n s.seq && is_stored (sent_in sent (n % ceiling)) n) there)

    rest : (ltb n s.seq && is_stored (sent_in sent (n % ceiling)) n) ≡ true
    rest = and_right (leb s.remote_acked n) (ltb n s.seq && is_stored (sent_in sent (n % ceiling)) n) there

    pub there_high : n < s.seq
    there_high = ltb-true n s.seq (and_left (ltb n s.seq) (is_stored (sent_in sent (n % ceiling)) n) rest)

    pub there_stored : is_stored (sent_in sent (n % ceiling)) n ≡ true
    there_stored = and_right (ltb n s.seq) (is_stored (sent_in sent (n % ceiling)) n) rest

    -- the words after marking it are seen as the store with it marked
    pub mark_there : (clock : ℕ) → length sent ≡ 64 → TransmitBounds (sent_in sent (n % ceiling)) 30 → n < 2 ^ 32 → clock < 2 ^ 60
        → store_seen s (with_sent sent n (taken_packet (sent_in sent (n % ceiling)) clock)) outgoing ≡ insert (store_seen s sent outgoing) n (marked (taken_marks clock) slot_seen)
    mark_there clock long within fits early =
        let p = sent_in sent (n % ceiling) in
        let a = within.short in
        let b = within.few in
        let number = stored_number p n there_stored in
        let back : sent_of (sent_word (taken_packet p clock)) (sent_time (taken_packet p clock)) ≡ taken_packet p clock =
        sent_back (taken_packet p clock) (omega arith) (omega arith) (rw number fits) (λ t e. let same : nanos clock ≡ t = cc in rw (← same) (omega arith)) in
        let one : p.transmits + 1 ≡ suc p.transmits = omega arith in
        remark_outgoing s.remote_acked sent long n (taken_packet p clock) number (stored_full p n there_stored) back there_low s.seq outgoing
        (taken_marks clock) there_high refl (ap (λ (k : ℕ). record { waiting = p.waiting; transmits = k; sent = some clock }) one)

-- nothing is put

pub put_none : (buf : Bytes) (at : ℕ) → put buf at [] ≡ buf
unfolding put
put_none buf at =
    let e : at + 0 ≡ at = omega arith in
    ap (λ (k : ℕ). take at buf ++ drop k buf) e ∙ take-append-drop at buf

pub written_none : (at : ℕ) (buf : Bytes) (store : Slots model.Packet) → PutInBuffer (record { datagrams = []; outgoing = store }) at buf at buf store
written_none at buf store = record { bytes = sym (put_none buf at); count = let e : at ≡ at + 0 = omega arith in e; marks = refl }

-- the datagrams of one entry and the store after it: what the code copies and marks

module _ (clock : ℕ) where
  pub sends_state : (headers : Bytes) (place : ℕ) (o : Slots model.Packet) → length headers ≡ 1_280 → place < 64
      → send_entry clock (model.state (cut header_slot headers place 20)) o
      ≡ record { datagrams = take 20 (drop (place * 20) headers) ∷ []; outgoing = o }
  unfolding send_entry
  sends_state headers place o e h = ap (λ (b : Bytes). record { datagrams = b ∷ []; outgoing = o }) (sym (state-bytes headers place e h))

  module _ (s : Sender) (sent : List ℕ) (outgoing : Bytes) (n l : ℕ) where
    pub sends_gone : is_there s sent n ≡ false
        → send_entry clock (model.packet n l) (store_seen s sent outgoing)
        ≡ record { datagrams = []; outgoing = store_seen s sent outgoing }
    unfolding send_entry
    sends_gone z = rw (get_there s sent outgoing n, z) refl

    pub sends_packet : is_there s sent n ≡ true → length sent ≡ 64 → length outgoing ≡ 44_800 → TransmitBounds (sent_in sent (n % ceiling)) 30
        → n < 2 ^ 32 → clock < 2 ^ 60
        → let v = sent_in sent (n % ceiling) in
        send_entry clock (model.packet n l) (store_seen s sent outgoing)
        ≡ record {
          datagrams = take v.length (drop (v.number % 32 * 1_400) outgoing) ∷ [];
          outgoing = store_seen s (with_sent sent v.number (taken_packet v clock)) outgoing;
        }
    unfolding send_entry
    sends_packet there words slots within fits early =
        let w = sent_in sent (n % ceiling) in
        let number = stored_number w n (there_stored s sent outgoing n there) in
        rw (get_there s sent outgoing n, there)
        (ap₂ (λ (b : Bytes) (o : Slots model.Packet). record { datagrams = b ∷ []; outgoing = o })
        (sym (ap (λ (k : ℕ). take w.length (drop (k % 32 * 1_400) outgoing)) number
        ∙ packet_bytes outgoing (n % 32) w.length slots (omega arith) within.short))
        (sym (ap (λ (k : ℕ). store_seen s (with_sent sent k (taken_packet w clock)) outgoing) number
        ∙ mark_there s sent outgoing n there clock words within fits early)))

-- what the proof of `transmit` cites
pub ruleset sending = (state_length, packet_length, put_none, append-nil, sends_state, sends_gone, sends_packet)
