-- The queue: the rules over its words are its layout and the model's rules of the entries seen. There are as many entries as words, with
-- the same state packets and packet numbers; while some are left to take, the entries are exactly those left.
use Prim.Native.Nat.{ℕ, ◌+◌, ◌%◌, ◌≤◌, ◌<◌}
use native.Mathlib.Omega.{arith}
use mathlib.Core.Path.{◌≡◌, refl, sym, ap, ap₂, ◌∙◌}
use mathlib.Core.List.{List, [], ◌∷◌, ◌++◌}
use mathlib.Core.Option.{none, some}
use mathlib.Core.Bool.{Bool, true, false, cond, ◌&&◌, ◌||◌, and_assoc, and_comm}
use lib.Dec.{ltb, leb, eqb}
use lib.ListN.{length, length-take, length-drop}
use borrow.Author.Tests.{leb-true, eqb-true, eqb-false, lt-ltb, eq-eqb}
use Rattle.model.specs.Lists.{Bytes, on}
use Rattle.model.specs.Slots.{Slots, ceiling, get}
use Rattle.model.specs.Stream as model
use Rattle.model.specs.Rules.{every, states, numbers, entry_test, queue_test}
use Rattle.records_words.specs.declared.Entry.{Entry}
use Rattle.records_words.specs.declared.Entry.TheVariants.{State, Packet}
use Rattle.records.specs.declared.Sender.{Sender}
use Rattle.records.specs.declared.Queue.{Queue}
use Rattle.records_words.specs.Words.{sent_in, is_stored, entry_of}
use Rattle.records.specs.Seen.{packet_of, seen_outgoing, seen_sender, entry_words, entry_seen, place_after, seen_entries, seen_queue, formed_queue}
use Rattle.rules_queue.specs.Entries.{stored_length, same_length, entry_ok, entries_ok, states_of, numbers_of, state_count, packet_numbers, at_rest_ok, to_take_ok, ok_queue}
use Rattle.records.proofs.Cut.{cut_length}
use Rattle.records.proofs.SeenQueue.{entries_length}
use Rattle.rules_packets.proofs.SeenPackets.{outgoing_found}

-- the entries of some words

module _ (headers : Bytes) where
  states_first : (place : ℕ) (x : Entry) (ms : List model.Entry) → states (entry_seen headers place x ∷ ms) ≡ states_of x + states ms
  states_first place State ms = omega arith
  states_first place (Packet x) ms = omega arith

  pub entries_states : (place : ℕ) (ws : List ℕ) → states (seen_entries headers place ws) ≡ state_count ws
  entries_states place [] = refl
  entries_states place (w ∷ ws) =
      let next = place_after place (entry_of w) in
      states_first place (entry_of w) (seen_entries headers next ws) ∙ ap (λ k. states_of (entry_of w) + k) (entries_states next ws)

  numbers_first : (place : ℕ) (x : Entry) (ms : List model.Entry) → numbers (entry_seen headers place x ∷ ms) ≡ numbers_of x ++ numbers ms
  numbers_first place State ms = refl
  numbers_first place (Packet x) ms = refl

  pub entries_numbers : (place : ℕ) (ws : List ℕ) → numbers (seen_entries headers place ws) ≡ packet_numbers ws
  entries_numbers place [] = refl
  entries_numbers place (w ∷ ws) =
      let next = place_after place (entry_of w) in
      numbers_first place (entry_of w) (seen_entries headers next ws) ∙ ap (λ ns. numbers_of (entry_of w) ++ ns) (entries_numbers next ws)

  module _ (s : Sender) (sent : List ℕ) (bytes : Bytes) where
    abbrev outgoing : Slots model.Packet
    outgoing = seen_outgoing s.remote_acked s.seq sent bytes

    same_length_lem : (n l : ℕ) → on (get outgoing n) true (λ p. eqb l (length p.bytes)) ≡ same_length l (stored_length s sent n)
    same_length_lem n l = rw (outgoing_found s.remote_acked s.seq sent bytes n) (go (leb s.remote_acked n && (ltb n s.seq && is_stored (sent_in sent (n % ceiling)) n)))
      where
        go : (b : Bool)
            → on (cond b (some (packet_of bytes (n % ceiling) (sent_in sent (n % ceiling)))) none) true (λ p. eqb l (length p.bytes))
            ≡ same_length l (cond b (some (sent_in sent (n % ceiling)).length) none)
        go true = rw cut_length
        go false = refl

    entry_same : (place : ℕ) (x : Entry) → entry_test outgoing (entry_seen headers place x) ≡ entry_ok s sent x
    entry_same place State = rw cut_length
    entry_same place (Packet x) = rw (same_length_lem x.number x.length)

    pub entries_every : (place : ℕ) (ws : List ℕ) → every (entry_test outgoing) (seen_entries headers place ws) ≡ entries_ok s sent ws
    entries_every place [] = refl
    entries_every place (w ∷ ws) = ap₂ ◌&&◌ (entry_same place (entry_of w)) (entries_every (place_after place (entry_of w)) ws)

-- while entries are left to take, the queue is exactly those left
pub left_length : (q : Queue) (words : List ℕ) → length words ≡ 128 → q.count ≤ 128 → q.left ≤ q.count → eqb q.left 0 ≡ false → length (entry_words q words) ≡ q.left
unfolding entry_words
left_length q words len h k z = rw z (simp (length-drop, length-take) (omega arith))

-- the tests over the words, regrouped as layout and rules; the tests themselves are arbitrary
module _ (count left n : ℕ) (whole : count ≤ 128 → left ≤ count → eqb left 0 ≡ false → n ≡ left) (entries rest taking room states gone : Bool) where
  order : (a b : Bool) → (entries && (a && b)) ≡ (b && (entries && a))
  order a b = sym (and_assoc entries a b) ∙ and_comm (entries && a) b

  chains : (leb count 128 && (leb left count && (entries && (cond (eqb left 0) rest taking && (room && (states && cond (eqb left 0) gone true))))))
      ≡ ((leb count 128 && (leb left count && (room && (states && (ltb 0 left || gone))))) && (entries && cond (eqb left 0) rest (eqb left n && taking)))
  chains = go (leb count 128) refl (leb left count) refl (eqb left 0) refl
    where
      some_left : (m : ℕ) → eqb m 0 ≡ false → 0 < m
      some_left m z = let ne = eqb-false m 0 z in omega arith

      go : (c : Bool) → leb count 128 ≡ c → (l : Bool) → leb left count ≡ l → (z : Bool) → eqb left 0 ≡ z
          → (c && (l && (entries && (cond z rest taking && (room && (states && cond z gone true))))))
          ≡ ((c && (l && (room && (states && (ltb 0 left || gone))))) && (entries && cond z rest (eqb left n && taking)))
      go true h true k true e = rw (eqb-true left 0 e) (order rest (room && (states && gone)))
      go true h true k false e =
          rw (eq-eqb left n (sym (whole (leb-true count 128 h) (leb-true left count k) e)), lt-ltb 0 left (some_left left e)) (order taking (room && (states && true)))
      go true h false k z e = refl
      go false h l k z e = refl

pub queue_seen : (q : Queue) (s : Sender) (queue sent : List ℕ) (bytes headers : Bytes) → length queue ≡ 128
    → let m = seen_sender s sent bytes in
    let n = seen_queue q queue headers in
    ok_queue q s queue sent ≡ (formed_queue q queue && (every (entry_test m.outgoing) n.entries && queue_test m n))
unfolding ok_queue seen_queue
queue_seen q s queue sent bytes headers len =
    let ws = entry_words q queue in
    rw (
      entries_every headers s sent bytes q.gone ws,
      entries_numbers headers q.gone ws,
      entries_states headers q.gone ws,
      entries_length headers q.gone ws,
      entries_states [] 0 ws,
    )
    (chains q.count q.left (length ws) (left_length q queue len) (entries_ok s sent ws) (at_rest_ok s ws) (to_take_ok ws)
    (leb q.states 64) (eqb q.states (q.gone + state_count ws)) (eqb q.gone 0))
